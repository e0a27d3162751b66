use Rattle.std.proofs.Common.{sym, arith}
use Rattle.trimming.proofs.ChainLaws.{in_chain_parts, asking_start, asking_more, asking_end, asking_broken}
use Rattle.trimming.proofs.heads.Falling.chain_falls.Goals as goal

pub chain-init : goal.chain-init
chain-init c = rw c.end-before.ensures.end (omega arith, asking_start _ _ _ _)

pub returns-then-not-in_chain : goal.returns-then-not-in_chain
returns-then-not-in_chain c = sym (asking_broken _ _ _ _ _ c.chain.invariant.1 c.chain-test.true (sym c.if-not-in_chain.ensures))

pub cell-k-requires : goal.cell-k-requires
cell-k-requires c =
    let p = in_chain_parts _ _ _ c.chain.k (sym c.if-not-in_chain.ensures) in
    (omega (arith, p.0), omega (arith, p.1))

pub chain-smaller : goal.chain-smaller
chain-smaller c =
    let p = in_chain_parts _ _ _ c.chain.k (sym c.if-not-in_chain.ensures) in
    omega (arith, p.1)

pub chain-preserved : goal.chain-preserved
chain-preserved c =
    let p = in_chain_parts _ _ _ c.chain.k (sym c.if-not-in_chain.ensures) in
    (omega (arith, p.1), rw c.cell-k.ensures (asking_more _ _ _ _ _ c.chain.invariant.1 c.chain-test.true (sym c.if-not-in_chain.ensures)))

pub returns : goal.returns
returns c = sym (asking_end _ _ _ _ _ c.chain.invariant.1 c.chain-test.false)

pub overflow_sub-before : goal.overflow_sub-before
overflow_sub-before c =
    let p = in_chain_parts _ _ _ c.chain.k (sym c.if-not-in_chain.ensures) in
    omega (arith, p.0)
