use Rattle.std.proofs.Common.{length, refl, arith}
use Rattle.trimming.proofs.ChainLaws.{chained_on, skip_facts, skip_kept, kept_link}
use Rattle.trimming.proofs.heads.Falling.first_kept.Goals as goal

pub chain-init : goal.chain-init
chain-init c = record { before = length c.args.self.now.entries; vs = _; within = omega arith; chain = chained_on _ _ _ _ _ _ c.requires.1 (omega arith); same = refl }

pub cell-k-requires : goal.cell-k-requires
cell-k-requires c = let p = skip_facts _ _ _ _ _ c.chain.invariant c.chain-test.true in (omega (arith, p.3), omega (arith, p.0))

pub chain-smaller : goal.chain-smaller
chain-smaller c = let p = skip_facts _ _ _ _ _ c.chain.invariant c.chain-test.true in omega (arith, p.1, c.cell-k.ensures)

pub chain-preserved : goal.chain-preserved
chain-preserved c = rw c.cell-k.ensures (skip_facts _ _ _ _ _ c.chain.invariant c.chain-test.true).2

pub returns : goal.returns
returns c =
    let t = skip_kept _ _ _ _ _ c.chain.invariant c.chain-test.false in
    record { link = kept_link _ _ _ _ _ t; kept = t }
