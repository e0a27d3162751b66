use Rattle.std.proofs.Common.{arith}
use Rattle.dictionary.proofs.Growing.{outside_none, outside_then}
use Rattle.trimming.proofs.ChainLaws.{moving_start, moving_facts, moving_again, moving_end}
use Rattle.trimming.proofs.chain.lower_vocabularies.Goals as goal

pub chain-init : goal.chain-init
chain-init c = (moving_start _ _ _ _ _ c.requires.1.1, outside_none _)

pub overflow_sub-k : goal.overflow_sub-k
overflow_sub-k c = let p = moving_facts _ _ _ _ _ _ c.chain.invariant.0 c.chain-test.true in omega (arith, p.0)

pub lower_threads-requires : goal.lower_threads-requires
lower_threads-requires c = let p = moving_facts _ _ _ _ _ _ c.chain.invariant.0 c.chain-test.true in
    (omega (arith, p.0), (omega (arith, p.0, p.1), (omega (arith, p.0, p.1), p.2)))

pub returns : goal.returns
returns c = let t = moving_end _ _ _ _ _ _ c.chain.invariant.0 c.chain-test.false in
    record { bytes = t.0; newest = t.1; rest = c.chain.invariant.1 }

pub overflow_sub-k-in-chain : goal.overflow_sub-k-in-chain
overflow_sub-k-in-chain c = let p = moving_facts _ _ _ _ _ _ c.chain.invariant.0 c.chain-test.true in omega (arith, p.0)

pub youngest_in-requires : goal.youngest_in-requires
youngest_in-requires c = let p = moving_facts _ _ _ _ _ _ c.chain.invariant.0 c.chain-test.true in
    (omega (arith, p.0), (omega (arith, p.0, p.1), omega arith))

pub cell-k-requires : goal.cell-k-requires
cell-k-requires c = let p = moving_facts _ _ _ _ _ _ c.chain.invariant.0 c.chain-test.true in
    (omega (arith, p.0), omega (arith, p.0, p.1))

pub chain-smaller : goal.chain-smaller
chain-smaller c =
    let link = rw c.entries-entries.ensures.bytes at c.cell-k.ensures in
    let young = rw c.entries-entries.ensures.bytes at c.youngest_in.ensures in
    (moving_again _ _ _ _ _ _ _ _ _ _ c.chain.invariant.0 c.chain-test.true c.lower_threads.ensures.bytes link young c.max-newest.ensures).0

pub chain-preserved : goal.chain-preserved
chain-preserved c =
    let link = rw c.entries-entries.ensures.bytes at c.cell-k.ensures in
    let young = rw c.entries-entries.ensures.bytes at c.youngest_in.ensures in (
      (moving_again _ _ _ _ _ _ _ _ _ _ c.chain.invariant.0 c.chain-test.true c.lower_threads.ensures.bytes link young c.max-newest.ensures).1,
      outside_then c.chain.invariant.1 c.lower_threads.ensures.rest,
    )
