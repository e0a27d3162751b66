use Rattle.std.proofs.Common.{arith}
use Rattle.dictionary.proofs.Growing.{outside_none, outside_then}
use Rattle.kernel.proofs.Loads.{loading_start, loading_word, loading_more, loading_end}
use Rattle.kernel.proofs.kernel_words.Goals as goal

pub loop-name-init : goal.loop-name-init
loop-name-init c = (loading_start _ _ _ c.requires.rows, outside_none _)

pub invariant_of-header : goal.invariant_of-header
invariant_of-header c =
    let w = loading_word _ _ _ _ _ _ _ c.loop-name.invariant.0 c.loop-name-test.true in
    record {
      flagged = c.flags_of.ensures.within;
      named = w.some;
      short = w.short;
      text = w.text;
    }

pub kernel_word-requires : goal.kernel_word-requires
kernel_word-requires c =
    let w = loading_word _ _ _ _ _ _ _ c.loop-name.invariant.0 c.loop-name-test.true in
    omega (arith, w.short, c.loop-name.invariant.0.room, c.requires.space)

pub overflow_add-number : goal.overflow_add-number
overflow_add-number c = omega (arith, c.loop-name.invariant.0.counts, c.requires.space)

pub loop-name-preserved : goal.loop-name-preserved
loop-name-preserved c = (
  loading_more _ _ _ _ _ _ _ c.loop-name.invariant.0 _ _ _ c.loop-name-test.true c.flags_of.ensures.flags c.kernel_word.ensures.made c.kernel_word.ensures.dp,
  outside_then c.loop-name.invariant.1 c.kernel_word.ensures.rest,
)

pub returns : goal.returns
returns c = record { made = loading_end _ _ _ _ _ _ _ c.loop-name.invariant.0 c.loop-name-test.false; rest = c.loop-name.invariant.1 }
