use Rattle.std.proofs.Common.{◌≡◌, ◌++◌, vec_items}
use Rattle.store.specs.Texts.{laid_out, lines_of}
use Rattle.store.proofs.text_card.laid_out.Given as goal

abbrev pub invariant-loop-line : goal.invariant-loop-line
invariant-loop-line l = vec_items l.bytes ++ laid_out (lines_of l.line-iterator.rest.now) ≡ laid_out (lines_of l.text)
