use Rattle.std.proofs.Common.{◌≡◌, inl, inr}
use Rattle.definition.specs.Kernel
use Rattle.inner_words.specs.declared.words.ReturnsWord.{ReturnsWord}
use Rattle.inner_words.specs.Numbers.{returns_number, copied_place}
use Rattle.inner_words.proofs.Doing.{Acts, copied, r_fetch_acts, index_acts, outer_index_acts}
use Rattle.inner_words.proofs.returning.returns_word.Goals as goal

pub returns-in-Exit : goal.returns-in-Exit
returns-in-Exit c = rw c.in-Exit.is c.exit.ensures

pub returns-in-ToR : goal.returns-in-ToR
returns-in-ToR c = rw c.in-ToR.is c.to_r.ensures

pub returns-in-RFrom : goal.returns-in-RFrom
returns-in-RFrom c = rw c.in-RFrom.is c.r_from.ensures

pub returns-in-RFetch : goal.returns-in-RFetch
returns-in-RFetch c =
    let by = λ (w : ReturnsWord) (p : c.args.word ≡ w) (q : Acts (returns_number w) (Kernel.copy_at (copied_place w))).
    copied c.args.registers.now c.args.cells.now c.args.returns.now c.told-cells c.told-returns c.args.word w p q _ c.copied_place.ensures c.copy_at.result c.copy_at.new.registers c.copy_at.new.cells c.copy_at.ensures in
    elim c.in-RFetch.is [
      | inl p ↦ by ReturnsWord.RFetch p r_fetch_acts
      | inr (inl p) ↦ by ReturnsWord.Index p index_acts
      | inr (inr p) ↦ by ReturnsWord.OuterIndex p outer_index_acts
    ]

pub returns-in-Leave : goal.returns-in-Leave
returns-in-Leave c = rw c.in-Leave.is c.leave.ensures
