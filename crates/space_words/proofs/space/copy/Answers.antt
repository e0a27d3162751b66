use Rattle.std.proofs.Common.{refl, ap, ◌∙◌, arith}
use Rattle.std.proofs.lemmas.Result.{err_from_is_err_and}
use Rattle.definition.specs.Kernel
use Rattle.image.specs.Writes.{moved_up}
use Rattle.space_words.proofs.Doing.{copy_acts}
use Rattle.space_words.proofs.Ends.{space_short, copy_from_far, copy_to_far, copy_done}
use Rattle.space_words.proofs.space.copy.Goals as goal

pub returns-in_err-need : goal.returns-in_err-need
returns-in_err-need c =
    let p = err_from_is_err_and c.from_residual.result c.from_residual.ensures.1 in
    let h = c.in_err-need.ensures in
    record { did = rw (p.1, p.2) (space_short 39 Kernel.move copy_acts c.args.registers.now c.args.image.now c.args.cells.now _ c.told-cells (omega arith) h.0 h.1); below = refl }

pub returns-in_err-reach : goal.returns-in_err-reach
returns-in_err-reach c =
    let p = err_from_is_err_and c.from_residual-in_err-reach.result c.from_residual-in_err-reach.ensures.1 in
    let h = c.in_err-reach.ensures in
    record { did = rw (p.1, p.2) (copy_from_far c.args.registers.now c.args.image.now c.args.cells.now c.told-image c.told-cells c.cell-n.result c.cell-to.result c.cell-from.result _ c.in_ok-need.ensures c.cell-n.ensures c.cell-to.ensures c.cell-from.ensures h.0 h.1); below = refl }

pub returns-in_err-reach-2 : goal.returns-in_err-reach-2
returns-in_err-reach-2 c =
    let p = err_from_is_err_and c.from_residual-in_err-reach-2.result c.from_residual-in_err-reach-2.ensures.1 in
    let h = c.in_err-reach-2.ensures in
    record { did = rw (p.1, p.2) (copy_to_far c.args.registers.now c.args.image.now c.args.cells.now c.told-image c.told-cells c.cell-n.result c.cell-to.result c.cell-from.result _ c.in_ok-need.ensures c.cell-n.ensures c.cell-to.ensures c.cell-from.ensures c.in_ok-reach.ensures.0 h.0 h.1); below = refl }

pub returns : goal.returns
returns c =
    let i = c.args.image.now in
    let d =
    copy_done c.args.registers.now c.args.image.now c.args.cells.now c.told-image c.told-cells c.release.new.registers c.move_up.new.image c.cell-n.result c.cell-to.result c.cell-from.result c.in_ok-need.ensures c.cell-n.ensures c.cell-to.ensures c.cell-from.ensures
    c.in_ok-reach.ensures.0 c.in_ok-reach-2.ensures.0
    (c.move_up.ensures.after ∙ ap (λ y. moved_up c.from-3.result y c.from-2.result i) c.from.ensures ∙ ap (λ y. moved_up c.from-3.result c.cell-from.result y i) c.from-2.ensures ∙ ap (λ y. moved_up y c.cell-from.result c.cell-to.result i) c.from-3.ensures)
    (record { shared = c.release.ensures.shared; seat = c.release.ensures.seat; stack = c.release.ensures.stack }) in
    record { did = d.0; below = d.1 }
