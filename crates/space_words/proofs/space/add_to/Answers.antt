use Rattle.std.proofs.Common.{◌+◌, refl, ap, ◌∙◌, arith}
use Rattle.numbers.specs.Cells.{wrap}
use Rattle.std.proofs.lemmas.Result.{err_from_is_err_and}
use Rattle.definition.specs.Kernel
use Rattle.image.specs.Cells.{cell, cell_at}
use Rattle.image.specs.Writes.{overwritten}
use Rattle.space_words.proofs.Doing.{add_acts}
use Rattle.space_words.proofs.Ends.{space_short, add_too_far, add_done}
use Rattle.space_words.proofs.space.add_to.Goals as goal

pub returns-in_err-need : goal.returns-in_err-need
returns-in_err-need c =
    let p = err_from_is_err_and c.from_residual.result c.from_residual.ensures.1 in
    let h = c.in_err-need.ensures in
    record { did = rw (p.1, p.2) (space_short 36 Kernel.add_to add_acts c.args.registers.now c.args.image.now c.args.cells.now _ c.told-cells (omega arith) h.0 h.1); below = refl }

pub returns-in_err-reach : goal.returns-in_err-reach
returns-in_err-reach c =
    let p = err_from_is_err_and c.from_residual-in_err-reach.result c.from_residual-in_err-reach.ensures.1 in
    let h = c.in_err-reach.ensures in
    record { did = rw (p.1, p.2) (add_too_far c.args.registers.now c.args.image.now c.args.cells.now c.told-image c.told-cells c.cell-address.result _ c.in_ok-need.ensures c.cell-address.ensures h.0 h.1); below = refl }

pub returns : goal.returns
returns c =
    let d =
    add_done c.args.registers.now c.args.image.now c.args.cells.now c.told-image c.told-cells c.release.new.registers c.store.new.image c.cell-address.result c.cell-x.result c.fetch-old.result c.in_ok-need.ensures c.cell-address.ensures c.cell-x.ensures c.in_ok-reach.ensures.0
    (c.fetch-old.ensures.value ∙ ap (cell_at c.args.image.now) c.from.ensures)
    (c.store.ensures.written ∙ ap (λ y. overwritten y (cell (wrap (c.fetch-old.result + c.cell-x.result))) c.args.image.now) c.from-2.ensures)
    (record { shared = c.release.ensures.shared; seat = c.release.ensures.seat; stack = c.release.ensures.stack }) in
    record { did = d.0; below = d.1 }
