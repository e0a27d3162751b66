use Rattle.std.proofs.Common.{get_or, ◌%◌, replicate, refl, ap, ◌∙◌, arith}
use Rattle.std.proofs.lemmas.Result.{err_from_is_err_and}
use Rattle.definition.specs.Kernel
use Rattle.image.specs.Writes.{overwritten}
use Rattle.space_words.proofs.Doing.{fill_acts}
use Rattle.space_words.proofs.Ends.{space_short, fill_too_far, fill_done}
use Rattle.space_words.proofs.space.fill.Goals as goal

pub returns-in_err-need : goal.returns-in_err-need
returns-in_err-need c =
    let p = err_from_is_err_and c.from_residual.result c.from_residual.ensures.1 in
    let h = c.in_err-need.ensures in
    record { did = rw (p.1, p.2) (space_short 40 Kernel.fill fill_acts c.args.registers.now c.args.image.now c.args.cells.now _ c.told-cells (omega arith) h.0 h.1); below = refl }

pub returns-in_err-reach : goal.returns-in_err-reach
returns-in_err-reach c =
    let p = err_from_is_err_and c.from_residual-in_err-reach.result c.from_residual-in_err-reach.ensures.1 in
    let h = c.in_err-reach.ensures in
    record { did = rw (p.1, p.2) (fill_too_far c.args.registers.now c.args.image.now c.args.cells.now c.told-image c.told-cells c.cell-address.result c.cell-n.result _ c.in_ok-need.ensures c.cell-address.ensures c.cell-n.ensures h.0 h.1); below = refl }

pub returns : goal.returns
returns c =
    let x = get_or c.to_le_bytes.result 0 0 in
    let d =
    fill_done c.args.registers.now c.args.image.now c.args.cells.now c.told-image c.told-cells c.release.new.registers c.fill.new.image c.cell-address.result c.cell-n.result x c.in_ok-need.ensures c.cell-address.ensures c.cell-n.ensures (ap (λ y. get_or y 0 0) c.to_le_bytes.ensures ∙ ap (λ y. y % 256) c.cell.ensures) c.in_ok-reach.ensures.0
    (c.fill.ensures.written ∙ ap (λ y. overwritten y (replicate c.from-2.result x) c.args.image.now) c.from.ensures ∙ ap (λ y. overwritten c.cell-address.result (replicate y x) c.args.image.now) c.from-2.ensures)
    (record { shared = c.release.ensures.shared; seat = c.release.ensures.seat; stack = c.release.ensures.stack }) in
    record { did = d.0; below = d.1 }
