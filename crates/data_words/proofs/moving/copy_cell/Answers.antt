use Rattle.std.proofs.lemmas.Result.{err_from_is_err_and}
use Rattle.data_words.proofs.Finishing.{copy_short, copy_done}
use Rattle.data_words.proofs.moving.copy_cell.Goals as goal

pub returns-in_err-need : goal.returns-in_err-need
returns-in_err-need c =
    let p = err_from_is_err_and c.from_residual.result c.from_residual.ensures.1 in
    let h = c.in_err-need.ensures in
    rw (p.1, p.2) (copy_short c.args.registers.now c.args.cells.now c.told-cells c.args.k _ h.0 h.1)

pub returns : goal.returns
returns c =
    copy_done c.args.registers.now c.leave.new.registers c.args.cells.now c.leave.new.cells c.told-cells
    c.args.k c.cell-x.result c.leave.result c.in_ok-need.ensures c.cell-x.ensures c.leave.ensures
