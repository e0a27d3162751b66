use Rattle.std.proofs.lemmas.Result.{err_from_is_err_and}
use Rattle.data_words.proofs.Finishing.{roll_short, roll_cell_done}
use Rattle.data_words.proofs.moving.roll_cell.Goals as goal

pub returns-in_err-need : goal.returns-in_err-need
returns-in_err-need c =
    let p = err_from_is_err_and c.from_residual.result c.from_residual.ensures.1 in
    let h = c.in_err-need.ensures in
    rw (p.1, p.2) (roll_short c.args.registers.now c.args.cells.now c.told-cells c.args.k _ h.0 h.1)

pub returns : goal.returns
returns c = roll_cell_done c.args.registers.now c.args.cells.now c.told-cells c.roll.new.cells c.args.k c.from.result c.from.ensures c.in_ok-need.ensures (c.roll.ensures 0)
