use Rattle.std.proofs.Common.{arith}
use Rattle.std.proofs.lemmas.Result.{err_from_is_err_and}
use Rattle.data_words.proofs.Acting.{drop_word, drop-acts}
use Rattle.data_words.proofs.Ends.{cells_short}
use Rattle.data_words.proofs.Finishing.{drop_done}
use Rattle.data_words.proofs.moving.drop_cell.Goals as goal

pub returns-in_err-need : goal.returns-in_err-need
returns-in_err-need c =
    let p = err_from_is_err_and c.from_residual.result c.from_residual.ensures.1 in
    let h = c.in_err-need.ensures in
    rw (p.1, p.2) (cells_short 2 drop_word drop-acts c.args.registers.now c.args.cells.now _ c.told-cells (omega arith) h.0 h.1)

pub returns : goal.returns
returns c = drop_done c.args.registers.now c.release.new.registers c.args.cells.now c.args.cells.now c.told-cells c.in_ok-need.ensures (record { shared = c.release.ensures.shared; seat = c.release.ensures.seat; stack = c.release.ensures.stack })
