use Rattle.std.proofs.lemmas.Result.{err_from_is_err_and}
use Rattle.inner_words.proofs.Doing.{copy_over, copy_short, copy_done}
use Rattle.inner_words.proofs.returning.copy_at.Goals as goal

pub returns-in_err-room : goal.returns-in_err-room
returns-in_err-room c =
    let p = err_from_is_err_and c.from_residual.result c.from_residual.ensures.1 in
    let h = c.in_err-room.ensures in
    rw (p.1, p.2) (copy_over c.args.registers.now c.args.cells.now c.args.returns.now c.told-cells c.told-returns c.args.k _ h.0 h.1)

pub returns-in_err-need : goal.returns-in_err-need
returns-in_err-need c =
    let p = err_from_is_err_and c.from_residual-in_err-need.result c.from_residual-in_err-need.ensures.1 in
    let h = c.in_err-need.ensures in
    rw (p.1, p.2) (copy_short c.args.registers.now c.args.cells.now c.args.returns.now c.told-cells c.told-returns c.args.k _ c.in_ok-room.ensures h.0 h.1)

pub returns : goal.returns
returns c =
    copy_done c.args.registers.now c.args.cells.now c.args.returns.now c.told-cells c.told-returns c.args.k c.push.new.registers c.push.new.cells c.cell-x.result c.in_ok-room.ensures c.in_ok-need.ensures c.cell-x.ensures
    (record { shared = c.push.ensures.shared; seat = c.push.ensures.seat; stack = c.push.ensures.stack })
