use Rattle.std.proofs.lemmas.Result.{err_from_is_err_and}
use Rattle.inner_words.proofs.Doing.{to_r_short, to_r_over, to_r_done}
use Rattle.inner_words.proofs.returning.to_r.Goals as goal

pub returns-in_err-need : goal.returns-in_err-need
returns-in_err-need c =
    let p = err_from_is_err_and c.from_residual.result c.from_residual.ensures.1 in
    let h = c.in_err-need.ensures in
    rw (p.1, p.2) (to_r_short c.args.registers.now c.args.cells.now c.args.returns.now c.told-cells c.told-returns _ h.0 h.1)

pub returns-in_err-room : goal.returns-in_err-room
returns-in_err-room c =
    let p = err_from_is_err_and c.from_residual-in_err-room.result c.from_residual-in_err-room.ensures.1 in
    let h = c.in_err-room.ensures in
    rw (p.1, p.2) (to_r_over c.args.registers.now c.args.cells.now c.args.returns.now c.told-cells c.told-returns _ c.in_ok-need.ensures h.0 h.1)

pub returns : goal.returns
returns c =
    to_r_done c.args.registers.now c.args.cells.now c.args.returns.now c.told-cells c.told-returns c.release.new.registers c.push.new.registers c.push.new.cells c.cell-x.result c.in_ok-need.ensures c.in_ok-room.ensures c.cell-x.ensures
    (record { shared = c.release.ensures.shared; seat = c.release.ensures.seat; stack = c.release.ensures.stack }) (record { shared = c.push.ensures.shared; seat = c.push.ensures.seat; stack = c.push.ensures.stack })
