use Rattle.std.proofs.lemmas.Result.{err_from_is_err_and}
use Rattle.steps.proofs.Exits.{leave_full, leave_done}
use Rattle.steps.proofs.cells.leave.Goals as goal

pub returns-in_err-room : goal.returns-in_err-room
returns-in_err-room c =
    let p = err_from_is_err_and c.from_residual.result c.from_residual.ensures.1 in
    let h = c.in_err-room.ensures in
    rw (p.1, p.2) (leave_full c.args.registers.now c.args.cells.now c.args.x _ c.told-cells h.0 h.1)

pub returns : goal.returns
returns c =
    leave_done c.args.registers.now c.push.new.registers c.args.cells.now c.push.new.cells c.args.x
    c.told-cells c.in_ok-room.ensures c.push.ensures.shared c.push.ensures.seat c.push.ensures.stack
