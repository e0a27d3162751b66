use Rattle.std.proofs.Common.{ap}
use Rattle.std.proofs.lemmas.Result.{err_from_is_err_and}
use Rattle.definition.specs.declared.registers.Seat.{Seat}
use Rattle.inner_words.proofs.Entered.{does_outside, does_over, does_returns_over, does_done}
use Rattle.inner_words.proofs.entering.does_word.Goals as goal

pub returns-in_err-ask_inside : goal.returns-in_err-ask_inside
returns-in_err-ask_inside c =
    let p = err_from_is_err_and c.from_residual.result c.from_residual.ensures.1 in
    let h = c.in_err-ask_inside.ensures in
    rw (p.1, p.2) (does_outside c.args.registers.now c.args.image.now c.args.cells.now c.args.returns.now c.told-image c.told-cells c.told-returns c.args.token _ h.0 h.1)

pub returns-in_err-room : goal.returns-in_err-room
returns-in_err-room c =
    let p = err_from_is_err_and c.from_residual-in_err-room.result c.from_residual-in_err-room.ensures.1 in
    let h = c.in_err-room.ensures in
    rw (p.1, p.2) (does_over c.args.registers.now c.args.image.now c.args.cells.now c.args.returns.now c.told-image c.told-cells c.told-returns c.args.token _ c.in_ok-ask_inside.ensures.0 h.0 h.1)

pub returns-in_err-room-2 : goal.returns-in_err-room-2
returns-in_err-room-2 c =
    let p = err_from_is_err_and c.from_residual-in_err-room-2.result c.from_residual-in_err-room-2.ensures.1 in
    let h = c.in_err-room-2.ensures in
    rw (p.1, p.2) (does_returns_over c.args.registers.now c.args.image.now c.args.cells.now c.args.returns.now c.told-image c.told-cells c.told-returns c.args.token _ c.in_ok-ask_inside.ensures.0 c.in_ok-room.ensures h.0 h.1)

pub returns : goal.returns
returns c =
    does_done c.args.registers.now c.args.image.now c.args.cells.now c.args.returns.now c.told-image c.told-cells c.told-returns c.args.token
    c.push.new.registers c.enter.new.registers c.push.new.cells c.enter.new.returns c.body_at-body.result c.code_at-code.result
    c.in_ok-ask_inside.ensures.0 c.in_ok-room.ensures c.in_ok-room-2.ensures c.body_at-body.ensures c.code_at-code.ensures
    (record { shared = c.push.ensures.shared; seat = c.push.ensures.seat; stack = c.push.ensures.stack }) (ap (λ (y : Seat). y.flow.ip) c.push.ensures.seat) c.enter.ensures
