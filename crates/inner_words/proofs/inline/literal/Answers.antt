use Rattle.std.proofs.lemmas.Result.{err_from_is_err_and}
use Rattle.inner_words.proofs.Inlining.{lit_over, lit_bad, lit_done}
use Rattle.inner_words.proofs.inline.literal.Goals as goal

pub returns-in_err-room : goal.returns-in_err-room
returns-in_err-room c =
    let p = err_from_is_err_and c.from_residual.result c.from_residual.ensures.1 in
    let h = c.in_err-room.ensures in
    rw (p.1, p.2) (lit_over c.args.registers.now c.args.image.now c.args.cells.now c.args.returns.now c.told-image c.told-cells c.told-returns _ h.0 h.1)

pub returns-in_err-x : goal.returns-in_err-x
returns-in_err-x c =
    let p = err_from_is_err_and c.from_residual-in_err-x.result c.from_residual-in_err-x.ensures.1 in
    let h = c.in_err-x.ensures in
    rw (p.1, p.2) (lit_bad c.args.registers.now c.args.image.now c.args.cells.now c.args.returns.now c.told-image c.told-cells c.told-returns _ c.in_ok-room.ensures h.0 h.1)

pub returns : goal.returns
returns c =
    lit_done c.args.registers.now c.args.image.now c.args.cells.now c.args.returns.now c.told-image c.told-cells c.told-returns c.skip.new.registers c.push.new.registers c.push.new.cells _ c.in_ok-room.ensures c.in_ok-x.ensures.0 c.in_ok-x.ensures.1
    (record { shared = c.skip.ensures.shared; seat = c.skip.ensures.seat }) (record { shared = c.push.ensures.shared; seat = c.push.ensures.seat; stack = c.push.ensures.stack })
