use Rattle.std.proofs.lemmas.Result.{err_from_is_err_and}
use Rattle.inner_words.proofs.Inlining.{do_few, do_over, do_bad, do_done}
use Rattle.inner_words.proofs.inline.begin_loop.Goals as goal

pub returns-in_err-need : goal.returns-in_err-need
returns-in_err-need c =
    let p = err_from_is_err_and c.from_residual.result c.from_residual.ensures.1 in
    let h = c.in_err-need.ensures in
    rw (p.1, p.2) (do_few c.args.registers.now c.args.image.now c.args.cells.now c.args.returns.now c.told-image c.told-cells c.told-returns _ h.0 h.1)

pub returns-in_err-room : goal.returns-in_err-room
returns-in_err-room c =
    let p = err_from_is_err_and c.from_residual-in_err-room.result c.from_residual-in_err-room.ensures.1 in
    let h = c.in_err-room.ensures in
    rw (p.1, p.2) (do_over c.args.registers.now c.args.image.now c.args.cells.now c.args.returns.now c.told-image c.told-cells c.told-returns _ c.in_ok-need.ensures h.0 h.1)

pub returns-in_err-behind : goal.returns-in_err-behind
returns-in_err-behind c =
    let p = err_from_is_err_and c.from_residual-in_err-behind.result c.from_residual-in_err-behind.ensures.1 in
    let h = c.in_err-behind.ensures in
    rw (p.1, p.2) (do_bad c.args.registers.now c.args.image.now c.args.cells.now c.args.returns.now c.told-image c.told-cells c.told-returns _ c.in_ok-need.ensures c.in_ok-room.ensures h.0 h.1)

pub returns : goal.returns
returns c =
    do_done c.args.registers.now c.args.image.now c.args.cells.now c.args.returns.now c.told-image c.told-cells c.told-returns c.release.new.registers c.push.new.registers c.push-2.new.registers c.push-3.new.registers c.skip.new.registers
    c.push.new.cells c.push-2.new.cells c.push-3.new.cells _ c.cell-limit.result c.cell-start.result
    c.in_ok-need.ensures c.in_ok-room.ensures c.in_ok-behind.ensures.0 c.in_ok-behind.ensures.1 c.cell-limit.ensures c.cell-start.ensures
    (record { shared = c.release.ensures.shared; seat = c.release.ensures.seat; stack = c.release.ensures.stack }) (record { shared = c.push.ensures.shared; seat = c.push.ensures.seat; stack = c.push.ensures.stack })
    (record { shared = c.push-2.ensures.shared; seat = c.push-2.ensures.seat; stack = c.push-2.ensures.stack }) (record { shared = c.push-3.ensures.shared; seat = c.push-3.ensures.seat; stack = c.push-3.ensures.stack }) (record { shared = c.skip.ensures.shared; seat = c.skip.ensures.seat })
