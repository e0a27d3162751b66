use Rattle.std.proofs.lemmas.Result.{err_from_is_err_and}
use Rattle.inner_words.proofs.Doing.{exit_short, exit_done}
use Rattle.inner_words.proofs.returning.exit.Goals as goal

pub returns-in_err-need : goal.returns-in_err-need
returns-in_err-need c =
    let p = err_from_is_err_and c.from_residual.result c.from_residual.ensures.1 in
    let h = c.in_err-need.ensures in
    rw (p.1, p.2) (exit_short c.args.registers.now c.args.cells.now c.args.returns.now c.told-cells c.told-returns _ h.0 h.1)

pub returns : goal.returns
returns c =
    exit_done c.args.registers.now c.args.cells.now c.args.returns.now c.told-cells c.told-returns c.release.new.registers c.go_to.new.registers c.cell-address.result c.in_ok-need.ensures c.cell-address.ensures
    (record { shared = c.release.ensures.shared; seat = c.release.ensures.seat; stack = c.release.ensures.stack }) (record { shared = c.go_to.ensures.shared; seat = c.go_to.ensures.seat })
