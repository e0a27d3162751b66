use Rattle.std.proofs.lemmas.Result.{err_from_is_err_and}
use Rattle.inner_words.proofs.Inlining.{loop_few, loop_bad, loop_done}
use Rattle.inner_words.proofs.inline.next_turn.Goals as goal

pub returns-in_err-need : goal.returns-in_err-need
returns-in_err-need c =
    let p = err_from_is_err_and c.from_residual.result c.from_residual.ensures.1 in
    let h = c.in_err-need.ensures in
    rw (p.1, p.2) (loop_few c.args.registers.now c.args.image.now c.args.cells.now c.args.returns.now c.told-image c.told-cells c.told-returns _ h.0 h.1)

pub returns-in_err-start : goal.returns-in_err-start
returns-in_err-start c =
    let p = err_from_is_err_and c.from_residual-in_err-start.result c.from_residual-in_err-start.ensures.1 in
    let h = c.in_err-start.ensures in
    rw (p.1, p.2) (loop_bad c.args.registers.now c.args.image.now c.args.cells.now c.args.returns.now c.told-image c.told-cells c.told-returns _ c.in_ok-need.ensures h.0 h.1)

pub returns : goal.returns
returns c = loop_done c.args.registers.now c.args.image.now c.args.cells.now c.args.returns.now c.told-image c.told-cells c.told-returns c.turn.new.registers c.turn.new.returns _ c.in_ok-need.ensures c.in_ok-start.ensures.0 c.in_ok-start.ensures.1 c.turn.ensures
