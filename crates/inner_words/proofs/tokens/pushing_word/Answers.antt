use Rattle.std.proofs.lemmas.Result.{err_from_is_err_and}
use Rattle.inner_words.proofs.Pushing.{pushing_bad, pushing_done}
use Rattle.inner_words.proofs.tokens.pushing_word.Goals as goal

pub returns-in_err-x : goal.returns-in_err-x
returns-in_err-x c =
    let p = err_from_is_err_and c.from_residual.result c.from_residual.ensures.1 in
    let h = c.in_err-x.ensures in
    rw (p.1, p.2) (pushing_bad c.args.registers.now c.args.image.now c.args.cells.now c.told-image c.told-cells c.args.word c.args.token _ (rw (← c.place_of.ensures) h.0) h.1)

pub returns : goal.returns
returns c =
    let h = c.in_ok-x.ensures in
    pushing_done c.args.registers.now c.args.image.now c.args.cells.now c.told-image c.told-cells c.args.word c.leave.new.registers c.leave.new.cells c.args.token _ c.leave.result
    (rw (← c.place_of.ensures) h.0) (rw (← c.place_of.ensures) h.1) c.leave.ensures
