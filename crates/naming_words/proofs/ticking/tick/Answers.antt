use Rattle.std.proofs.lemmas.Result.{err_from_is_err_and}
use Rattle.steps.proofs.Words.{no_text}
use Rattle.naming_words.proofs.Ends.{ticked}
use Rattle.naming_words.proofs.ticking.tick.Goals as goal

pub returns-in_err-entry : goal.returns-in_err-entry
returns-in_err-entry c =
    let p = err_from_is_err_and c.from_residual.result c.from_residual.ensures.1 in
    rw (p.1, p.2) (no_text 60 c.args.registers.now c.args.image.now c.args.cells.now c.take_entry.new.registers _ c.in_err-entry.ensures.took)

pub returns : goal.returns
returns c =
    let h = c.in_ok-entry.ensures.took in
    ticked c.args.registers.now c.take_entry.new.registers c.args.image.now h.2.0 c.in_ok-entry.entry h.2.1 c.token_at-token.result c.token_at-token.ensures c.leave.result c.leave.new.registers c.args.cells.now c.leave.new.cells c.leave.ensures
