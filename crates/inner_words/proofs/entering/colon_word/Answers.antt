use Rattle.std.proofs.Common.{subst}
use Rattle.std.proofs.lemmas.Result.{err_from_is_err_and}
use Rattle.inner_words.proofs.Entered.{colon_over, colon_done, Enters}
use Rattle.inner_words.proofs.entering.colon_word.Goals as goal

pub returns-in_err-room : goal.returns-in_err-room
returns-in_err-room c =
    let p = err_from_is_err_and c.from_residual.result c.from_residual.ensures.1 in
    let h = c.in_err-room.ensures in
    rw (p.1, p.2) (colon_over c.args.registers.now c.args.returns.now c.told-returns c.args.token _ h.0 h.1)

pub returns : goal.returns
returns c = colon_done c.args.registers.now c.args.returns.now c.told-returns c.args.token c.enter.new.registers c.enter.new.returns c.in_ok-room.ensures (subst (Enters c.args.registers.now c.enter.new.registers c.args.returns.now c.enter.new.returns) c.first_token.ensures c.enter.ensures)
