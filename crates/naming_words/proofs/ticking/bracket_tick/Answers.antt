use Rattle.std.proofs.lemmas.Result.{err_from_is_err_and}
use Rattle.steps.proofs.Words.{no_text, no_state}
use Rattle.naming_words.proofs.Ends.{literal_done}
use Rattle.naming_words.proofs.ticking.bracket_tick.Goals as goal

pub returns-in_err-entry-clause-did : goal.returns-in_err-entry-clause-did
returns-in_err-entry-clause-did c d =
    let p = err_from_is_err_and c.from_residual.result c.from_residual.ensures.1 in
    rw (p.1, p.2) (no_text 76 c.args.registers.now c.args.image.now d c.take_entry.new.registers _ c.in_err-entry.ensures.took)

pub returns-in_err-ask_open-clause-did : goal.returns-in_err-ask_open-clause-did
returns-in_err-ask_open-clause-did c d =
    let p = err_from_is_err_and c.from_residual-in_err-ask_open.result c.from_residual-in_err-ask_open.ensures.1 in
    let h = c.in_ok-entry.ensures.took in
    rw (p.1, p.2) (no_state 76 c.args.registers.now c.args.image.now d c.take_entry.new.registers h.2.0 c.in_ok-entry.entry h.2.1 _ c.in_err-ask_open.ensures)

pub returns-clause-did : goal.returns-clause-did
returns-clause-did c d =
    let h = c.in_ok-entry.ensures.took in
    literal_done c.args.registers.now c.take_entry.new.registers c.args.image.now h.2.0 c.in_ok-entry.entry h.2.1 c.token_at-token.result c.token_at-token.ensures c.append.result c.append.new.registers c.in_ok-ask_open.ensures c.literal.result c.append.new.image c.append.ensures.did c.literal.ensures d
