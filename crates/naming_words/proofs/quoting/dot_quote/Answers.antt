use Rattle.std.proofs.Common.{take}
use Rattle.std.proofs.lemmas.Result.{err_from_is_err_and}
use Rattle.steps.proofs.Words.{no_text, no_state}
use Rattle.texts.specs.Strings.{between}
use Rattle.naming_words.proofs.Ends.{no_quote, quote, quoted_done}
use Rattle.naming_words.proofs.quoting.dot_quote.Goals as goal

pub returns-in_err-start-clause-did : goal.returns-in_err-start-clause-did
returns-in_err-start-clause-did c d =
    let p = err_from_is_err_and c.from_residual.result c.from_residual.ensures.1 in
    rw (p.1, p.2) (no_text 90 c.args.registers.now c.args.image.now d c.take_to.new.registers _ (no_quote c.args.registers.now c.take_to.new.registers c.args.image.now _ c.in_err-start.ensures.took))

pub returns-in_err-ask_open-clause-did : goal.returns-in_err-ask_open-clause-did
returns-in_err-ask_open-clause-did c d =
    let p = err_from_is_err_and c.from_residual-in_err-ask_open.result c.from_residual-in_err-ask_open.ensures.1 in
    rw (p.1, p.2)
    (no_state 90 c.args.registers.now c.args.image.now d c.take_to.new.registers (between c.in_ok-start.start c.in_ok-start.end c.args.image.now) 0 (quote c.args.registers.now c.take_to.new.registers c.args.image.now (c.in_ok-start.start, c.in_ok-start.end) c.in_ok-start.ensures.took) _ c.in_err-ask_open.ensures)

pub returns-clause-did : goal.returns-clause-did
returns-clause-did c d =
    quoted_done c.args.registers.now c.take_to.new.registers c.append.new.registers c.args.image.now c.append.new.image (between c.in_ok-start.start c.in_ok-start.end c.args.image.now) (take c.put_quoted-length.result c.put_quoted-length.new.bytes) c.append.result (quote c.args.registers.now c.take_to.new.registers c.args.image.now (c.in_ok-start.start, c.in_ok-start.end) c.in_ok-start.ensures.took) c.in_ok-ask_open.ensures c.put_quoted-length.ensures.put c.append.ensures.did d
