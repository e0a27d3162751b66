use Rattle.std.proofs.Common.{length, ap, ◌∙◌}
use Rattle.std.proofs.lemmas.Result.{err_from_is_err_and}
use Rattle.compiling_words.proofs.Appended.{compile_full, compile_far, never_full, two, compile_done}
use Rattle.compiling_words.proofs.compiled.compile_next.Goals as goal

pub returns-in_err-ask-clause-did : goal.returns-in_err-ask-clause-did
returns-in_err-ask-clause-did c =
    let p = err_from_is_err_and c.from_residual.result c.from_residual.ensures.1 in
    let h = c.in_err-ask.ensures in
    rw (p.1, p.2) (compile_full c.args.registers.now c.args.image.now c.told-image _ h.0 h.1)

pub returns-in_err-ask_inside-clause-did : goal.returns-in_err-ask_inside-clause-did
returns-in_err-ask_inside-clause-did c =
    let p = err_from_is_err_and c.from_residual-in_err-ask_inside.result c.from_residual-in_err-ask_inside.ensures.1 in
    let h = c.in_err-ask_inside.ensures in
    rw (p.1, p.2) (compile_far c.args.registers.now c.args.image.now c.told-image c.in_ok-ask.ensures _ h.0 h.1)

pub returns-in_err-append-clause-did : goal.returns-in_err-append-clause-did
returns-in_err-append-clause-did c = absurd (never_full c.args.registers.now c.args.image.now c.told-image c.in_ok-ask.ensures c.compiled.result c.append.new.registers c.append.new.image _ (ap length c.compiled.ensures ∙ two (c.fetch-token.result)) c.in_err-append.ensures.did)

pub returns-clause-did : goal.returns-clause-did
returns-clause-did c = compile_done c.args.registers.now c.args.image.now c.told-image c.in_ok-ask.ensures c.fetch-token.result c.compiled.result c.append.new.registers c.set_pointer.new.registers c.append.new.image c.in_ok-ask_inside.ensures.0 (cc) c.compiled.ensures c.in_ok-append.ensures.did c.set_pointer.ensures.shared c.set_pointer.ensures.seat
