use Rattle.std.proofs.lemmas.Result.{err_from_is_err_and}
use Rattle.texts.specs.Names.{name_of}
use Rattle.steps.proofs.Words.{not_ready}
use Rattle.defining_words.proofs.Ends.{colon_full, colon_done}
use Rattle.defining_words.proofs.defining.colon.Goals as goal

pub returns-in_err-name-clause-did : goal.returns-in_err-name-clause-did
returns-in_err-name-clause-did c d =
    let p = err_from_is_err_and c.from_residual.result c.from_residual.ensures.1 in
    rw (p.1, p.2) (not_ready 64 c.args.registers.now c.args.image.now d c.colon_name.new.registers _ c.in_err-name.ensures.named)

pub returns-in_err-begin_colon-clause-did : goal.returns-in_err-begin_colon-clause-did
returns-in_err-begin_colon-clause-did c d =
    let p = err_from_is_err_and c.from_residual-in_err-begin_colon.result c.from_residual-in_err-begin_colon.ensures.1 in
    rw (p.1, p.2) (colon_full c.args.registers.now c.colon_name.new.registers c.args.image.now (name_of c.in_ok-name.name) c.in_ok-name.ensures.named.0 c.in_ok-name.ensures.named.1 c.begin_colon.new.registers c.begin_colon.new.image _ c.in_err-begin_colon.ensures.did d)

pub returns-clause-did : goal.returns-clause-did
returns-clause-did c = colon_done c.args.registers.now c.colon_name.new.registers c.args.image.now (name_of c.in_ok-name.name) c.in_ok-name.ensures.named.0 c.in_ok-name.ensures.named.1 c.begin_colon.new.registers c.begin_colon.new.image c.start_compiling.new.registers c.in_ok-begin_colon.ensures.did c.start_compiling.ensures.shared c.start_compiling.ensures.seat
