use Rattle.std.proofs.lemmas.Result.{err_from_is_err_and}
use Rattle.naming_words.proofs.Entering.{no_name, broken, answered_there}
use Rattle.naming_words.proofs.entry.take_entry.Goals as goal

pub returns-in_err-name-clause-took : goal.returns-in_err-name-clause-took
returns-in_err-name-clause-took c =
    let p = err_from_is_err_and c.from_residual.result c.from_residual.ensures.1 in
    rw (p.1, p.2) (no_name c.args.registers.now c.take_name.new.registers c.args.image.now _ c.in_err-name.ensures.took)

pub returns-in_err-found-clause-took : goal.returns-in_err-found-clause-took
returns-in_err-found-clause-took c =
    let p = err_from_is_err_and c.from_residual-in_err-found.result c.from_residual-in_err-found.ensures.1 in
    rw (p.1, p.2)
    (broken c.args.registers.now c.take_name.new.registers c.args.image.now c.in_ok-name.name c.text.result.now c.in_ok-name.ensures.took c.text.ensures.value _ c.in_err-found.ensures.found)

pub returns-clause-took : goal.returns-clause-took
returns-clause-took c =
    answered_there c.args.registers.now c.take_name.new.registers c.args.image.now c.in_ok-name.name c.text.result.now c.in_ok-name.ensures.took c.text.ensures.value c.in_ok-found.found c.ask_there.result c.in_ok-found.ensures.found c.in_ok-name.ensures.shared c.in_ok-found.ensures.inside c.ask_there.ensures
