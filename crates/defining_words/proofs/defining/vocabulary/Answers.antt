use Rattle.std.proofs.lemmas.Result.{err_from_is_err_and}
use Rattle.texts.specs.Names.{name_of}
use Rattle.steps.proofs.Words.{not_ready}
use Rattle.defining_words.proofs.Ends.{vocabulary_made}
use Rattle.defining_words.proofs.defining.vocabulary.Goals as goal

pub returns-in_err-name-clause-did : goal.returns-in_err-name-clause-did
returns-in_err-name-clause-did c d =
    let p = err_from_is_err_and c.from_residual.result c.from_residual.ensures.1 in
    rw (p.1, p.2) (not_ready 69 c.args.registers.now c.args.image.now d c.new_name.new.registers _ c.in_err-name.ensures)

pub returns-clause-did : goal.returns-clause-did
returns-clause-did c = vocabulary_made c.args.registers.now c.new_name.new.registers c.args.image.now (name_of c.in_ok-name.name) c.in_ok-name.ensures.0 c.in_ok-name.ensures.1 c.define_vocabulary.new.registers c.define_vocabulary.new.image c.define_vocabulary.result c.define_vocabulary.ensures.did
