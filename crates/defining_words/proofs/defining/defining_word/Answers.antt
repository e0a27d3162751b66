use Rattle.defining_words.proofs.defining.defining_word.Goals as goal

pub returns-in-Colon-clause-did : goal.returns-in-Colon-clause-did
returns-in-Colon-clause-did c = rw c.in-Colon.is (c.colon.ensures.did c.args.cells.now)

pub returns-in-Create-clause-did : goal.returns-in-Create-clause-did
returns-in-Create-clause-did c = rw c.in-Create.is (c.create.ensures.did c.args.cells.now)

pub returns-in-Variable-clause-did : goal.returns-in-Variable-clause-did
returns-in-Variable-clause-did c = rw c.in-Variable.is (c.variable.ensures.did c.args.cells.now)

pub returns-in-Constant-clause-did : goal.returns-in-Constant-clause-did
returns-in-Constant-clause-did c = rw c.in-Constant.is c.constant.ensures.did

pub returns-in-Vocabulary-clause-did : goal.returns-in-Vocabulary-clause-did
returns-in-Vocabulary-clause-did c = rw c.in-Vocabulary.is (c.vocabulary.ensures.did c.args.cells.now)
