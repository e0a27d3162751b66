use Rattle.naming_words.proofs.naming.naming_word.Goals as goal

pub returns-in-Tick-clause-did : goal.returns-in-Tick-clause-did
returns-in-Tick-clause-did c = rw c.in-Tick.is c.tick.ensures

pub returns-in-Paren-clause-did : goal.returns-in-Paren-clause-did
returns-in-Paren-clause-did c = rw c.in-Paren.is (c.comment.ensures c.args.cells.now)

pub returns-in-Defining-clause-did : goal.returns-in-Defining-clause-did
returns-in-Defining-clause-did c = rw c.in-Defining.is c.defining_word.ensures.did

pub returns-in-Forget-clause-did : goal.returns-in-Forget-clause-did
returns-in-Forget-clause-did c = rw c.in-Forget.is (c.forget.ensures.did c.args.cells.now)

pub returns-in-BracketTick-clause-did : goal.returns-in-BracketTick-clause-did
returns-in-BracketTick-clause-did c = rw c.in-BracketTick.is (c.bracket_tick.ensures.did c.args.cells.now)

pub returns-in-BracketCompile-clause-did : goal.returns-in-BracketCompile-clause-did
returns-in-BracketCompile-clause-did c = rw c.in-BracketCompile.is (c.bracket_compile.ensures.did c.args.cells.now)

pub returns-in-DotQuote-clause-did : goal.returns-in-DotQuote-clause-did
returns-in-DotQuote-clause-did c = rw c.in-DotQuote.is (c.dot_quote.ensures.did c.args.cells.now)
