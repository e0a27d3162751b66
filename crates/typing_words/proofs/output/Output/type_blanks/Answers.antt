use Rattle.typing_words.proofs.Adding.{blanks_typed}
use Rattle.typing_words.proofs.output.Output.type_blanks.Goals as goal

pub returns-clause-types : goal.returns-clause-types
returns-clause-types c = blanks_typed c.args.self.now.bytes.now c.args.self.now.typed c.args.n c.fill.new.image c.args.self.now.within c.if-not-has_space.ensures c.fill.ensures.written
