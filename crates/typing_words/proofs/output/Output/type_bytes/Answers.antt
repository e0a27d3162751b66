use Rattle.typing_words.proofs.Adding.{bytes_typed}
use Rattle.typing_words.proofs.output.Output.type_bytes.Goals as goal

pub returns-clause-types : goal.returns-clause-types
returns-clause-types c = bytes_typed c.args.self.now.bytes.now c.args.self.now.typed c.args.bytes.now c.append-self.new.image c.append-self.result c.args.self.now.within c.if-not-has_space.ensures c.append-self.ensures.behind c.append-self.ensures.written
