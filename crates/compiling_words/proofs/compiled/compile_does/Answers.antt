use Rattle.compiling_words.proofs.Appended.{does_ends}
use Rattle.compiling_words.proofs.compiled.compile_does.Goals as goal

pub returns-clause-did : goal.returns-clause-did
returns-clause-did c = does_ends c.args.registers.now c.append.new.registers c.args.image.now c.append.new.image c.token_bytes.result c.append.result c.token_bytes.ensures c.append.ensures.did
