use Rattle.std.proofs.Common.{arith}
use Rattle.dictionary.proofs.Growing.{outside_written}
use Rattle.dictionary.proofs.registers.Dictionary.put.Goals as goal

pub returns-clause-rest : goal.returns-clause-rest
returns-clause-rest c = outside_written c.from.result c.args.bytes.now c.args.image.now _ (omega (arith, c.from.ensures)) (omega (arith, c.from.ensures)) (omega arith) c.append.ensures.written
