use Rattle.std.proofs.Common.{arith, rules}
use Rattle.std.proofs.lemmas.Grind.{common_steps}
use Rattle.numbers.proofs.Reading.{reads_as}
use Rattle.numbers.proofs.read_number.Goals as goal

pub returns-in-45-clause-reads : goal.returns-in-45-clause-reads
returns-in-45-clause-reads c = reads_as c.args.base c.args.text.now c.negative.result (grind (arith, common_steps))

pub returns-in_default-clause-reads : goal.returns-in_default-clause-reads
returns-in_default-clause-reads c = reads_as c.args.base c.args.text.now c.read_digits-in_default.result (search rules)
