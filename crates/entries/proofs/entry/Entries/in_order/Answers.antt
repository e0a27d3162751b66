use Rattle.std.proofs.Common.{arith}
use Rattle.std.proofs.lemmas.Bool.Decides.{nat_tests}
use Rattle.entries.specs.Entries.{first_at}
use Rattle.entries.proofs.entry.Entries.in_order.Goals as goal

pub returns-else-e-end : goal.returns-else-e-end
unfolding first_at
returns-else-e-end c = grind (arith, nat_tests)

pub overflow_add-result : goal.overflow_add-result
unfolding first_at
overflow_add-result c = omega arith
