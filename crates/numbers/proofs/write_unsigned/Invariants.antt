use Rattle.numbers.proofs.Printing.{Written}
use Rattle.numbers.proofs.write_unsigned.Given as goal

abbrev pub invariant-loop-place : goal.invariant-loop-place
invariant-loop-place l = Written l.base l.value l.out l.left l.place
