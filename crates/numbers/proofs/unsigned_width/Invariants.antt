use Rattle.std.proofs.Common.{◌≡◌, ◌+◌}
use Rattle.numbers.proofs.Printing.{width_of}
use Rattle.numbers.proofs.unsigned_width.Given as goal

-- the digits counted, and those of the rest
abbrev pub invariant-loop-rest : goal.invariant-loop-rest
invariant-loop-rest l = l.width + width_of l.base l.rest ≡ width_of l.base l.value + 1

abbrev pub decreases-loop-rest : goal.decreases-loop-rest
decreases-loop-rest l = l.rest
