use Rattle.std.proofs.Common.{◌≡◌}
use Rattle.image.specs.Writes.{moved_up}
use Rattle.image.proofs.move_up.Given as goal

abbrev pub invariant-loop-i : goal.invariant-loop-i
invariant-loop-i l = l.image ≡ moved_up l.i l.from l.to l.initial.image
