-- The division of the two cells on top.
use Rattle.std.specs.Prelude.{◌≡◌, ℕ, ◌<◌, ◌≤◌, List, Some, None, Ok, Err, Result, ◌⊎◌, slice_index}
use Rattle.fault.specs.declared.Fault.{Fault}
use Rattle.fault.specs.declared.Reason.TheVariants.{StackUnderflow, BadQuotient}
use Rattle.fault.specs.Numbers.{fault_of}
use Rattle.numbers.specs.Division.{Divided, floored, signed, answered}
use Rattle.stacks.specs.Stack.{stack_of}
use Rattle.definition.specs.declared.ranged.Registers.{Registers}
use Rattle.steps.specs.Seats.{told_by}

abbrev pub quotient_of : Registers → List ℕ → Divided
quotient_of r c =
    let cells = stack_of r.seat.depths.cells c in
    floored (signed (slice_index cells 1)) (signed (slice_index cells 0))

-- it was answered, or refused for two reasons, in their order
abbrev pub Divides : Registers → List ℕ → Result (ℕ × ℕ) Fault → Type 0
Divides r c (Ok p) = (2 ≤ r.seat.depths.cells) × (answered (quotient_of r c) ≡ Some p)
Divides r c (Err e) =
    ((r.seat.depths.cells < 2) × (e ≡ fault_of StackUnderflow (told_by r.seat)))
    ⊎ ((2 ≤ r.seat.depths.cells) × (answered (quotient_of r c) ≡ None) × (e ≡ fault_of BadQuotient (told_by r.seat)))
