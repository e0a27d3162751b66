-- What the words that copy or move the k-th cell do, 0 the top.
use Rattle.std.specs.Prelude.{◌≡◌, ℕ, ◌+◌, ◌<◌, ◌≤◌, List, [], ◌∷◌, Ok, Err, Result, ◌⊎◌, slice_index}
use Rattle.fault.specs.declared.Fault.{Fault}
use Rattle.fault.specs.Numbers.{fault_of}
use Rattle.stacks.specs.Stack.{stack_of}
use Rattle.steps.specs.Seats.{told_by}
use Rattle.definition.specs.declared.ranged.Registers.{Registers}
use Rattle.fault.specs.declared.Reason.TheVariants.{StackUnderflow}
use Rattle.definition.specs.Machine.{Machine, with_cells}
use Rattle.definition.specs.Asked.{Asked, ask, ◌>>◌, After, quietly}
use Rattle.definition.specs.Stacks.{has_cells, nth, replaced, roll}

-- it is copied to the top
abbrev pub copied : ℕ → Machine → Asked After
copied k m = do
  ask m StackUnderflow (has_cells (k + 1) m)
  replaced 0 (nth k m ∷ []) m

-- it is taken out and put on top
abbrev pub rolled_up : ℕ → Machine → Asked After
rolled_up k m = do
  ask m StackUnderflow (has_cells (k + 1) m)
  quietly (with_cells (roll 0 k m.stacks.cells) m)

-- PICK and ROLL ask for the number on top, k cells to reach over, and the one that is meant
abbrev pub ReachesOver : Registers → List ℕ → Result ℕ Fault → Type 0
ReachesOver r c (Ok k) = (1 ≤ r.seat.depths.cells) × (k ≡ slice_index (stack_of r.seat.depths.cells c) 0) × (k + 2 ≤ r.seat.depths.cells)
ReachesOver r c (Err e) =
    ((r.seat.depths.cells < 1) ⊎ ((1 ≤ r.seat.depths.cells) × (r.seat.depths.cells < slice_index (stack_of r.seat.depths.cells c) 0 + 2)))
    × (e ≡ fault_of StackUnderflow (told_by r.seat))
