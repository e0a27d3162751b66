-- The entry of a name that follows in the text.
use Rattle.std.specs.Prelude.{ℕ, ◌+◌, ◌≤◌, List, Ok, Err, Result}
use Rattle.fault.specs.declared.Fault.{Fault}
use Rattle.definition.specs.declared.ranged.Registers.{Registers}
use Rattle.definition.specs.Kernel.{a_word}
use Rattle.steps.specs.Asking.{Took, NotTaken}

-- a name was taken and its entry, which lies in the dictionary, was found; or it was refused
abbrev pub TookEntry : Registers → List ℕ → Result ℕ Fault → Registers → Type 0
TookEntry r i (Ok e) r' = (258 ≤ e) × (e + 7 ≤ r.shared.ends.dp) × ((name : List ℕ) × Took a_word r i name e r')
TookEntry r i (Err e) r' = NotTaken a_word r i e r'
