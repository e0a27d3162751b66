-- The word that FORGET finds.
use Rattle.std.specs.Prelude.{◌≡◌, ℕ, true, List, Ok, Err, Result}
use Rattle.fault.specs.declared.Fault.{Fault}
use Rattle.dictionary.specs.Lent.{dict_in}
use Rattle.trimming.specs.Asks.{in_order_for}
use Rattle.definition.specs.declared.ranged.Registers.{Registers}
use Rattle.definition.specs.Boot.{fence}
use Rattle.definition.specs.Kernel.{a_forgettable}
use Rattle.steps.specs.Asking.{Took, NotTaken}

-- a name was taken and its entry was found, and all that is walked to forget it is in order; or it was refused
abbrev pub TookForgettable : Registers → List ℕ → Result ℕ Fault → Registers → Type 0
TookForgettable r i (Ok w) r' = (in_order_for fence w (dict_in r'.shared.ends r'.shared.names r'.seat.order i) ≡ true) × ((name : List ℕ) × Took a_forgettable r i name w r')
TookForgettable r i (Err e) r' = NotTaken a_forgettable r i e r'
