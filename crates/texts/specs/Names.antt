-- Names taken from the text.
use Rattle.std.specs.Prelude.{◌≡◌, ℕ, Bool, ◌&&◌, List, take, Ok, Err, Result, nat_le}
use Rattle.fault.specs.declared.Fault.{Fault}
use Rattle.store.specs.Meaning.{Meaning}
use Rattle.definition.specs.declared.registers.Mark.{Mark}
use Rattle.definition.specs.declared.ranged.Registers.{Registers}
use Rattle.definition.specs.Asked.{given}
use Rattle.definition.specs.Text.{take_name}
use Rattle.steps.specs.Does.{seen, IsRefused}
use Rattle.texts.specs.declared.name.Name.{Name}

-- a byte of a name
abbrev pub graphic : ℕ → Bool
graphic b = nat_le 33 b && nat_le b 126

abbrev pub name_of : Name → List ℕ
name_of n = take n.count n.bytes

-- a name was taken, or refused
abbrev pub TookName : Registers → List ℕ → Result Name Fault → Registers → Type 0
TookName r i (Ok n) r' = (c t : List ℕ) (k : List Mark) (s : Meaning) → take_name (seen r i c t k s) ≡ given (record { machine = seen r' i c t k s; bytes = name_of n })
TookName r i (Err e) r' = (c t : List ℕ) (k : List Mark) (s : Meaning) → IsRefused (take_name (seen r i c t k s)) e (seen r' i c t k s)
