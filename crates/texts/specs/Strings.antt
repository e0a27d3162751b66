-- The text up to a byte.
use Rattle.std.specs.Prelude.{◌≡◌, ℕ, ◌+◌, ◌-◌, ◌≤◌, List, take, drop, Ok, Err, Result}
use Rattle.fault.specs.declared.Fault.{Fault}
use Rattle.store.specs.Meaning.{Meaning}
use Rattle.definition.specs.declared.registers.Mark.{Mark}
use Rattle.definition.specs.declared.ranged.Registers.{Registers}
use Rattle.definition.specs.Asked.{given}
use Rattle.definition.specs.Text.{take_to}
use Rattle.steps.specs.Does.{seen, IsRefused}

-- the bytes from one address up to another
abbrev pub between : ℕ → ℕ → List ℕ → List ℕ
between from end image = take (end - from) (drop from image)

-- the text up to the next b, at most n bytes, was taken, and lies in the image between two addresses; or it was refused
abbrev pub TookTo : ℕ → ℕ → Registers → List ℕ → Result (ℕ × ℕ) Fault → Registers → Type 0
TookTo b n r i (Ok p) r' = (p.0 ≤ p.1) × (p.1 ≤ p.0 + n) × (p.1 ≤ 34048) × ((c t : List ℕ) (k : List Mark) (s : Meaning) → take_to b n (seen r i c t k s) ≡ given (record { machine = seen r' i c t k s; bytes = between p.0 p.1 i }))
TookTo b n r i (Err e) r' = (c t : List ℕ) (k : List Mark) (s : Meaning) → IsRefused (take_to b n (seen r i c t k s)) e (seen r' i c t k s)
