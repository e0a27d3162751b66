-- A seat with one of its registers replaced, where it says a fault is, and questions on it.
use Rattle.std.specs.Prelude.{◌≡◌, ℕ, Ok, Err, Result}
use Rattle.fault.specs.declared.Fault.{Fault}
use Rattle.fault.specs.declared.Reason.{Reason}
use Rattle.fault.specs.declared.Place.{Place}
use Rattle.fault.specs.Numbers.{fault_of, place_of}
use Rattle.definition.specs.declared.registers.Seat.{Seat}
use Rattle.definition.specs.declared.registers.Depths.{Depths}

-- BLK, and the last word's place and length
abbrev pub told_by : Seat → Place
told_by t = place_of t.source.position.blk t.source.word.start t.source.word.length

abbrev with_depths : Depths → Seat → Seat
with_depths d t = record { order = t.order; flow = t.flow; depths = d; source = t.source; loads = t.loads }

-- n data cells, or n return cells, are in use
abbrev pub with_cell_depth : ℕ → Seat → Seat
with_cell_depth n t = with_depths (record { cells = n; returns = t.depths.returns; marks = t.depths.marks }) t

abbrev pub with_return_depth : ℕ → Seat → Seat
with_return_depth n t = with_depths (record { cells = t.depths.cells; returns = n; marks = t.depths.marks }) t

-- IP is a
abbrev pub with_pointer : ℕ → Seat → Seat
with_pointer a t = record { order = t.order; flow = record { compiling = t.flow.compiling; ip = a }; depths = t.depths; source = t.source; loads = t.loads }

-- A question that is answered: p holds of the answer, or q holds and it is refused for this reason, with the seat's place.
abbrev pub IsAnswered : {A : Type 0} → Result A Fault → (A → Type 0) → Type 0 → Reason → Seat → Type 0
IsAnswered (Ok a) p q why t = p a
IsAnswered (Err e) p q why t = q × (e ≡ fault_of why (told_by t))
