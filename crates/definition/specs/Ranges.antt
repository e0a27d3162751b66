-- What the registers' ranges speak of, and a seat at rest.
use Rattle.std.specs.Prelude.{ℕ, false, List, [], ◌∷◌, slice_index_or}
use Rattle.dictionary.specs.declared.registers.SearchOrder.{SearchOrder}
use Rattle.dictionary.specs.Kept.{kept_end}
use Rattle.definition.specs.declared.registers.LastWord.{LastWord}
use Rattle.definition.specs.declared.registers.Seat.{Seat}
use Rattle.definition.specs.declared.registers.Shared.{Shared}
use Rattle.definition.specs.declared.registers.Loads.{Loads}
use Rattle.definition.specs.declared.registers.Position.{Position}

-- where DP goes back to if a step faults: the open entry's beginning, or DP
abbrev pub settled : Shared → ℕ
settled s = kept_end s.ends.dp s.names.opened

-- the eight loads in their order
abbrev pub eight : Loads → List Position
eight l = l.first ∷ l.second ∷ l.third ∷ l.fourth ∷ l.fifth ∷ l.sixth ∷ l.seventh ∷ l.eighth ∷ []

-- the start of the line
abbrev pub line_start : Position
line_start = record { blk = 0; offset = 0 }

abbrev pub load_at : Loads → ℕ → Position
load_at l k = slice_index_or (eight l) k line_start

-- a seat with nothing on its stacks, no text and no open load
abbrev pub resting : SearchOrder → LastWord → Seat
resting o w = record {
  order = o;
  flow = record { compiling = false; ip = 0 };
  depths = record { cells = 0; returns = 0; marks = 0 };
  source = record { length = 0; position = line_start; word = w };
  loads = record { count = 0; first = line_start; second = line_start; third = line_start; fourth = line_start; fifth = line_start; sixth = line_start; seventh = line_start; eighth = line_start };
}
