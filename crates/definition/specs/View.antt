-- The machine in the code's registers, the memory lent to it and its store. What the view leaves out is free, but for zeros in bytes 0 to 127.
use Rattle.std.specs.Prelude.{◌≡◌, ℕ, ◌<◌, Bool, ◌&&◌, ◌||◌, List, length, nat_le, nat_lt, slice_index}
use Rattle.store.specs.Meaning.{Meaning}
use Rattle.image.specs.Views.{low_of, line_of, high_of}
use Rattle.stacks.specs.Stack.{stack_of}
use Rattle.definition.specs.declared.registers.Mark.{Mark}
use Rattle.definition.specs.declared.registers.Loads.{Loads}
use Rattle.definition.specs.declared.registers.Position.{Position}
use Rattle.definition.specs.declared.registers.Seat.{Seat}
use Rattle.definition.specs.declared.registers.Shared.{Shared}
use Rattle.definition.specs.Ranges.{eight}
use Rattle.definition.specs.Machine.{Machine}

-- what the caller lends: the image, two stacks of cells and one of marks
pub record Lent : Type 0 where
  pub image : List ℕ
  pub cells : List ℕ
  pub returns : List ℕ
  pub marks : List Mark

abbrev pub lent : List ℕ → List ℕ → List ℕ → List Mark → Lent
lent i c r k = record { image = i; cells = c; returns = r; marks = k }

-- of the lengths asked for, and zeros in bytes 0 to 127
pub record Whole (l : Lent) : Type 0 where
  pub image : length l.image ≡ 65536
  pub cells : length l.cells ≡ 128
  pub returns : length l.returns ≡ 128
  pub marks : length l.marks ≡ 32
  pub zeros : (a : ℕ) → a < 128 → slice_index l.image a ≡ 0

-- bytes from DP to 32,767 and from HERE on are free
abbrev pub is_free : Shared → ℕ → Bool
is_free s a = (nat_le s.ends.dp a && nat_lt a 32768) || nat_le s.ends.here a

-- the open loads, the innermost first
abbrev pub loads_of : Loads → List Position
loads_of l = stack_of l.count (eight l)

abbrev pub view_of : Shared → Seat → Lent → Meaning → Machine
view_of s t l store = record {
  low = low_of s.ends.dp l.image;
  high = high_of s.ends.here l.image;
  stacks = record { cells = stack_of t.depths.cells l.cells; returns = stack_of t.depths.returns l.returns; marks = stack_of t.depths.marks l.marks };
  text = record { line = line_of l.image; source = t.source; loads = loads_of t.loads };
  names = s.names;
  order = t.order;
  flow = t.flow;
  buffer = s.buffer;
  store = store;
}
