-- The words on data space, and those that type. A word may fetch or store only from 32,768 to below HERE.
use Rattle.std.specs.Prelude.{ℕ, zero, suc, ◌+◌, ◌-◌, ◌%◌, max, Bool, ◌&&◌, ◌||◌, List, [], ◌∷◌, ◌++◌, length, take, drop, replicate, ◌==◌, nat_eq, nat_le, if◌then◌else◌}
use Rattle.fault.specs.declared.Reason.TheVariants.{StackUnderflow, OutOfReach, BadBase, DataFull}
use Rattle.image.specs.Cells.{at, cell, cell_at, zeros}
use Rattle.entries.specs.Entries.{body_of}
use Rattle.dictionary.specs.Trim.{ordered}
use Rattle.definition.specs.Machine.{Machine, with_high, dp, here}
use Rattle.definition.specs.Asked.{Asked, ask, ◌>>◌, After, quietly, typing}
use Rattle.numbers.specs.Cells.{wrap, is_negative, magnitude}
use Rattle.numbers.specs.Text.{is_base, signed_text, unsigned_text}
use Rattle.definition.specs.Kernel
use Rattle.definition.specs.Kernel.{SpaceWord, TypingWord}
use Rattle.definition.specs.Stacks.{nth, popped, has_cells, replaced}

-- are the n bytes at a in reach? Where there are none, they are.
abbrev pub in_reach : ℕ → ℕ → Machine → Bool
in_reach a n m = n == 0 || (nat_le 32768 a && nat_le (a + n) (here m))

abbrev fetched : ℕ → Machine → ℕ
fetched a m = cell_at m.high (a - 32768)

abbrev fetched_byte : ℕ → Machine → ℕ
fetched_byte a m = at m.high (a - 32768)

-- the bytes from a on replaced
abbrev pub put : List ℕ → ℕ → List ℕ → List ℕ
put high a new = take (a - 32768) high ++ (new ++ drop (a - 32768 + length new) high)

abbrev pub stored : ℕ → List ℕ → Machine → Machine
stored a new m = with_high (put m.high a new) m

-- the n low bytes of a cell
abbrev bytes : ℕ → ℕ → List ℕ
bytes n x = take n (cell x)

-- one byte after the other, the lowest address first
abbrev pub moved : ℕ → ℕ → ℕ → List ℕ → List ℕ
moved zero from to high = high
moved (suc n) from to high = moved n (from + 1) (to + 1) (put high to (at high (from - 32768) ∷ []))

-- BASE, one cell at 32,768
abbrev pub base : Machine → ℕ
base m = fetched 32768 m

-- HERE moved by a signed count, and data space of n bytes: what is added is cleared
abbrev moved_here : ℕ → Machine → ℕ
moved_here n m = if is_negative n then here m - magnitude n else here m + n

abbrev resized : ℕ → List ℕ → List ℕ
resized n high = take n high ++ zeros (n - length high)

-- does the newest entry lie whole in the dictionary?
abbrev pub has_newest : Machine → Bool
has_newest m = ordered m.low (dp m) m.names.newest

-- ALLOT takes HERE below neither 34,048 nor the newest entry's first parameter cell
abbrev pub lowest : Machine → ℕ
lowest m = if has_newest m then max 34048 (body_of m.low m.names.newest) else 34048

-- CMOVE asks for its source, then its target
abbrev pub do_space : SpaceWord → Machine → Asked After
do_space (Kernel.fetches n) m = do
  ask m StackUnderflow (has_cells 1 m)
  ask m OutOfReach (in_reach (nth 0 m) n m)
  replaced 1 ((if nat_eq n 1 then fetched_byte (nth 0 m) m else fetched (nth 0 m) m) ∷ []) m
do_space (Kernel.stores n) m = do
  ask m StackUnderflow (has_cells 2 m)
  ask m OutOfReach (in_reach (nth 0 m) n m)
  quietly (stored (nth 0 m) (bytes n (nth 1 m)) (popped 2 m))
do_space Kernel.add_to m = do
  ask m StackUnderflow (has_cells 2 m)
  ask m OutOfReach (in_reach (nth 0 m) 2 m)
  quietly (stored (nth 0 m) (cell (wrap (fetched (nth 0 m) m + nth 1 m))) (popped 2 m))
do_space Kernel.move m = do
  ask m StackUnderflow (has_cells 3 m)
  ask m OutOfReach (in_reach (nth 2 m) (nth 0 m) m)
  ask m OutOfReach (in_reach (nth 1 m) (nth 0 m) m)
  quietly (with_high (moved (nth 0 m) (nth 2 m) (nth 1 m) m.high) (popped 3 m))
do_space Kernel.fill m = do
  ask m StackUnderflow (has_cells 3 m)
  ask m OutOfReach (in_reach (nth 2 m) (nth 1 m) m)
  quietly (stored (nth 2 m) (replicate (nth 1 m) (nth 0 m % 256)) (popped 3 m))
do_space (Kernel.set_base n) m = quietly (stored 32768 (cell n) m)
do_space Kernel.allot m = do
  ask m StackUnderflow (has_cells 1 m)
  let a = moved_here (nth 0 m) m
  ask m DataFull (nat_le (lowest m) a && nat_le a 65535)
  quietly (with_high (resized (a - 32768) m.high) (popped 1 m))
do_space (Kernel.appends n) m = do
  ask m StackUnderflow (has_cells 1 m)
  ask m DataFull (nat_le (here m + n) 65535)
  quietly (with_high (m.high ++ bytes n (nth 0 m)) (popped 1 m))

-- . and U. type one blank behind the number
abbrev type_number : (ℕ → ℕ → List ℕ) → Machine → Asked After
type_number text m = do
  ask m StackUnderflow (has_cells 1 m)
  ask m BadBase (is_base (base m))
  typing (text (base m) (nth 0 m) ++ (32 ∷ [])) (popped 1 m)

-- below 0 there is nothing to type
abbrev count_of : ℕ → ℕ
count_of n = if is_negative n then 0 else n

-- EMIT types the low seven bits
abbrev pub do_typing : TypingWord → Machine → Asked After
do_typing Kernel.dot m = type_number signed_text m
do_typing Kernel.u_dot m = type_number unsigned_text m
do_typing Kernel.emit m = do
  ask m StackUnderflow (has_cells 1 m)
  typing (nth 0 m % 128 ∷ []) (popped 1 m)
do_typing Kernel.type m = do
  ask m StackUnderflow (has_cells 2 m)
  let n = count_of (nth 0 m)
  ask m OutOfReach (in_reach (nth 1 m) n m)
  typing (take n (drop (nth 1 m - 32768) m.high)) (popped 2 m)
do_typing Kernel.cr m = typing (13 ∷ 10 ∷ []) m
do_typing Kernel.spaces m = do
  ask m StackUnderflow (has_cells 1 m)
  typing (replicate (count_of (nth 0 m)) 32) (popped 1 m)
