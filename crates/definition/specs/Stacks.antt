-- The stacks, and the words that touch data cells alone.
use Rattle.std.specs.Prelude.{ℕ, ◌+◌, Bool, List, [], ◌∷◌, ◌++◌, length, take, drop, ◌==◌, nat_le, slice_index_or, if◌then◌else◌}
use Rattle.fault.specs.declared.Reason.TheVariants.{StackUnderflow, StackOverflow, BadQuotient}
use Rattle.definition.specs.Machine.{Machine, with_cells, with_returns, with_ip}
use Rattle.definition.specs.Asked.{Asked, ask, ◌>>◌, After, quietly}
use Rattle.numbers.specs.Division.{signed, product, floored}
use Rattle.definition.specs.Kernel
use Rattle.definition.specs.Kernel.{CellsWord}

-- moves of a stack of any elements, the top first: 0 picks and rolls the top
abbrev pub pick : {A : Type 0} → A → ℕ → List A → A
pick none k xs = slice_index_or xs k none

abbrev pub roll : {A : Type 0} → A → ℕ → List A → List A
roll none k xs = pick none k xs ∷ (take k xs ++ drop (k + 1) xs)

-- data cells

abbrev pub nth : ℕ → Machine → ℕ
nth k m = pick 0 k m.stacks.cells

abbrev pub popped : ℕ → Machine → Machine
popped n m = with_cells (drop n m.stacks.cells) m

abbrev pub pushed : ℕ → Machine → Machine
pushed x m = with_cells (x ∷ m.stacks.cells) m

abbrev pub has_cells : ℕ → Machine → Bool
has_cells n m = nat_le n (length m.stacks.cells)

abbrev pub has_room : ℕ → Machine → Bool
has_room n m = nat_le (n + length m.stacks.cells) 128

-- return cells

abbrev pub nth_return : ℕ → Machine → ℕ
nth_return k m = pick 0 k m.stacks.returns

abbrev pub popped_returns : ℕ → Machine → Machine
popped_returns n m = with_returns (drop n m.stacks.returns) m

abbrev pub pushed_returns : List ℕ → Machine → Machine
pushed_returns xs m = with_returns (xs ++ m.stacks.returns) m

abbrev pub has_returns : ℕ → Machine → Bool
has_returns n m = nat_le n (length m.stacks.returns)

abbrev pub has_return_room : ℕ → Machine → Bool
has_return_room n m = nat_le (n + length m.stacks.returns) 128

-- IP goes to a; when it becomes 0 the return stack is emptied
abbrev pub go_to : ℕ → Machine → Machine
go_to a m = if a == 0 then with_ip 0 (with_returns [] m) else with_ip a m

-- the top n cells give way to xs
abbrev pub replaced : ℕ → List ℕ → Machine → Asked After
replaced n xs m = do
  let left = popped n m
  ask m StackOverflow (has_room (length xs) left)
  quietly (with_cells (xs ++ left.stacks.cells) m)

-- the words that touch data cells alone
abbrev pub do_cells : CellsWord → Machine → Asked After
do_cells (Kernel.leaves f) m = replaced 0 (f m ∷ []) m
do_cells (Kernel.one f) m = do
  ask m StackUnderflow (has_cells 1 m)
  replaced 1 (f (nth 0 m)) m
do_cells (Kernel.two f) m = do
  ask m StackUnderflow (has_cells 2 m)
  replaced 2 (f (nth 1 m) (nth 0 m)) m
do_cells (Kernel.three f) m = do
  ask m StackUnderflow (has_cells 3 m)
  replaced 3 (f (nth 2 m) (nth 1 m) (nth 0 m)) m
do_cells (Kernel.divide f) m = do
  ask m StackUnderflow (has_cells 2 m)
  let d = floored (signed (nth 1 m)) (signed (nth 0 m))
  ask m BadQuotient d.fits
  replaced 2 (f d) m
do_cells Kernel.scale m = do
  ask m StackUnderflow (has_cells 3 m)
  let d = floored (product (nth 2 m) (nth 1 m)) (signed (nth 0 m))
  ask m BadQuotient d.fits
  replaced 3 (d.quotient ∷ []) m
do_cells Kernel.pick m = do
  ask m StackUnderflow (has_cells 1 m)
  ask m StackUnderflow (has_cells (nth 0 m + 2) m)
  replaced 1 (nth (nth 0 m + 1) m ∷ []) m
do_cells Kernel.roll m = do
  ask m StackUnderflow (has_cells 1 m)
  ask m StackUnderflow (has_cells (nth 0 m + 2) m)
  quietly (with_cells (roll 0 (nth 0 m) (drop 1 m.stacks.cells)) m)
