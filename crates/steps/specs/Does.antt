-- What it means that code does a part of the definition's step: on the machine that registers and lent memory hold.
use Rattle.std.specs.Prelude.{◌≡◌, ℕ, ◌+◌, ◌-◌, ◌<◌, ◌≤◌, List, [], ◌++◌, length, take, Ok, Err, Result}
use Rattle.fault.specs.declared.Fault.{Fault}
use Rattle.fault.specs.Numbers.{fault_of}
use Rattle.store.specs.Meaning.{Meaning}
use Rattle.definition.specs.declared.registers.Mark.{Mark}
use Rattle.definition.specs.declared.ranged.Registers.{Registers}
use Rattle.definition.specs.Machine.{Machine, told}
use Rattle.definition.specs.Asked.{Asked, refused, given, After, quietly}
use Rattle.definition.specs.Run.{cleared}
use Rattle.definition.specs.View.{lent, view_of}
use Rattle.definition.specs.Words.{Argument, row_of, perform, do_kernel}
use Rattle.steps.specs.declared.progress.Progress.{Progress}
use Rattle.steps.specs.declared.progress.Progress.TheVariants.{Went, Full, Finished}

-- the machine in registers, image, data cells, return cells and marks, over a store
abbrev pub seen : Registers → List ℕ → List ℕ → List ℕ → List Mark → Meaning → Machine
seen r i c t k s = view_of r.shared r.seat (lent i c t k) s

-- what the kernel word of this number does, once its text and the state were asked for; `again` and the argument are for other words
abbrev pub acts : ℕ → (ℕ → Machine → Asked After) → Argument → Machine → Asked After
acts n again a m = perform again (row_of n).action a m

-- what was asked is refused by the fault e: its reason, told at a machine of which a fault leaves the same as of m
abbrev pub IsRefused : {A : Type 0} → Asked A → Fault → Machine → Type 0
IsRefused (refused why m') e m = (e ≡ fault_of why (told m')) × (cleared m' ≡ cleared m)
IsRefused (given a) e m = ⊥

-- a call that was to do `f` at m answered o and left m': nothing was typed, and a fault changes nothing
abbrev pub Does : (Machine → Asked After) → Machine → Result (Unit {0}) Fault → Machine → Type 0
Does f m (Ok _) m' = f m ≡ quietly m'
Does f m (Err e) m' = IsRefused (f m) e m × (m' ≡ m)

-- The same for what takes words from the text or writes a buffer out: x was to be answered, and a fault leaves what it leaves of m'.
abbrev pub Did : Asked After → Result (Unit {0}) Fault → Machine → Type 0
Did x (Ok _) m' = (a : After) × (x ≡ given a) × (a.machine ≡ m') × (a.typed ≡ [])
Did x (Err e) m' = IsRefused x e m'

-- The same for what types: `space` bytes were left and `new` was typed. Where they would not fit, all is as it was.
abbrev pub DidType : Asked After → Machine → ℕ → Result Progress Fault → Machine → List ℕ → Type 0
DidType x m space (Ok Went) m' new = (a : After) × (x ≡ given a) × (a.machine ≡ m') × (a.typed ≡ new) × (length new ≤ space)
DidType x m space (Ok Full) m' new = (a : After) × (x ≡ given a) × (space < length a.typed) × (m' ≡ m) × (new ≡ [])
DidType x m space (Ok Finished) m' new = ⊥
DidType x m space (Err e) m' new = IsRefused x e m' × (new ≡ [])

-- n bytes of the output were typed; then n' are, the last of them `new`
abbrev pub Grows : List ℕ → ℕ → List ℕ → List ℕ → ℕ → Type 0
Grows out n new out' n' = (n' ≡ n + length new) × (take n' out' ≡ take n out ++ new)

-- what the kernel word of this number does, from its text on
abbrev pub does : ℕ → (ℕ → Machine → Asked After) → Machine → Asked After
does n again m = do_kernel again (row_of n) m

-- The kernel word of number n was done on what it was lent, whatever the rest of memory and the store hold.

-- lent the data cells
abbrev pub OnCells : ℕ → Registers → List ℕ → Result (Unit {0}) Fault → Registers → List ℕ → Type 0
OnCells n r c o r' c' =
    (again : ℕ → Machine → Asked After) (a : Argument) (i t : List ℕ) (k : List Mark) (s : Meaning) → length i ≡ 65536 →
    Does (acts n again a) (seen r i c t k s) o (seen r' i c' t k s)

-- lent the image and the data cells
abbrev pub OnSpace : ℕ → Registers → List ℕ → List ℕ → Result (Unit {0}) Fault → Registers → List ℕ → List ℕ → Type 0
OnSpace n r i c o r' i' c' =
    (again : ℕ → Machine → Asked After) (a : Argument) (t : List ℕ) (k : List Mark) (s : Meaning) →
    Does (acts n again a) (seen r i c t k s) o (seen r' i' c' t k s)

-- lent the image to read, the data cells and the return cells
abbrev pub OnReturns : ℕ → Registers → List ℕ → List ℕ → List ℕ → Result (Unit {0}) Fault → Registers → List ℕ → List ℕ → Type 0
OnReturns n r i c t o r' c' t' =
    (again : ℕ → Machine → Asked After) (a : Argument) (k : List Mark) (s : Meaning) →
    Does (acts n again a) (seen r i c t k s) o (seen r' i c' t' k s)

-- lent the image and the marks
abbrev pub OnMarks : ℕ → Registers → List ℕ → List Mark → Result (Unit {0}) Fault → Registers → List ℕ → List Mark → Type 0
OnMarks n r i k o r' i' k' =
    (again : ℕ → Machine → Asked After) (a : Argument) (c t : List ℕ) (s : Meaning) →
    Does (acts n again a) (seen r i c t k s) o (seen r' i' c t k' s)

-- lent the image and the data cells, from its text on
abbrev pub FromText : ℕ → Registers → List ℕ → List ℕ → Result (Unit {0}) Fault → Registers → List ℕ → List ℕ → Type 0
FromText n r i c o r' i' c' =
    (again : ℕ → Machine → Asked After) (t : List ℕ) (k : List Mark) (s : Meaning) →
    Did (does n again (seen r i c t k s)) o (seen r' i' c' t k s)

-- lent the image, the data cells and the return cells, from its state questions on
abbrev pub FromState : ℕ → Registers → List ℕ → List ℕ → List ℕ → Result (Unit {0}) Fault → Registers → List ℕ → List ℕ → List ℕ → Type 0
FromState n r i c t o r' i' c' t' =
    (again : ℕ → Machine → Asked After) (k : List Mark) (s : Meaning) → length k ≡ 32 →
    Did (does n again (seen r i c t k s)) o (seen r' i' c' t' k s)

-- lent the image, the data cells and the store
abbrev pub OnBlocks : ℕ → Registers → List ℕ → List ℕ → Meaning → Result (Unit {0}) Fault → Registers → List ℕ → List ℕ → Meaning → Type 0
OnBlocks n r i c s o r' i' c' s' =
    (again : ℕ → Machine → Asked After) (a : Argument) (t : List ℕ) (k : List Mark) →
    Did (acts n again a (seen r i c t k s)) o (seen r' i' c' t k s')

-- lent the image and the data cells, both to read, and the output, of which n bytes are typed
abbrev pub OnOutput : ℕ → Registers → List ℕ → List ℕ → List ℕ → ℕ → Result Progress Fault → Registers → List ℕ → ℕ → Type 0
OnOutput v r i c out n o r' out' n' =
    (new : List ℕ) × Grows out n new out' n' × ((again : ℕ → Machine → Asked After) (a : Argument) (t : List ℕ) (k : List Mark) (s : Meaning) →
    DidType (acts v again a (seen r i c t k s)) (seen r i c t k s) (length out - n) o (seen r' i c t k s) new)
