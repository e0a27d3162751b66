-- The structure of a word as the definition's lists, and the marks.
use Rattle.std.specs.Prelude.{◌≡◌, ℕ, Bool, true, List, [], ◌∷◌, ◌++◌, drop, Some, None, Option, Result}
use Rattle.fault.specs.declared.Fault.{Fault}
use Rattle.steps.specs.Inside.{inside}
use Rattle.image.specs.Cells.{cell}
use Rattle.steps.specs.Numbers.{compiled_number}
use Rattle.definition.specs.declared.registers.Kind.{Kind}
use Rattle.definition.specs.declared.registers.Kind.TheVariants.{If}
use Rattle.definition.specs.declared.registers.Mark.{Mark}
use Rattle.definition.specs.declared.registers.Seat.{Seat}
use Rattle.definition.specs.declared.ranged.Registers.{Registers}
use Rattle.store.specs.Meaning.{Meaning}
use Rattle.definition.specs.Machine.{Machine, dp, with_marks, changed}
use Rattle.definition.specs.Asked.{Asked, After}
use Rattle.definition.specs.Stacks.{pick}
use Rattle.definition.specs.Words.{Argument}
use Rattle.definition.specs.Compile.{token, mark, are_marks, mark_at, resolved, structured}
use Rattle.steps.specs.Does.{acts, seen, Does}
use Rattle.control_words.specs.declared.words.ControlWord.{ControlWord}
use Rattle.control_words.specs.declared.structures.Takes.{Takes}
use Rattle.control_words.specs.declared.structures.Leaves.{Leaves}
use Rattle.control_words.specs.declared.structures.Jump.{Jump}
use Rattle.control_words.specs.declared.structures.Structure.{Structure}
use Rattle.control_words.specs.Numbers.{control_number}

abbrev pub kinds_of : Takes → List Kind
kinds_of Takes.Nothing = []
kinds_of (Takes.One k) = k ∷ []
kinds_of (Takes.Two j k) = j ∷ k ∷ []

abbrev pub marks_of : Leaves → List Mark
marks_of Leaves.Nothing = []
marks_of (Leaves.One k) = k ∷ []
marks_of (Leaves.Two j k) = j ∷ k ∷ []

-- a token and the cell behind it
abbrev pub jump_bytes : Jump → List ℕ
jump_bytes j = token (compiled_number j.word) ++ cell j.cell

abbrev pub bytes_of : Option Jump → List ℕ
bytes_of None = []
bytes_of (Some j) = jump_bytes j

abbrev pub cells_of : Option ℕ → List ℕ
cells_of None = []
cells_of (Some a) = a ∷ []

-- what the word does, at a machine with this DP and these addresses of the two top marks, is to build that structure
abbrev pub IsFor : ControlWord → ℕ → ℕ → ℕ → Structure → Type 0
IsFor w d top under s =
    (again : ℕ → Machine → Asked After) (a : Argument) (m : Machine) → dp m ≡ d → mark_at 0 m ≡ top → mark_at 1 m ≡ under →
    acts (control_number w) again a m ≡ structured (kinds_of s.takes) (bytes_of s.appends) (cells_of s.learns) (marks_of s.leaves) m

-- of the k-th mark, 0 the top: its address, or 0; is it of this kind?
abbrev pub address_at : ℕ → List Mark → ℕ
address_at k ms = (pick (mark If 0) k ms).address

abbrev pub is_mark : ℕ → Kind → List Mark → Bool
is_mark k kind ms = are_marks (kind ∷ []) (drop k ms)

-- n marks are in use
abbrev pub with_mark_depth : ℕ → Seat → Seat
with_mark_depth n t = record { order = t.order; flow = t.flow; depths = record { cells = t.depths.cells; returns = t.depths.returns; marks = n }; source = t.source; loads = t.loads }

-- what a word leaves stands in the place of the top n marks
abbrev pub Replaces : ℕ → Leaves → Registers → List Mark → Registers → List Mark → Type 0
Replaces n l r k r' k' = (i c t : List ℕ) (s : Meaning) → seen r' i c t k' s ≡ (let m = seen r i c t k s in with_marks (marks_of l ++ drop n m.stacks.marks) m)

-- does the cell that learns an address lie in a dictionary that ends at d? Where there is none, it does.
abbrev pub learned : ℕ → Option ℕ → Bool
learned d None = true
learned d (Some a) = inside a 2 d

-- the cell learned DP
abbrev pub Learns : Option ℕ → Registers → List ℕ → List ℕ → Type 0
Learns a r i i' = (c t : List ℕ) (k : List Mark) (s : Meaning) → seen r i' c t k s ≡ changed (resolved (cells_of a)) (seen r i c t k s)

-- the structure was built, or refused
abbrev pub Builds : Structure → Registers → List ℕ → List Mark → Result (Unit {0}) Fault → Registers → List ℕ → List Mark → Type 0
Builds x r i k o r' i' k' = (c t : List ℕ) (s : Meaning) → Does (structured (kinds_of x.takes) (bytes_of x.appends) (cells_of x.learns) (marks_of x.leaves)) (seen r i c t k s) o (seen r' i' c t k' s)
