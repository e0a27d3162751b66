-- The word of this number acted on registers, image, data cells and return cells, whatever 32 marks and the store hold.
use Rattle.std.specs.Prelude.{◌≡◌, ℕ, ◌+◌, Bool, ◌&&◌, ◌||◌, List, length, Result, ◌==◌, nat_le}
use Rattle.image.specs.Cells.{cell_at}
use Rattle.entries.specs.Entries.{first_at, token_of}
use Rattle.dictionary.specs.Trim.{ordered}
use Rattle.fault.specs.declared.Fault.{Fault}
use Rattle.store.specs.Meaning.{Meaning}
use Rattle.definition.specs.declared.registers.Mark.{Mark}
use Rattle.definition.specs.declared.ranged.Registers.{Registers}
use Rattle.definition.specs.Machine.{Machine}
use Rattle.definition.specs.Asked.{Asked, After}
use Rattle.definition.specs.Words.{Argument}
use Rattle.steps.specs.Does.{seen, acts, Does}

abbrev pub OnState : ℕ → Registers → List ℕ → List ℕ → List ℕ → Result (Unit {0}) Fault → Registers → List ℕ → Type 0
OnState n r i c t o r' i' =
    (again : ℕ → Machine → Asked After) (a : Argument) (k : List Mark) (s : Meaning) → length k ≡ 32 →
    Does (acts n again a) (seen r i c t k s) o (seen r' i' c t k s)

-- is the newest entry e a created word, and does its extra cell lie in the dictionary?
abbrev pub is_made : List ℕ → ℕ → Bool
is_made low e = ordered low (length low) e && (nat_le (first_at low e + 4) (length low) && (cell_at low (token_of low e) == 202 || cell_at low (token_of low e) == 205))
