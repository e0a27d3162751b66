-- Words from their state questions on.
use Rattle.std.specs.Prelude.{ℕ, ◌-◌, List, [], ◌∷◌, length, Result}
use Rattle.fault.specs.declared.Fault.{Fault}
use Rattle.store.specs.Meaning.{Meaning}
use Rattle.definition.specs.declared.registers.Mark.{Mark}
use Rattle.definition.specs.declared.ranged.Registers.{Registers}
use Rattle.definition.specs.Machine.{Machine}
use Rattle.definition.specs.Asked.{Asked, After}
use Rattle.definition.specs.Kernel
use Rattle.definition.specs.Kernel.{Asks}
use Rattle.typing_words.specs.declared.words.TypingWord.{TypingWord}
use Rattle.steps.specs.declared.progress.Progress.{Progress}
use Rattle.steps.specs.Does.{seen, does, Did, DidType, Grows}

-- what a word that types asks of the state
abbrev pub typing_asks : TypingWord → List Asks
typing_asks TypingWord.Text = Kernel.ip_set ∷ []
typing_asks _ = []

-- the word of number v was done on registers, image and data cells, and the output, of which n bytes were typed
abbrev pub FromOutput : ℕ → Registers → List ℕ → List ℕ → List ℕ → ℕ → Result Progress Fault → Registers → List ℕ → ℕ → Type 0
FromOutput v r i c out n o r' out' n' =
    (new : List ℕ) × Grows out n new out' n' × ((again : ℕ → Machine → Asked After) (t : List ℕ) (k : List Mark) (s : Meaning) →
    DidType (does v again (seen r i c t k s)) (seen r i c t k s) (length out - n) o (seen r' i c t k s) new)

-- the word of number n was done on registers, image and marks
abbrev pub FromMarks : ℕ → Registers → List ℕ → List Mark → Result (Unit {0}) Fault → Registers → List ℕ → List Mark → Type 0
FromMarks n r i k o r' i' k' =
    (again : ℕ → Machine → Asked After) (c t : List ℕ) (s : Meaning) → Did (does n again (seen r i c t k s)) o (seen r' i' c t k' s)
