-- What a word takes from the text and asks of the state, of the machine in registers and image, whatever the stacks and the store hold.
use Rattle.std.specs.Prelude.{◌≡◌, ℕ, List, Ok, Err, Result}
use Rattle.fault.specs.declared.Fault.{Fault}
use Rattle.store.specs.Meaning.{Meaning}
use Rattle.definition.specs.declared.registers.Mark.{Mark}
use Rattle.definition.specs.declared.ranged.Registers.{Registers}
use Rattle.definition.specs.Asked.{given, ◌>>=◌}
use Rattle.definition.specs.Kernel.{Takes, Asks}
use Rattle.definition.specs.Words.{taken, all_asked}
use Rattle.steps.specs.Does.{seen, IsRefused}

-- the bytes and the entry (or 0) were taken from the text
abbrev pub Took : Takes → Registers → List ℕ → List ℕ → ℕ → Registers → Type 0
Took w r i bs e r' = (c t : List ℕ) (k : List Mark) (s : Meaning) → taken w (seen r i c t k s) ≡ given (record { machine = seen r' i c t k s; bytes = bs; entry = e })

abbrev pub NotTaken : Takes → Registers → List ℕ → Fault → Registers → Type 0
NotTaken w r i e r' = (c t : List ℕ) (k : List Mark) (s : Meaning) → IsRefused (taken w (seen r i c t k s)) e (seen r' i c t k s)

-- these questions on the state are answered
abbrev pub StateAnswers : List Asks → Registers → Result (Unit {0}) Fault → Type 0
StateAnswers qs r (Ok _) = (i c t : List ℕ) (k : List Mark) (s : Meaning) → all_asked qs (seen r i c t k s) ≡ given tt
StateAnswers qs r (Err e) = (i c t : List ℕ) (k : List Mark) (s : Meaning) → IsRefused (all_asked qs (seen r i c t k s)) e (seen r i c t k s)

-- what is taken, or one of these questions, is refused
abbrev pub NotReady : Takes → List Asks → Registers → List ℕ → Fault → Registers → Type 0
NotReady w qs r i e r' = (c t : List ℕ) (k : List Mark) (s : Meaning) → IsRefused (taken w (seen r i c t k s) >>= λ a. all_asked qs a.machine) e (seen r' i c t k s)
