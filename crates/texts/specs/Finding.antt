-- What the search answers, and the kind of a word before it acts.
use Rattle.std.specs.Prelude.{◌≡◌, ℕ, ◌+◌, ◌≤◌, List, Some, None, Ok, Err, Option, Result}
use Rattle.fault.specs.declared.Fault.{Fault}
use Rattle.fault.specs.declared.Reason.TheVariants.{BadName}
use Rattle.store.specs.Meaning.{Meaning}
use Rattle.dictionary.specs.Search.{searched}
use Rattle.definition.specs.declared.registers.Mark.{Mark}
use Rattle.definition.specs.declared.ranged.Registers.{Registers}
use Rattle.definition.specs.Machine.{Machine, dict_of}
use Rattle.definition.specs.Asked.{Asked, given, ask, ◌>>=◌, ◌>>◌}
use Rattle.definition.specs.Text.{Taken, is_name, ask_found}
use Rattle.definition.specs.Step
use Rattle.definition.specs.Step.{word_of, acted, interpreted}
use Rattle.steps.specs.Does.{seen, IsRefused}
use Rattle.texts.specs.Texts.{word_in}
use Rattle.texts.specs.declared.word.Word.{Word}
use Rattle.texts.specs.declared.word.Word.TheVariants.{Immediate, Plain, Number}

-- what was asked is answered so, at m
abbrev pub Answers : {A : Type 0} → Asked A → Result A Fault → Machine → Type 0
Answers x (Ok a) m = x ≡ given a
Answers x (Err e) m = IsRefused x e m

-- an entry that is found lies in the dictionary
abbrev pub EntryInside : ℕ → Result (Option ℕ) Fault → Type 0
EntryInside dp (Ok None) = Unit {0}
EntryInside dp (Ok (Some e)) = (258 ≤ e) × (e + 7 ≤ dp)
EntryInside dp (Err f) = Unit {0}

-- the first three lines of `interpreted`: the questions, then the kind
abbrev pub classified : Taken → Asked Step.Word
classified t = do
  let m = t.machine
  ask m BadName (is_name t.bytes)
  found ← ask_found m (searched (dict_of m) t.bytes)
  word_of t.bytes found m

-- a word taken is interpreted by its kind
abbrev pub Interpreting : Type 0
Interpreting = (t : Taken) → interpreted t ≡ (classified t >>= λ w. acted t.machine.flow.compiling w t.machine)

abbrev pub meant : Word → Step.Word
meant (Immediate t) = Step.immediate t
meant (Plain t) = Step.plain t
meant (Number n) = Step.number n

-- the kind of the last word taken, or the refusal
abbrev pub KindIs : Registers → List ℕ → Result Word Fault → Type 0
KindIs r i (Ok w) = (c t : List ℕ) (k : List Mark) (s : Meaning) → classified (record { machine = seen r i c t k s; bytes = word_in r.seat i }) ≡ given (meant w)
KindIs r i (Err e) = (c t : List ℕ) (k : List Mark) (s : Meaning) → IsRefused (classified (record { machine = seen r i c t k s; bytes = word_in r.seat i })) e (seen r i c t k s)
