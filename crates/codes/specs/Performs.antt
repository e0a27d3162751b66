-- What it means that code executes a word by its code.
use Rattle.std.specs.Prelude.{◌≡◌, ℕ, ◌-◌, ◌&&◌, List, length, Ok, Err, Result, nat_le, if◌then◌else◌}
use Rattle.fault.specs.declared.Fault.{Fault}
use Rattle.store.specs.Meaning.{Meaning}
use Rattle.definition.specs.declared.registers.Mark.{Mark}
use Rattle.definition.specs.declared.ranged.Registers.{Registers}
use Rattle.definition.specs.Machine.{Machine}
use Rattle.definition.specs.Asked.{Asked, After}
use Rattle.definition.specs.Words.{row_of, do_kernel, other_word}
use Rattle.steps.specs.declared.progress.Progress.{Progress}
use Rattle.steps.specs.declared.progress.Progress.TheVariants.{Went, Full, Finished}
use Rattle.steps.specs.Does.{seen, DidType, Grows}

-- the word of this code and token
abbrev pub coded : (ℕ → Machine → Asked After) → ℕ → ℕ → Machine → Asked After
coded again code t m = if nat_le 1 code && nat_le code 105 then do_kernel again (row_of code) m else other_word code t m

-- a word that types nothing went on, or was refused
abbrev pub went_by : Result (Unit {0}) Fault → Result Progress Fault
went_by (Ok _) = Ok Went
went_by (Err e) = Err e

-- all that is lent to a step, with the bytes typed so far and what the store means
pub record Memory : Type 0 where
  pub image : List ℕ
  pub cells : List ℕ
  pub returns : List ℕ
  pub marks : List Mark
  pub out : List ℕ
  pub typed : ℕ
  pub store : Meaning

abbrev pub memory : List ℕ → List ℕ → List ℕ → List Mark → List ℕ → ℕ → Meaning → Memory
memory i c t k out n s = record { image = i; cells = c; returns = t; marks = k; out = out; typed = n; store = s }

abbrev pub held : Registers → Memory → Machine
held r l = seen r l.image l.cells l.returns l.marks l.store

-- `f` was done on registers and memory: what it answered, left and typed
pub record Acts (f : Machine → Asked After) (r : Registers) (l : Memory) (o : Result Progress Fault) (r' : Registers) (l' : Memory) : Type 0 where
  pub new : List ℕ
  pub output : Grows l.out l.typed new l'.out l'.typed
  pub did : DidType (f (held r l)) (held r l) (length l.out - l.typed) o (held r' l') new

-- the word of this code and token was executed; `again` is for EXECUTE alone, which is none of these
abbrev pub Performs : ℕ → ℕ → Registers → Memory → Result Progress Fault → Registers → Memory → Type 0
Performs code t r l o r' l' = (again : ℕ → Machine → Asked After) → Acts (coded again code t) r l o r' l'

-- where there is no space to type, the data cells are as they were
abbrev pub FullKeeps : Result Progress Fault → List ℕ → List ℕ → Type 0
FullKeeps (Ok Full) c c' = c' ≡ c
FullKeeps (Ok Went) c c' = Unit {0}
FullKeeps (Ok Finished) c c' = Unit {0}
FullKeeps (Err e) c c' = Unit {0}
