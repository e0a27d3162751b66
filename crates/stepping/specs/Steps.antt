-- What it means that code takes one step.
use Rattle.std.specs.Prelude.{◌≡◌, ℕ, ◌-◌, ◌<◌, ◌≤◌, List, [], length, Ok, Err, Result}
use Rattle.fault.specs.declared.Fault.{Fault}
use Rattle.fault.specs.declared.Reason.{Reason}
use Rattle.fault.specs.Numbers.{fault_of}
use Rattle.store.specs.Meaning.{Meaning}
use Rattle.definition.specs.declared.registers.Mark.{Mark}
use Rattle.definition.specs.declared.registers.Source.{Source}
use Rattle.definition.specs.declared.ranged.Registers.{Registers}
use Rattle.definition.specs.Machine.{Machine, ip, told, with_ip, with_text}
use Rattle.definition.specs.Asked.{After}
use Rattle.definition.specs.Words.{execute}
use Rattle.definition.specs.Step
use Rattle.definition.specs.Step.{Outcome, outcome, interpreted, from_text, from_tokens, step}
use Rattle.definition.specs.Run.{cleared}
use Rattle.steps.specs.declared.progress.Progress.{Progress}
use Rattle.steps.specs.declared.progress.Progress.TheVariants.{Went, Full, Finished}
use Rattle.steps.specs.Does.{seen, IsRefused, Grows}
use Rattle.texts.specs.Texts.{word_in}
use Rattle.codes.specs.Performs.{Memory, held}
use Rattle.stepping.specs.declared.next.Next.{Next}
use Rattle.stepping.specs.declared.next.Next.TheVariants as next

-- A step that comes to x: it went on, having typed what fits; it was not taken, since it types more, and all is as it was; it finished
-- the line; or it was refused, and left what a fault leaves behind `after`.
abbrev pub Comes : (Machine → Machine) → Outcome → Machine → ℕ → Result Progress Fault → Machine → List ℕ → Type 0
Comes after x m space (Ok Went) m' new = (a : After) × (x ≡ Step.went a) × (a.machine ≡ m') × (a.typed ≡ new) × (length new ≤ space)
Comes after x m space (Ok Full) m' new = (a : After) × (x ≡ Step.went a) × (space < length a.typed) × (m' ≡ m) × (new ≡ [])
Comes after x m space (Ok Finished) m' new = (x ≡ Step.finished m') × (new ≡ [])
Comes after x m space (Err e) m' new = (why : Reason) × (n : Machine) × (x ≡ Step.failed why n) × (e ≡ fault_of why (told n)) × (after m' ≡ cleared n) × (new ≡ [])

-- so the definition's step was taken on registers and memory
pub record Takes (after : Machine → Machine) (r : Registers) (l : Memory) (o : Result Progress Fault) (r' : Registers) (l' : Memory) : Type 0 where
  pub new : List ℕ
  pub output : Grows l.out l.typed new l'.out l'.typed
  pub came : Comes after (step (held r l)) (held r l) (length l.out - l.typed) o (held r' l') new

-- one step of the machine
abbrev pub Steps : Registers → Memory → Result Progress Fault → Registers → Memory → Type 0
Steps = Takes (λ m. m)

-- the same before a fault is cleared
abbrev pub Tries : Registers → Memory → Result Progress Fault → Registers → Memory → Type 0
Tries = Takes cleared

-- text goes on as it says
abbrev pub with_source : Source → Machine → Machine
with_source x m = with_text (record { line = m.text.line; source = x; loads = m.text.loads }) m

-- from m' a step goes back to m by the text's source and IP alone
abbrev pub GoesBack : Machine → Machine → Type 0
GoesBack m m' = with_ip (ip m) (with_source m.text.source m') ≡ m

-- Part of a step from m, which comes to x, was taken and left m': a token is still to be executed, or nothing more is to do.
abbrev pub Leads : Outcome → Machine → Result Next Fault → Machine → Type 0
Leads x m (Ok (next.Execute t)) m' = (x ≡ outcome (execute t m')) × GoesBack m m'
Leads x m (Ok next.Went) m' = (a : After) × (x ≡ Step.went a) × (a.machine ≡ m') × (a.typed ≡ [])
Leads x m (Ok next.Finished) m' = x ≡ Step.finished m'
Leads x m (Err e) m' = (why : Reason) × (n : Machine) × (x ≡ Step.failed why n) × (e ≡ fault_of why (told n)) × (cleared m' ≡ cleared n)

-- the word last taken was interpreted, whatever the other stacks and the store hold
abbrev pub Interprets : Registers → List ℕ → List ℕ → Result Next Fault → Registers → List ℕ → List ℕ → Type 0
Interprets r i c o r' i' c' =
    (t : List ℕ) (k : List Mark) (s : Meaning) → Leads (outcome (interpreted (record { machine = seen r i c t k s; bytes = word_in r.seat i }))) (seen r i c t k s) o (seen r' i' c' t k s)

-- the text was read
abbrev pub ReadsText : Registers → List ℕ → List ℕ → Meaning → Result Next Fault → Registers → List ℕ → List ℕ → Meaning → Type 0
ReadsText r i c s o r' i' c' s' = (t : List ℕ) (k : List Mark) → Leads (from_text (seen r i c t k s)) (seen r i c t k s) o (seen r' i' c' t k s')

-- a token was taken, or refused
abbrev pub TakesToken : Registers → List ℕ → Result ℕ Fault → Registers → Type 0
TakesToken r i (Ok x) r' = (c t : List ℕ) (k : List Mark) (s : Meaning) → (from_tokens (seen r i c t k s) ≡ execute x (seen r' i c t k s)) × GoesBack (seen r i c t k s) (seen r' i c t k s)
TakesToken r i (Err e) r' = (c t : List ℕ) (k : List Mark) (s : Meaning) → IsRefused (from_tokens (seen r i c t k s)) e (seen r' i c t k s)

-- the beginning of a step, up to a token that is to be executed
abbrev pub Starts : Registers → List ℕ → List ℕ → Meaning → Result Next Fault → Registers → List ℕ → List ℕ → Meaning → Type 0
Starts r i c s o r' i' c' s' = (t : List ℕ) (k : List Mark) → Leads (step (seen r i c t k s)) (seen r i c t k s) o (seen r' i' c' t k s')
