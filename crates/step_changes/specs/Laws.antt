-- What a step does to the dictionary, and the law of forgetting over every history from boot.
use Rattle.std.specs.Prelude.{◌≡◌, ℕ, ◌≤◌, true, ◌≢◌, ◌⊎◌, List, length}
use Rattle.std.specs.List.{AllByRecursion}
use Rattle.fault.specs.declared.Reason.{Reason}
use Rattle.image.specs.Cells.{Bytes}
use Rattle.store.specs.Meaning.{Meaning}
use Rattle.dictionary.specs.Dict.{Dict, next_entry, given_up}
use Rattle.dictionary.specs.Trim.{forgotten}
use Rattle.forgetting.specs.Changes.{Change, colon, define, vocabulary, append, patch, semicolon, immediate, does, allot, seek, definitions, forget, give_up, Allowed, with_here}
use Rattle.forgetting.specs.Changes.{changed as changed_by}
use Rattle.forgetting.specs.Law.{fence, Begin, Same}
use Rattle.definition.specs.Machine.{Machine, dict_of}
use Rattle.definition.specs.Asked.{After, News, no_news, began, forgot}
use Rattle.definition.specs.Boot.{boot}
use Rattle.definition.specs.Step
use Rattle.definition.specs.Step.{step}
use Rattle.definition.specs.Run.{cleared}
use Rattle.definition.specs.Calls
use Rattle.definition.specs.Calls.{Call, called, lined}
use Rattle.step_changes.specs.Steady.{InOpen, StoreHolds, Steady}

-- a change that neither begins a word nor ends one
abbrev pub Quiet : Change → Type 0
Quiet (colon view name) = ⊥
Quiet (define view name code rest) = ⊥
Quiet (vocabulary view name) = ⊥
Quiet (append bytes) = Unit {0}
Quiet (patch a x) = Unit {0}
Quiet semicolon = Unit {0}
Quiet immediate = Unit {0}
Quiet (does x) = Unit {0}
Quiet (allot h) = Unit {0}
Quiet (seek v) = Unit {0}
Quiet definitions = Unit {0}
Quiet (forget w) = ⊥
Quiet give_up = ⊥

-- allowed changes of that kind, one after the other
pub data Quietly (D : Dict) : Dict → Type 0 where
  stays : Quietly D D
  and_then : {A : Dict} (c : Change) → Quietly D A → Allowed fence c A → Quiet c → Quietly D (changed_by c A)

-- The word e, the next entry, begins by one allowed change. VARIABLE then allots data space.
pub record Begins (e : ℕ) (D E : Dict) : Type 0 where
  pub next : e ≡ next_entry D
  pub change : Change
  pub begin : Begin change
  pub allowed : Allowed fence change D
  pub behind : (E ≡ changed_by change D) ⊎ ((h : ℕ) × (E ≡ with_here h (changed_by change D)) × ((changed_by change D).opened ≡ 0))

-- the dictionary before and after a step with this news
abbrev pub Turns : News → Dict → Dict → Type 0
Turns no_news D E = Quietly D E
Turns (began e) D E = Begins e D E
Turns (forgot w) D E = Allowed fence (forget w) D × (E ≡ forgotten w D)

-- a step that goes on, finishes its line, or faults and is cleared
abbrev pub Stepped : Machine → Step.Outcome → Type 0
Stepped m (Step.went a) = Turns a.news (dict_of m) (dict_of a.machine) × Steady a.machine
Stepped m (Step.finished m') = m' ≡ m
Stepped m (Step.failed why m') = (dict_of (cleared m') ≡ given_up (dict_of m)) × Steady (cleared m')

abbrev pub StepChanges : Type 0
StepChanges = (m : Machine) → Steady m → Stepped m (step m)

-- another store
abbrev pub with_store : Meaning → Machine → Machine
with_store s m = record { low = m.low; high = m.high; stacks = m.stacks; text = m.text; names = m.names; order = m.order; flow = m.flow; buffer = m.buffer; store = s }

-- what may happen to a machine: a step, a line of bytes given, an abort, or another store
pub data Moment (m : Machine) : Machine → Type 0 where
  goes : (a : After) → step m ≡ Step.went a → Moment m a.machine
  finishes : (m' : Machine) → step m ≡ Step.finished m' → Moment m m'
  faults : (why : Reason) (m' : Machine) → step m ≡ Step.failed why m' → Moment m (cleared m')
  given : (text : List ℕ) → Bytes text → length text ≤ 128 → Moment m (lined text m)
  aborts : Moment m (cleared m)
  changes_store : (s : Meaning) → StoreHolds s → Moment m (with_store s m)

-- moments one after the other
pub data History (m : Machine) : Machine → Type 0 where
  here : History m m
  after : {a b : Machine} → History m a → Moment a b → History m b

-- a line given by a call is of bytes
abbrev OfBytes : Call → Type 0
OfBytes (Calls.line text) = Bytes text
OfBytes (Calls.run budget space) = Unit {0}
OfBytes Calls.abort = Unit {0}
OfBytes (Calls.lookup name) = Unit {0}
OfBytes (Calls.peek k) = Unit {0}

-- what a call does to a machine is such a history
abbrev pub CallsInMoments : Type 0
CallsInMoments = (c : Call) (m : Machine) → OfBytes c → History m (called c m).machine

-- the word e no longer stands after a moment: it or an older one was forgotten, or it was open and a fault or an abort gave it up
abbrev pub Forgot : News → ℕ → Type 0
Forgot no_news e = ⊥
Forgot (began y) e = ⊥
Forgot (forgot y) e = y ≤ e

abbrev pub Ends : {m n : Machine} → ℕ → Moment m n → Type 0
Ends e (goes a p) = Forgot a.news e
Ends e (finishes m' p) = ⊥
Ends {m} e (faults why m' p) = m.names.opened ≡ e
Ends e (given text b l) = ⊥
Ends {m} e aborts = m.names.opened ≡ e
Ends e (changes_store s h) = ⊥

-- moments that the word e outlives
pub data Stands (e : ℕ) (m : Machine) : Machine → Type 0 where
  still : Stands e m m
  outlives : {a b : Machine} → Stands e m a → (k : Moment a b) → ¬ Ends e k → Stands e m b

-- From boot to `before`; there a step begins the word e; from then on it stands, up to `found`; there a step's FORGET finds it.
pub record Story (e : ℕ) (before found : Machine) (begun done : After) : Type 0 where
  pub store : Meaning
  pub store_holds : StoreHolds store
  pub history : History (boot store) before
  pub begins : step before ≡ Step.went begun
  pub word : begun.news ≡ began e
  pub standing : Stands e begun.machine found
  pub forgets : step found ≡ Step.went done
  pub gone : done.news ≡ forgot e

-- right after it DP, HERE, the vocabulary chain and every dictionary byte are those right before the word began
abbrev pub StepForgets : Type 0
StepForgets = (e : ℕ) (before found : Machine) (begun done : After) → Story e before found begun done → Same (dict_of done.machine) (dict_of before)

-- and there are such stories
pub record StoryTold : Type 0 where
  pub word : ℕ
  pub before : Machine
  pub found : Machine
  pub begun : After
  pub done : After
  pub story : Story word before found begun done

-- at every moment from boot
abbrev pub FromBoot : (Machine → Type 0) → Type 0
FromBoot P = (s : Meaning) (m : Machine) → StoreHolds s → History (boot s) m → P m

abbrev pub SteadyAlways : Type 0
SteadyAlways = FromBoot Steady

abbrev pub CompilesOpen : Type 0
CompilesOpen = FromBoot λ m. m.flow.compiling ≡ true → m.names.opened ≢ 0

abbrev pub MarksInside : Type 0
MarksInside = FromBoot λ m. AllByRecursion (InOpen (dict_of m)) m.stacks.marks
