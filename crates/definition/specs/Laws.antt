-- Laws of the machine, in the subject's words.
use Rattle.std.specs.Prelude.{◌≡◌, ℕ, zero, suc, ◌+◌, ◌-◌, ◌<◌, ◌≤◌, true, false, ◌⊎◌, List, [], ◌++◌, length, take, drop, Some, slice_index}
use Rattle.fault.specs.declared.Fault.{Fault}
use Rattle.fault.specs.declared.Reason.{Reason}
use Rattle.fault.specs.Numbers.{fault_of}
use Rattle.store.specs.Meaning.{written}
use Rattle.dictionary.specs.Dict.{given_up}
use Rattle.definition.specs.Machine.{Machine, told, offset, reading_on, dict_of}
use Rattle.definition.specs.Asked.{After}
use Rattle.definition.specs.Text.{Taken, buffer_of, text_of, next_word}
use Rattle.definition.specs.Step
use Rattle.definition.specs.Step.{step}
use Rattle.definition.specs.Run.{Report, report, finished, stopped, faulted, cleared, run}

-- From >IN on, the word of this size at `start` is the first run of bytes above 32; text goes on at `next`.
pub record FirstRun (text : List ℕ) (from start size next : ℕ) : Type 0 where
  pub onward : from ≤ start
  pub skipped : (k : ℕ) → from ≤ k → k < start → slice_index text k ≤ 32
  pub above : (k : ℕ) → start ≤ k → k < start + size → 32 < slice_index text k
  pub inside : 0 < size → start + size ≤ length text
  pub ended : start + size < length text → slice_index text (start + size) ≤ 32
  pub none : size ≡ 0 → (k : ℕ) → from ≤ k → k < length text → slice_index text k ≤ 32
  pub behind_one : start + size < length text → next ≡ start + size + 1
  pub at_end : length text ≤ start + size → next ≡ length text

-- what taking a word takes: its bytes, its place as the last word, and >IN behind it; all else stays
pub record TakesFirst (m : Machine) (t : Taken) : Type 0 where
  pub run : FirstRun (text_of m) (offset m) t.machine.text.source.word.start t.machine.text.source.word.length (offset t.machine)
  pub bytes : t.bytes ≡ take t.machine.text.source.word.length (drop t.machine.text.source.word.start (text_of m))
  pub others : t.machine ≡ reading_on (offset t.machine) t.machine.text.source.word m

abbrev pub WordTaken : Type 0
WordTaken = (m : Machine) → TakesFirst m (next_word m)

-- n faultless steps lead from m to m' and type these bytes
abbrev pub Steps : ℕ → Machine → List ℕ → Machine → Type 0
Steps zero m typed m' = (typed ≡ []) × (m ≡ m')
Steps (suc n) m typed m' = (a : After) × (step m ≡ Step.went a) × ((rest : List ℕ) × (typed ≡ a.typed ++ rest) × Steps n a.machine rest m')

-- what comes behind those steps: the budget is spent, or the next step would type more than is left; or it finishes the line; or it faults
pub data Ending (budget space n : ℕ) (typed : List ℕ) (m : Machine) : Report → Type 0 where
  spent : n ≡ budget → Ending budget space n typed m (report stopped typed n m)
  full : (a : After) → n < budget → step m ≡ Step.went a → space < length typed + length a.typed → Ending budget space n typed m (report stopped typed n m)
  done : (m' : Machine) → n < budget → step m ≡ Step.finished m' → Ending budget space n typed m (report finished typed (n + 1) m')
  fault : (why : Reason) (m' : Machine) → n < budget → step m ≡ Step.failed why m' → Ending budget space n typed m (report (faulted (fault_of why (told m'))) typed (n + 1) (cleared m'))

-- a run: so many faultless steps, whose bytes fit, and then its ending
pub record Ran (budget space : ℕ) (m : Machine) (r : Report) : Type 0 where
  pub taken : ℕ
  pub typed : List ℕ
  pub last : Machine
  pub steps : Steps taken m typed last
  pub fits : length typed ≤ space
  pub ending : Ending budget space taken typed last r

abbrev pub RunOutcome : Type 0
RunOutcome = (budget space : ℕ) (m : Machine) → Ran budget space m (run budget space m)

-- nothing else is a run's outcome
abbrev pub RunOnly : Type 0
RunOnly = (budget space : ℕ) (m : Machine) (r : Report) → Ran budget space m r → r ≡ run budget space m

-- a run that stopped goes on with another budget and the space left; any other has ended
abbrev pub gone_on : ℕ → ℕ → Report → Report
gone_on budget space r =
    elim r.end [
      | finished ↦ r
      | faulted f ↦ r
      | stopped ↦
          let s = run budget (space - length r.typed) r.machine in
          report s.end (r.typed ++ s.typed) (r.steps + s.steps) s.machine
    ]

abbrev pub RunCut : Type 0
RunCut = (a b space : ℕ) (m : Machine) → run (a + b) space m ≡ gone_on b space (run a space m)

-- The dictionary is the one before the step less the open entry, data space is the one before, and the store too, or an updated buffer was written out.
pub record Keeps (m after : Machine) : Type 0 where
  pub dictionary : dict_of after ≡ given_up (dict_of m)
  pub space : after.high ≡ m.high
  pub line : after.text.line ≡ m.text.line
  pub blocks :
      ((after.store ≡ m.store) × (after.buffer ≡ m.buffer))
      ⊎ ((n : ℕ) × (m.buffer ≡ record { held = Some n; updated = true }) × (after.store ≡ written m.store n (buffer_of m)) × (after.buffer ≡ record { held = Some n; updated = false }))

-- what a faulting step leaves
abbrev pub FaultKeeps : Type 0
FaultKeeps = (m m' : Machine) (why : Reason) → step m ≡ Step.failed why m' → Keeps m (cleared m')

-- A run that faulted: the bytes typed are those of the faultless steps before, the faulting step is counted, and it keeps what they left.
pub record FaultLeaves (m : Machine) (r : Report) : Type 0 where
  pub taken : ℕ
  pub last : Machine
  pub steps : Steps taken m r.typed last
  pub counted : r.steps ≡ taken + 1
  pub kept : Keeps last r.machine

abbrev pub FaultInRun : Type 0
FaultInRun = (budget space : ℕ) (m : Machine) (f : Fault) → (run budget space m).end ≡ faulted f → FaultLeaves m (run budget space m)
