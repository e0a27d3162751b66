-- What a step leaves of a machine from boot.
use Rattle.std.specs.Prelude.{◌≡◌, Ok, Err, Result}
use Rattle.fault.specs.declared.Fault.{Fault}
use Rattle.dictionary.specs.Dict.{given_up}
use Rattle.definition.specs.declared.ranged.Registers.{Registers}
use Rattle.definition.specs.Machine.{Machine, dict_of}
use Rattle.definition.specs.Asked.{News}
use Rattle.definition.specs.Laws.{Keeps}
use Rattle.steps.specs.declared.progress.Progress.{Progress}
use Rattle.steps.specs.declared.progress.Progress.TheVariants.{Went, Full, Finished}
use Rattle.step_changes.specs.Steady.{Steady}
use Rattle.step_changes.specs.Laws.{Turns}
use Rattle.codes.specs.Performs.{Memory, held}

-- A step that went on changed the dictionary by allowed changes, in the order of its news, and the machine stays steady: one that compiles
-- has an entry open, and every mark lies in it. One that faults gives up the open entry and keeps all else of words and data.
abbrev pub Leaves : Machine → Result Progress Fault → Machine → Type 0
Leaves m (Ok Went) m' = (n : News) × Turns n (dict_of m) (dict_of m') × Steady m'
Leaves m (Ok Full) m' = m' ≡ m
Leaves m (Ok Finished) m' = m' ≡ m
Leaves m (Err e) m' = (dict_of m' ≡ given_up (dict_of m)) × Steady m'

abbrev pub Lawful : Registers → Memory → Result Progress Fault → Registers → Memory → Type 0
Lawful r l o r' l' = Steady (held r l) → Leaves (held r l) o (held r' l')

-- a fault keeps words and data of any machine
abbrev pub FaultKept : Registers → Memory → Result Progress Fault → Registers → Memory → Type 0
FaultKept r l (Ok o) r' l' = Unit {0}
FaultKept r l (Err e) r' l' = Keeps (held r l) (held r' l')
