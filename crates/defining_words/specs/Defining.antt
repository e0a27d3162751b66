-- The parts of the words that define.
use Rattle.std.specs.Prelude.{ℕ, true, List, Ok, Err, Result}
use Rattle.fault.specs.declared.Fault.{Fault}
use Rattle.definition.specs.declared.ranged.Registers.{Registers}
use Rattle.definition.specs.declared.registers.Seat.{Seat}
use Rattle.definition.specs.Kernel.{Asks, a_name}
use Rattle.texts.specs.declared.name.Name.{Name}
use Rattle.texts.specs.Names.{name_of}
use Rattle.steps.specs.Asking.{Took, NotReady, StateAnswers}

-- a name was taken and these questions answered, or one is refused
abbrev pub NamedFor : List Asks → Registers → List ℕ → Result Name Fault → Registers → Type 0
NamedFor qs r i (Ok n) r' = Took a_name r i (name_of n) 0 r' × StateAnswers qs r' (Ok tt)
NamedFor qs r i (Err e) r' = NotReady a_name qs r i e r'

-- the seat compiles
abbrev pub compiling : Seat → Seat
compiling t = record { order = t.order; flow = record { compiling = true; ip = t.flow.ip }; depths = t.depths; source = t.source; loads = t.loads }
