use Rattle.step_changes.proofs.Histories.{steady_always, compiles_open, marks_inside}
use Rattle.step_changes.proofs.may_compile.Goals as goal

pub returns : goal.returns
returns c = record { answer = c.is_entry.ensures; steady = steady_always; compiles = compiles_open; marks = marks_inside }
