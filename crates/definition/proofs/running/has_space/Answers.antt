use Rattle.definition.proofs.Turns.{run_outcome, run_only, run_cut}
use Rattle.definition.proofs.running.has_space.Goals as goal

pub returns-clause-outcome : goal.returns-clause-outcome
returns-clause-outcome c = run_outcome

pub returns-clause-only : goal.returns-clause-only
returns-clause-only c = run_only

pub returns-clause-cut : goal.returns-clause-cut
returns-clause-cut c = run_cut
