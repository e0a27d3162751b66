use Rattle.step_changes.proofs.Stepping.{step_changes}
use Rattle.step_changes.proofs.Calling.{calls_in_moments}
use Rattle.step_changes.proofs.Histories.{step_forgets}
use Rattle.step_changes.proofs.Telling.{story_told}
use Rattle.step_changes.proofs.stands.Goals as goal

pub returns : goal.returns
returns c = record { answer = c.is_older.ensures; changes = step_changes; calls = calls_in_moments; forgets = step_forgets; told = story_told }
