use Rattle.definition.proofs.FirstRuns.{word_taken}
use Rattle.definition.proofs.text.is_separator.Goals as goal

pub returns-clause-law : goal.returns-clause-law
returns-clause-law c = word_taken
