use Rattle.std.proofs.Common.{rules}
use Rattle.entries.specs.Search.{search_in}
use Rattle.entries.proofs.entry.Entries.search_vocabulary.Goals as goal

pub returns-clause-found : goal.returns-clause-found
unfolding search_in
returns-clause-found c = search rules
