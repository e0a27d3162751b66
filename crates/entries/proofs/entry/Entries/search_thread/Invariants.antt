use Rattle.std.proofs.Common.{suc, ◌≤◌, length}
use Rattle.entries.specs.Entries.{spelled}
use Rattle.entries.specs.Search.{walk}
use Rattle.entries.proofs.Walks.{At}
use Rattle.entries.proofs.entry.Entries.search_thread.Given as goal

abbrev pub invariant-links : goal.invariant-links
invariant-links l = (l.before ≤ length l.self) × At l.self (length l.self) (spelled l.name) l.before l.link
    (walk (suc (length l.self)) l.self (length l.self) (spelled l.name) (length l.self) l.initial.link)

abbrev pub decreases-links : goal.decreases-links
decreases-links l = l.before
