use Rattle.std.proofs.Common.{◌≤◌, length}
use Rattle.cardview.proofs.words.list_thread.Given as goal

abbrev pub invariant-thread : goal.invariant-thread
invariant-thread l = l.before ≤ length l.entries

abbrev pub decreases-thread : goal.decreases-thread
decreases-thread l = l.before
