use Rattle.std.proofs.Common.{◌≤◌, length}
use Rattle.cardview.proofs.words.list_vocabularies.Given as goal

abbrev pub invariant-chain : goal.invariant-chain
invariant-chain l = l.before ≤ length l.entries

abbrev pub decreases-chain : goal.decreases-chain
decreases-chain l = l.before
