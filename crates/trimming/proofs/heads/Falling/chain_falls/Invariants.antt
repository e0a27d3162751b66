use Rattle.std.proofs.Common.{◌+◌, ◌≤◌, length}
use Rattle.dictionary.specs.Trim.{chained}
use Rattle.trimming.proofs.ChainLaws.{Asking}
use Rattle.trimming.proofs.heads.Falling.chain_falls.Given as goal

abbrev pub invariant-chain : goal.invariant-chain
invariant-chain l = (l.before ≤ length l.self.entries)
    × Asking l.self.entries l.self.w l.before l.k (chained (length l.self.entries + 1) l.self.entries l.self.w (length l.self.entries) l.voclink)

abbrev pub decreases-chain : goal.decreases-chain
decreases-chain l = l.before
