use Rattle.std.proofs.Common.{length}
use Rattle.dictionary.specs.Trim.{chain}
use Rattle.trimming.proofs.ChainLaws.{Skipping}
use Rattle.trimming.proofs.heads.Falling.first_kept.Given as goal

abbrev pub invariant-chain : goal.invariant-chain
invariant-chain l = Skipping l.self.entries l.self.w (length l.self.entries) l.k (chain (length l.self.entries) l.self.entries l.voclink)

abbrev pub decreases-chain : goal.decreases-chain
decreases-chain l = l.k
