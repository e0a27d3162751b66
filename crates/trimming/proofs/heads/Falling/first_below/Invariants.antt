use Rattle.std.proofs.Common.{◌≤◌, length}
use Rattle.dictionary.specs.Trim.{fell}
use Rattle.trimming.proofs.FallLaws.{Down}
use Rattle.trimming.proofs.heads.Falling.first_below.Given as goal

abbrev pub invariant-links : goal.invariant-links
invariant-links l = (l.before ≤ length l.self.entries) × Down l.self.entries l.self.w l.before l.e (fell l.self.entries l.self.w l.initial.e)

abbrev pub decreases-links : goal.decreases-links
decreases-links l = l.before
