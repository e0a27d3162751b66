use Rattle.kits.specs.Copies.{AgreeUpTo}
use Rattle.kits.proofs.copying.first_difference.Given as goal

abbrev pub invariant-loop-n : goal.invariant-loop-n
invariant-loop-n g l = AgreeUpTo l.n (g.A.Store.means l.a) (g.B.Store.means l.b)
