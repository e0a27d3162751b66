use Rattle.kits.specs.Copies.{CopiedUpTo}
use Rattle.kits.proofs.copying.copy_card.Given as goal

abbrev pub invariant-loop-n : goal.invariant-loop-n
invariant-loop-n g l = CopiedUpTo l.n (g.S.Store.means l.source) (g.T.Store.means l.initial.target) (g.T.Store.means l.target)
