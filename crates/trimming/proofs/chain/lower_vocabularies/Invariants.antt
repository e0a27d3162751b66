use Rattle.dictionary.specs.Trim.{chain}
use Rattle.image.specs.Views.{low_of}
use Rattle.dictionary.specs.Lent.{Outside}
use Rattle.trimming.proofs.ChainLaws.{Moving}
use Rattle.trimming.proofs.chain.lower_vocabularies.Given as goal

abbrev pub invariant-chain : goal.invariant-chain
invariant-chain l = Moving (low_of l.d.ends.dp l.initial.image) l.w l.k l.newest (low_of l.d.ends.dp l.image) (chain l.d.ends.dp (low_of l.d.ends.dp l.initial.image) l.first)
    × Outside l.initial.image l.image

abbrev pub decreases-chain : goal.decreases-chain
decreases-chain l = l.k
