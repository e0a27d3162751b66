use Rattle.std.proofs.Common.{◌≤◌}
use Rattle.image.specs.Views.{low_of}
use Rattle.dictionary.specs.Lent.{dict_of}
use Rattle.dictionary.specs.Trim.{is_chain, on_chain}
use Rattle.dictionary.proofs.Links.{Walking}
use Rattle.dictionary.proofs.vocabularies.is_on_chain.Given as goal

abbrev pub invariant-chain : goal.invariant-chain
invariant-chain l = (l.before ≤ l.d.ends.dp) × Walking (low_of l.d.ends.dp l.image) l.d.ends.dp l.vocabulary l.before l.link l.found (is_chain (dict_of l.d l.image)) (on_chain l.vocabulary (dict_of l.d l.image))

abbrev pub decreases-chain : goal.decreases-chain
decreases-chain l = l.before
