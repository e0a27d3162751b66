use Rattle.dictionary.specs.Trim.{trim_voc}
use Rattle.image.specs.Views.{low_of}
use Rattle.dictionary.specs.Lent.{Outside}
use Rattle.trimming.proofs.FallLaws.{Lowering}
use Rattle.trimming.proofs.heads.lower_threads.Given as goal

abbrev pub invariant-loop-k : goal.invariant-loop-k
invariant-loop-k l = Lowering l.w l.vocabulary l.k (low_of l.d.ends.dp l.image) (trim_voc l.w l.vocabulary 4 (low_of l.d.ends.dp l.initial.image))
    × Outside l.initial.image l.image
