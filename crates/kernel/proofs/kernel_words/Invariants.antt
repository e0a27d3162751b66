use Rattle.dictionary.specs.Lent.{Outside, dict_of}
use Rattle.kernel.specs.Boot.{with_kernel}
use Rattle.kernel.specs.Rows.{rows_of}
use Rattle.kernel.proofs.Loads.{Loading}
use Rattle.kernel.proofs.kernel_words.Given as goal

abbrev pub invariant-loop-name : goal.invariant-loop-name
invariant-loop-name l = Loading l.table l.name-index l.number l.initial.d.ends.dp l.d.ends.dp (dict_of l.d l.image) (with_kernel 1 (rows_of l.table) (dict_of l.initial.d l.initial.image))
    × Outside l.initial.image l.image
