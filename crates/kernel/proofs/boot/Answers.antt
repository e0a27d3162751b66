use Rattle.std.proofs.Common.{refl, ◌∙◌, arith}
use Rattle.dictionary.proofs.Growing.{outside_then}
use Rattle.kernel.specs.Table.{kernel}
use Rattle.kernel.specs.Rows.{rows_of, are_rows, all_below128}
use Rattle.kernel.proofs.Loads.{booted}
use Rattle.kernel.proofs.boot.Goals as goal

pub kernel_words-requires : goal.kernel_words-requires
unfolding are_rows all_below128
kernel_words-requires c = record { space = omega (arith, c.forth_alone-d.ensures.dp); rows = refl }

pub returns : goal.returns
unfolding rows_of kernel
returns c = record {
  made = c.kernel_words.ensures.made ∙ booted _ _ refl c.forth_alone-d.ensures.made;
  rest = outside_then c.forth_alone-d.ensures.rest c.kernel_words.ensures.rest;
}
