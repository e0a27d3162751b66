use Rattle.std.proofs.Common.{refl, ap, ◌∙◌, arith}
use Rattle.dictionary.specs.Dict.{with_low}
use Rattle.dictionary.proofs.Growing.{outside_written}
use Rattle.kernel.specs.Boot.{forth_alone}
use Rattle.kernel.proofs.Loads.{forth_low}
use Rattle.kernel.proofs.forth_alone.Goals as goal

pub returns : goal.returns
unfolding forth_alone
returns c = record {
  made = ap (λ l. with_low l forth_alone) (c.append.ensures.views.low_grown (omega arith) ∙ forth_low c.args.image.now _ refl);
  dp = refl;
  rest = outside_written 256 _ c.args.image.now _ (omega arith) (omega arith) (omega arith) c.append.ensures.written;
}
