use Rattle.std.proofs.Common.{ap, ◌∙◌, arith}
use Rattle.image.specs.Cells.{set_cell}
use Rattle.image.specs.Views.{low_of}
use Rattle.dictionary.specs.Lent.{dict_of}
use Rattle.dictionary.proofs.Growing.{outside_written}
use Rattle.dictionary.proofs.Changing.{cell_in, low_only, length-cell}
use Rattle.dictionary.proofs.registers.Dictionary.patch.Goals as goal

pub returns : goal.returns
returns c =
    let n = length-cell c.args.x in
    let dp = c.args.self.now.ends.dp in
    let w = cell_in dp c.args.image.now _ c.from.result c.args.x (omega (arith, c.from.ensures)) (omega (arith, c.from.ensures)) (omega arith) c.store.ensures.views in
    record {
      made = low_only (dict_of c.args.self.now c.args.image.now) _ _ (w ∙ ap (λ a. set_cell (low_of dp c.args.image.now) a c.args.x) c.from.ensures);
      rest = outside_written c.from.result _ c.args.image.now _ (omega (arith, c.from.ensures)) (omega (arith, c.from.ensures)) (omega arith) c.store.ensures.written;
    }
