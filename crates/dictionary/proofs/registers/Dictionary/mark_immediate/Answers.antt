use Rattle.std.proofs.Common.{◌+◌, get_or, set, sym, ap, ◌∙◌, arith}
use Rattle.image.specs.Views.{low_of}
use Rattle.image.proofs.Laws.{get_or_low}
use Rattle.dictionary.specs.Dict.{marked}
use Rattle.dictionary.specs.Lent.{dict_of}
use Rattle.dictionary.proofs.Growing.{outside_written}
use Rattle.dictionary.proofs.Changing.{byte_in, set-written, low_only}
use Rattle.dictionary.proofs.registers.Dictionary.mark_immediate.Goals as goal

pub returns : goal.returns
returns c =
    let image = c.args.image.now in
    let dp = c.args.self.now.ends.dp in
    let low = low_of dp image in
    let a = c.args.self.now.names.newest + 2 in
    let w = byte_in dp image (c.from-count.result + 2) c.immediate.result (omega (arith, c.from-count.ensures)) (omega (arith, c.from-count.ensures)) (omega arith) in
    let k = ap (λ n. set low (n + 2) c.immediate.result) c.from-count.ensures in
    let m = ap (set low a) (c.immediate.ensures ∙ ap (λ n. marked (get_or image (n + 2) 0)) c.from-count.ensures ∙ ap marked (sym (get_or_low dp image a (omega arith) (omega arith)))) in
    record {
      made = low_only (dict_of c.args.self.now image) _ _ (w ∙ k ∙ m);
      rest = outside_written (c.from-count.result + 2) _ image _ (omega (arith, c.from-count.ensures)) (omega (arith, c.from-count.ensures)) (omega arith) (set-written image (c.from-count.result + 2) c.immediate.result (omega (arith, c.from-count.ensures)));
    }
