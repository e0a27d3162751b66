use Rattle.std.proofs.Common.{length, ap, arith}
use Rattle.texts.proofs.Windows.{text_long}
use Rattle.texts.proofs.words.last_word.Goals as goal

pub slice_bounds-result-end : goal.slice_bounds-result-end
slice_bounds-result-end c =
    let l = text_long c.args.registers.now c.args.image.now c.told-image in
    let e = ap length c.text_of-text.ensures in
    omega arith
