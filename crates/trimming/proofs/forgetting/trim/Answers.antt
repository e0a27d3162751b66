use Rattle.std.proofs.Common.{arith}
use Rattle.image.proofs.Laws.{length_low}
use Rattle.dictionary.specs.Lent.{dict_of}
use Rattle.trimming.proofs.TrimLaws.{asked}
use Rattle.trimming.proofs.forgetting.trim.Goals as goal

pub body_of-body-requires : goal.body_of-body-requires
body_of-body-requires c =
    let l = length_low c.args.d.now.ends.dp c.args.image.now (omega arith) (omega arith) in
    let t = asked c.args.fence c.args.w c.args.d.now.ends.dp (dict_of c.args.d.now c.args.image.now) l c.requires in
    (omega (arith, t.low), t.whole)
