use Rattle.std.proofs.Common.{◌+◌, length, arith}
use Rattle.image.proofs.Laws.{length_low}
use Rattle.dictionary.specs.Lent.{dict_of}
use Rattle.kernel.proofs.Loads.{fits, ended}
use Rattle.kernel.proofs.kernel_word.Goals as goal

pub unwrap-requires : goal.unwrap-requires
unwrap-requires c =
    let l = length_low c.args.d.now.ends.dp c.args.image.now (omega arith) (omega arith) in
    (fits (9 + length c.args.header.now.name.now + 0) _ (dict_of c.args.d.now c.args.image.now) _ (dict_of c.define.new.self c.define.new.image) c.define.result c.define.ensures.did (omega arith)).0

pub returns : goal.returns
returns c =
    let l = length_low c.args.d.now.ends.dp c.args.image.now (omega arith) (omega arith) in
    let f = fits (9 + length c.args.header.now.name.now + 0) _ (dict_of c.args.d.now c.args.image.now) _ (dict_of c.define.new.self c.define.new.image) c.define.result c.define.ensures.did (omega arith) in
    let e = ended _ _ c.define.result c.define.ensures.end f.0 in
    record { made = f.1; dp = omega (arith, e); rest = c.define.ensures.rest }
