use Rattle.std.proofs.Common.{[], ◌∷◌, ◌++◌, take, sym, ap, ◌∙◌, arith}
use Rattle.std.proofs.lemmas.List.{take_more, take_all}
use Rattle.entries.specs.Entries.{spelled}
use Rattle.entries.proofs.Names.{length-spelled}
use Rattle.dictionary.specs.Dict.{appended}
use Rattle.dictionary.specs.Lent.{dict_of}
use Rattle.dictionary.proofs.Growing.{appended_two, appended_none, outside_none, outside_then}
use Rattle.dictionary.proofs.registers.Dictionary.put_name.Goals as goal

pub loop-i-init : goal.loop-i-init
loop-i-init c = (appended_none _, (omega arith, outside_none _))

pub loop-i-preserved : goal.loop-i-preserved
loop-i-preserved c =
    let l = length-spelled c.args.name.now in
    let t = take_more (spelled c.args.name.now) c.loop-i.i 0 (omega arith) in (
      appended_two _ _ _ _ _ _ c.loop-i.invariant.0 c.put.ensures.made (ap (λ b. take c.loop-i.i (spelled c.args.name.now) ++ b ∷ []) c.held_byte.ensures ∙ sym t),
      (omega (arith, c.put.ensures.dp, c.loop-i.invariant.1.0), outside_then c.loop-i.invariant.1.1 c.put.ensures.rest),
    )

pub returns : goal.returns
returns c =
    let l = length-spelled c.args.name.now in
    record {
      made = c.loop-i.invariant.0 ∙ ap (λ s. appended s (dict_of c.args.self.now c.args.image.now)) (take_all c.loop-i.i (spelled c.args.name.now) (omega arith));
      dp = omega (arith, c.loop-i.invariant.1.0);
      rest = c.loop-i.invariant.1.1;
    }
