use Rattle.std.proofs.Common.{ap, ◌∙◌}
use Rattle.dictionary.specs.Dict.{patched, with_newest}
use Rattle.dictionary.specs.Lent.{dict_of}
use Rattle.dictionary.proofs.registers.Dictionary.join.Goals as goal

pub returns-clause-made : goal.returns-clause-made
returns-clause-made c =
    ap (with_newest c.args.e) (c.patch.ensures.made ∙ ap (λ a. patched a c.args.e (dict_of c.args.self.now c.args.image.now)) c.head_of-head.ensures)
