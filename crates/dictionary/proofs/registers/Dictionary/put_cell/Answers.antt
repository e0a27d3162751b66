use Rattle.std.proofs.Common.{ap, ◌∙◌}
use Rattle.dictionary.specs.Dict.{appended}
use Rattle.dictionary.specs.Lent.{dict_of}
use Rattle.dictionary.proofs.registers.Dictionary.put_cell.Goals as goal

pub returns-clause-made : goal.returns-clause-made
returns-clause-made c =
    c.put.ensures.made ∙ ap (λ b. appended b (dict_of c.args.self.now c.args.image.now)) c.cell_bytes.ensures
