use Rattle.std.proofs.Common.{sym, ap, ◌∙◌}
use Rattle.definition.specs.Asked.{quietly}
use Rattle.steps.specs.Does.{seen}
use Rattle.compiling_words.proofs.Rows.{switch_acts}
use Rattle.compiling_words.proofs.words.switch.Goals as goal

pub returns : goal.returns
returns c = λ i x t again a k s l. switch_acts c.args.compiling again a (seen c.args.registers.now i x t k s) ∙ ap quietly (sym (c.set_compiling.ensures i x t k s))
