use Rattle.std.proofs.Common.{◌+◌, ◌%◌, ap, ◌∙◌, arith}
use Rattle.image.specs.Cells.{at}
use Rattle.dictionary.specs.Begins.{head_joined}
use Rattle.dictionary.specs.Dict.{with_opened}
use Rattle.dictionary.specs.Lent.{dict_of}
use Rattle.dictionary.proofs.registers.Dictionary.join_open.Goals as goal

pub returns-clause-made : goal.returns-clause-made
returns-clause-made c =
    let D = dict_of c.args.self.now c.args.image.now in
    let thread = c.from.ensures ∙ ap (λ b. b % 4) (c.byte-first.ensures ∙ ap (λ s. at s (c.args.self.now.names.opened + 3)) c.entries.ensures.bytes) in
    c.shut.ensures c.join.new.image (omega arith) ∙ ap (with_opened 0) (c.join.ensures.made ∙ ap (λ t. head_joined t c.args.self.now.names.opened D) thread)
