use Rattle.std.proofs.Common.{[], ◌∷◌, refl}
use Rattle.typing_words.proofs.Ends.{ends}
use Rattle.typing_words.proofs.Doing.{cr_typed}
use Rattle.typing_words.proofs.typing.new_line.Goals as goal

pub returns-clause-did : goal.returns-clause-did
returns-clause-did c =
    ends 53 c.args.registers.now c.args.image.now c.args.cells.now c.args.output.now.bytes.now c.args.output.now.typed c.finish.new.registers c.type_bytes-fitted.new.self.bytes.now c.type_bytes-fitted.new.self.typed 0 (13 ∷ 10 ∷ []) (13 ∷ 10 ∷ [])
    c.type_bytes-fitted.result c.finish.result (refl) c.type_bytes-fitted.ensures.types c.finish.ensures
    (cr_typed c.args.registers.now c.args.image.now c.args.cells.now c.told-image c.told-cells)
