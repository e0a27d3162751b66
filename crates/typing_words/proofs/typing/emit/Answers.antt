use Rattle.std.proofs.Common.{[], ◌∷◌, refl}
use Rattle.std.proofs.lemmas.Result.{err_from_is_err_and}
use Rattle.fault.specs.declared.Reason.TheVariants.{StackUnderflow}
use Rattle.typing_words.proofs.Ends.{refuses, ends}
use Rattle.typing_words.proofs.Doing.{emit_short, emit_typed}
use Rattle.typing_words.proofs.typing.emit.Goals as goal

pub returns-in_err-need-clause-did : goal.returns-in_err-need-clause-did
returns-in_err-need-clause-did c =
    let p = err_from_is_err_and c.from_residual.result c.from_residual.ensures.1 in
    let h = c.in_err-need.ensures in
    rw (p.1, p.2) (refuses 51 c.args.registers.now c.args.image.now c.args.cells.now c.args.output.now.bytes.now c.args.output.now.typed _ StackUnderflow (emit_short c.args.registers.now c.args.image.now c.args.cells.now c.told-image c.told-cells h.0) h.1)

pub returns-clause-did : goal.returns-clause-did
returns-clause-did c =
    ends 51 c.args.registers.now c.args.image.now c.args.cells.now c.args.output.now.bytes.now c.args.output.now.typed c.finish.new.registers c.type_bytes-fitted.new.self.bytes.now c.type_bytes-fitted.new.self.typed 1 (c.low_seven_bits-byte.result ∷ []) (c.low_seven_bits-byte.result ∷ [])
    c.type_bytes-fitted.result c.finish.result (refl) c.type_bytes-fitted.ensures.types c.finish.ensures
    (emit_typed c.args.registers.now c.args.image.now c.args.cells.now c.told-image c.told-cells c.cell.result c.low_seven_bits-byte.result c.in_ok-need.ensures c.cell.ensures c.low_seven_bits-byte.ensures)
