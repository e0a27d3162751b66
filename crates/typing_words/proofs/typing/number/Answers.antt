use Rattle.std.proofs.Common.{[], ◌∷◌, ◌++◌, take}
use Rattle.std.proofs.lemmas.Result.{err_from_is_err_and}
use Rattle.fault.specs.declared.Reason.TheVariants.{StackUnderflow, BadBase}
use Rattle.typing_words.specs.Numbers.{number_text, number_word}
use Rattle.typing_words.proofs.Ends.{refuses, ends}
use Rattle.typing_words.proofs.Doing.{number_types, number_short, number_bad, number_typed}
use Rattle.typing_words.proofs.typing.number.Goals as goal

pub returns-in_err-need-clause-did : goal.returns-in_err-need-clause-did
returns-in_err-need-clause-did c =
    let p = err_from_is_err_and c.from_residual.result c.from_residual.ensures.1 in
    let h = c.in_err-need.ensures in
    rw (p.1, p.2) (refuses (number_word c.args.signed) c.args.registers.now c.args.image.now c.args.cells.now c.args.output.now.bytes.now c.args.output.now.typed _ StackUnderflow (number_short c.args.registers.now c.args.image.now c.args.cells.now c.told-image c.told-cells (number_word c.args.signed) (number_text c.args.signed) (number_types c.args.signed) h.0) h.1)

pub returns-in_err-base-clause-did : goal.returns-in_err-base-clause-did
returns-in_err-base-clause-did c =
    let p = err_from_is_err_and c.from_residual-in_err-base.result c.from_residual-in_err-base.ensures.1 in
    let h = c.in_err-base.ensures in
    rw (p.1, p.2) (refuses (number_word c.args.signed) c.args.registers.now c.args.image.now c.args.cells.now c.args.output.now.bytes.now c.args.output.now.typed _ BadBase (number_bad c.args.registers.now c.args.image.now c.args.cells.now c.told-image c.told-cells (number_word c.args.signed) (number_text c.args.signed) (number_types c.args.signed) c.in_ok-need.ensures h.0) h.1)

pub returns-clause-did : goal.returns-clause-did
returns-clause-did c =
    ends (number_word c.args.signed) c.args.registers.now c.args.image.now c.args.cells.now c.args.output.now.bytes.now c.args.output.now.typed c.finish.new.registers c.type_bytes-fitted.new.self.bytes.now c.type_bytes-fitted.new.self.typed 1 (take c.write_number-length.result c.write_number-length.new.text) (number_text c.args.signed c.in_ok-base.base c.cell-x.result ++ (32 ∷ []))
    c.type_bytes-fitted.result c.finish.result c.write_number-length.ensures.written c.type_bytes-fitted.ensures.types c.finish.ensures
    (number_typed c.args.registers.now c.args.image.now c.args.cells.now c.told-image c.told-cells (number_word c.args.signed) (number_text c.args.signed) c.in_ok-base.base c.cell-x.result (number_types c.args.signed) c.in_ok-need.ensures c.in_ok-base.ensures.0 c.in_ok-base.ensures.1 c.cell-x.ensures)
