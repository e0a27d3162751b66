use Rattle.std.proofs.Common.{◌+◌, ◌-◌, take, drop}
use Rattle.std.proofs.lemmas.Result.{err_from_is_err_and}
use Rattle.fault.specs.declared.Reason.TheVariants.{StackUnderflow, OutOfReach}
use Rattle.typing_words.proofs.Parts.{part_is}
use Rattle.typing_words.proofs.Ends.{refuses, ends}
use Rattle.typing_words.proofs.Doing.{type_short, type_unreached, type_reached}
use Rattle.typing_words.proofs.typing.type_space.Goals as goal

pub returns-in_err-need-clause-did : goal.returns-in_err-need-clause-did
returns-in_err-need-clause-did c =
    let p = err_from_is_err_and c.from_residual.result c.from_residual.ensures.1 in
    let h = c.in_err-need.ensures in
    rw (p.1, p.2) (refuses 52 c.args.registers.now c.args.image.now c.args.cells.now c.args.output.now.bytes.now c.args.output.now.typed _ StackUnderflow (type_short c.args.registers.now c.args.image.now c.args.cells.now c.told-image c.told-cells h.0) h.1)

pub returns-in_err-reach-clause-did : goal.returns-in_err-reach-clause-did
returns-in_err-reach-clause-did c =
    let p = err_from_is_err_and c.from_residual-in_err-reach.result c.from_residual-in_err-reach.ensures.1 in
    let h = c.in_err-reach.ensures in
    rw (p.1, p.2) (refuses 52 c.args.registers.now c.args.image.now c.args.cells.now c.args.output.now.bytes.now c.args.output.now.typed _ OutOfReach (type_unreached c.args.registers.now c.args.image.now c.args.cells.now c.told-image c.told-cells c.cell.result c.count_of-n.result c.cell-address.result c.in_ok-need.ensures c.cell.ensures c.count_of-n.ensures c.cell-address.ensures h.0) h.1)

pub returns-clause-did : goal.returns-clause-did
returns-clause-did c =
    ends 52 c.args.registers.now c.args.image.now c.args.cells.now c.args.output.now.bytes.now c.args.output.now.typed c.finish.new.registers c.type_bytes-fitted.new.self.bytes.now c.type_bytes-fitted.new.self.typed 2 (take ((c.from-from.result + c.from.result) - c.from-from.result) (drop c.from-from.result c.args.image.now)) (take c.count_of-n.result (drop c.cell-address.result c.args.image.now))
    c.type_bytes-fitted.result c.finish.result (part_is c.args.image.now c.from-from.result c.from.result c.cell-address.result c.count_of-n.result c.from-from.ensures c.from.ensures) c.type_bytes-fitted.ensures.types c.finish.ensures
    (type_reached c.args.registers.now c.args.image.now c.args.cells.now c.told-image c.told-cells c.cell.result c.count_of-n.result c.cell-address.result c.in_ok-need.ensures c.cell.ensures c.count_of-n.ensures c.cell-address.ensures c.in_ok-reach.ensures.0)
