use Rattle.std.proofs.Common.{◌+◌, ◌-◌, take, drop, refl, ap}
use Rattle.std.proofs.lemmas.Result.{err_from_is_err_and}
use Rattle.fault.specs.declared.Reason.TheVariants.{BadToken}
use Rattle.definition.specs.Machine.{with_ip}
use Rattle.typing_words.proofs.Parts.{part_is}
use Rattle.typing_words.proofs.Ends.{refuses, went, full}
use Rattle.typing_words.proofs.Doing.{text_bad, text_fits, pointer_view}
use Rattle.typing_words.proofs.typing.type_text.Goals as goal

pub returns-in_err-n-clause-did : goal.returns-in_err-n-clause-did
returns-in_err-n-clause-did c =
    let p = err_from_is_err_and c.from_residual.result c.from_residual.ensures.1 in
    let h = c.in_err-n.ensures in
    rw (p.1, p.2) (refuses 105 c.args.registers.now c.args.image.now c.args.cells.now c.args.output.now.bytes.now c.args.output.now.typed _ BadToken (text_bad c.args.registers.now c.args.image.now c.args.cells.now c.told-image h.0) h.1)

pub returns-then-not-type_bytes-clause-did : goal.returns-then-not-type_bytes-clause-did
returns-then-not-type_bytes-clause-did c =
    full 105 c.args.registers.now c.args.image.now c.args.cells.now c.args.output.now.bytes.now c.args.output.now.typed c.args.registers.now c.type_bytes.new.self.bytes.now c.type_bytes.new.self.typed (take (((c.from-from.result + 1) + c.from.result) - (c.from-from.result + 1)) (drop (c.from-from.result + 1) c.args.image.now)) (take c.in_ok-n.n (drop (c.args.registers.now.seat.flow.ip + 1) c.args.image.now)) (with_ip (c.args.registers.now.seat.flow.ip + c.in_ok-n.n + 1))
    (part_is c.args.image.now (c.from-from.result + 1) c.from.result (c.args.registers.now.seat.flow.ip + 1) c.in_ok-n.n (ap (λ y. y + 1) c.from-from.ensures) c.from.ensures) c.if-not-type_bytes.ensures.types refl (text_fits c.args.registers.now c.args.image.now c.args.cells.now c.told-image c.in_ok-n.n c.in_ok-n.ensures.0 c.in_ok-n.ensures.1)

pub returns-clause-did : goal.returns-clause-did
returns-clause-did c =
    went 105 c.args.registers.now c.args.image.now c.args.cells.now c.args.output.now.bytes.now c.args.output.now.typed c.skip_text.new.registers c.type_bytes.new.self.bytes.now c.type_bytes.new.self.typed (take (((c.from-from.result + 1) + c.from.result) - (c.from-from.result + 1)) (drop (c.from-from.result + 1) c.args.image.now)) (take c.in_ok-n.n (drop (c.args.registers.now.seat.flow.ip + 1) c.args.image.now)) (with_ip (c.args.registers.now.seat.flow.ip + c.in_ok-n.n + 1))
    (part_is c.args.image.now (c.from-from.result + 1) c.from.result (c.args.registers.now.seat.flow.ip + 1) c.in_ok-n.n (ap (λ y. y + 1) c.from-from.ensures) c.from.ensures) c.if-not-type_bytes.ensures.types
    (pointer_view c.args.registers.now c.skip_text.new.registers c.args.image.now c.args.cells.now (c.args.registers.now.seat.flow.ip + c.in_ok-n.n + 1) c.skip_text.ensures.shared c.skip_text.ensures.seat) (text_fits c.args.registers.now c.args.image.now c.args.cells.now c.told-image c.in_ok-n.n c.in_ok-n.ensures.0 c.in_ok-n.ensures.1)
