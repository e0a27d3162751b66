use Rattle.std.proofs.Common.{arith}
use Rattle.stacks.specs.Stack.{stack_of}
use Rattle.stacks.proofs.Laws.{length_stack}
use Rattle.control_words.proofs.Marking.{address_past}
use Rattle.control_words.proofs.marks.mark_address.Goals as goal

pub returns-then-k-depth : goal.returns-then-k-depth
returns-then-k-depth c =
    let d = c.args.registers.now.seat.depths.marks in
    let l = length_stack d c.args.marks.now (omega (arith, c.told-marks, c.depth.ensures.value, c.depth.ensures.limit)) in
    address_past c.args.k (stack_of d c.args.marks.now) (omega (arith, l, c.depth.ensures.value, c.if-k-depth.true))
