use Rattle.std.proofs.lemmas.Bool.{le-ltb}
use Rattle.std.proofs.Common.{slice_index_or, sym, ap, ◌∙◌, arith}
use Rattle.stacks.specs.Stack.{stack_of}
use Rattle.stacks.proofs.Laws.{length_stack}
use Rattle.control_words.proofs.Marking.{mark_there, mark_past}
use Rattle.control_words.proofs.marks.is_mark.Goals as goal

pub returns-then-k-depth : goal.returns-then-k-depth
returns-then-k-depth c =
    let d = c.args.registers.now.seat.depths.marks in
    let l = length_stack d c.args.marks.now (omega (arith, c.told-marks, c.depth.ensures.value, c.depth.ensures.limit)) in
    c.eq.ensures ∙ mark_there c.args.k c.args.kind (stack_of d c.args.marks.now) c.pick.result (omega (arith, l, c.depth.ensures.value, c.if-k-depth.true)) (λ z. c.pick.ensures z ∙ ap (λ n. slice_index_or (stack_of n c.args.marks.now) c.args.k z) c.depth-then-k-depth.ensures.value)

pub returns-else-k-depth : goal.returns-else-k-depth
returns-else-k-depth c =
    let d = c.args.registers.now.seat.depths.marks in
    let l = length_stack d c.args.marks.now (omega (arith, c.told-marks, c.depth.ensures.value, c.depth.ensures.limit)) in
    le-ltb c.args.k c.depth.result c.if-k-depth.false ∙ sym (mark_past c.args.k c.args.kind (stack_of d c.args.marks.now) (omega (arith, l, c.depth.ensures.value, c.if-k-depth.false)))
