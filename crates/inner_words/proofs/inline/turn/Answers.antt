use Rattle.std.proofs.Common.{sym, refl}
use Rattle.inner_words.proofs.Inlining.{turn_round, turn_out}
use Rattle.inner_words.proofs.inline.turn.Goals as goal

pub returns-then-is_past : goal.returns-then-is_past
returns-then-is_past c =
    turn_out c.args.registers.now c.release.new.registers c.skip.new.registers c.args.returns.now c.args.n c.args.start c.cell-index.result c.cell-limit.result
    c.cell-index.ensures c.cell-limit.ensures (sym c.if-is_past.ensures)
    (record { shared = c.release.ensures.shared; seat = c.release.ensures.seat; stack = c.release.ensures.stack }) (record { shared = c.skip.ensures.shared; seat = c.skip.ensures.seat })

pub returns-else-is_past : goal.returns-else-is_past
returns-else-is_past c =
    turn_round c.args.registers.now c.release-else-is_past.new.registers c.push.new.registers c.go_to.new.registers c.args.returns.now c.push.new.cells c.args.n c.args.start c.cell-index.result c.cell-limit.result _
    c.cell-index.ensures c.cell-limit.ensures (sym c.if-is_past.ensures) refl
    (record { shared = c.release-else-is_past.ensures.shared; seat = c.release-else-is_past.ensures.seat; stack = c.release-else-is_past.ensures.stack }) (record { shared = c.push.ensures.shared; seat = c.push.ensures.seat; stack = c.push.ensures.stack }) (record { shared = c.go_to.ensures.shared; seat = c.go_to.ensures.seat })
