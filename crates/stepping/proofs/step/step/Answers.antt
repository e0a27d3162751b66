use Rattle.std.proofs.Common.{sym, ◌∙◌}
use Rattle.codes.specs.Performs.{memory}
use Rattle.definition.specs.View.{lent}
use Rattle.stepping.proofs.StepEnds.{step_ends, step_ends_well}
use Rattle.stepping.proofs.LawEnds.{lawful, fault_kept}
use Rattle.stepping.proofs.step.step.Goals as goal

pub returns-then-is_err-clause-did : goal.returns-then-is_err-clause-did
returns-then-is_err-clause-did g c =
    (step_ends c.args.registers.now c.attempt-done.new.registers c.clear.new.self (memory c.args.image.now c.args.cells.now c.args.returns.now c.args.marks.now c.args.output.now.bytes.now c.args.output.now.typed (g.S.Store.means c.args.store.now)) (memory c.attempt-done.new.image c.attempt-done.new.cells c.attempt-done.new.returns c.attempt-done.new.marks c.attempt-done.new.output.bytes.now c.attempt-done.new.output.typed (g.S.Store.means c.attempt-done.new.store)) c.attempt-done.result (sym c.is_err.ensures.value ∙ c.if-is_err.true)
    (c.clear.ensures.view (lent c.attempt-done.new.image c.attempt-done.new.cells c.attempt-done.new.returns c.attempt-done.new.marks) (g.S.Store.means c.attempt-done.new.store)) c.attempt-done.ensures.did)

pub returns-then-is_err-clause-lawful : goal.returns-then-is_err-clause-lawful
returns-then-is_err-clause-lawful g c =
    lawful c.args.registers.now c.clear.new.self (memory c.args.image.now c.args.cells.now c.args.returns.now c.args.marks.now c.args.output.now.bytes.now c.args.output.now.typed (g.S.Store.means c.args.store.now)) (memory c.attempt-done.new.image c.attempt-done.new.cells c.attempt-done.new.returns c.attempt-done.new.marks c.attempt-done.new.output.bytes.now c.attempt-done.new.output.typed (g.S.Store.means c.attempt-done.new.store)) c.attempt-done.result
    (step_ends c.args.registers.now c.attempt-done.new.registers c.clear.new.self (memory c.args.image.now c.args.cells.now c.args.returns.now c.args.marks.now c.args.output.now.bytes.now c.args.output.now.typed (g.S.Store.means c.args.store.now)) (memory c.attempt-done.new.image c.attempt-done.new.cells c.attempt-done.new.returns c.attempt-done.new.marks c.attempt-done.new.output.bytes.now c.attempt-done.new.output.typed (g.S.Store.means c.attempt-done.new.store)) c.attempt-done.result (sym c.is_err.ensures.value ∙ c.if-is_err.true)
    (c.clear.ensures.view (lent c.attempt-done.new.image c.attempt-done.new.cells c.attempt-done.new.returns c.attempt-done.new.marks) (g.S.Store.means c.attempt-done.new.store)) c.attempt-done.ensures.did)

pub returns-then-is_err-clause-kept : goal.returns-then-is_err-clause-kept
returns-then-is_err-clause-kept g c =
    fault_kept c.args.registers.now c.clear.new.self (memory c.args.image.now c.args.cells.now c.args.returns.now c.args.marks.now c.args.output.now.bytes.now c.args.output.now.typed (g.S.Store.means c.args.store.now)) (memory c.attempt-done.new.image c.attempt-done.new.cells c.attempt-done.new.returns c.attempt-done.new.marks c.attempt-done.new.output.bytes.now c.attempt-done.new.output.typed (g.S.Store.means c.attempt-done.new.store)) c.attempt-done.result
    (step_ends c.args.registers.now c.attempt-done.new.registers c.clear.new.self (memory c.args.image.now c.args.cells.now c.args.returns.now c.args.marks.now c.args.output.now.bytes.now c.args.output.now.typed (g.S.Store.means c.args.store.now)) (memory c.attempt-done.new.image c.attempt-done.new.cells c.attempt-done.new.returns c.attempt-done.new.marks c.attempt-done.new.output.bytes.now c.attempt-done.new.output.typed (g.S.Store.means c.attempt-done.new.store)) c.attempt-done.result (sym c.is_err.ensures.value ∙ c.if-is_err.true)
    (c.clear.ensures.view (lent c.attempt-done.new.image c.attempt-done.new.cells c.attempt-done.new.returns c.attempt-done.new.marks) (g.S.Store.means c.attempt-done.new.store)) c.attempt-done.ensures.did)

pub returns-else-is_err-clause-lawful : goal.returns-else-is_err-clause-lawful
returns-else-is_err-clause-lawful g c = lawful c.args.registers.now c.attempt-done.new.registers (memory c.args.image.now c.args.cells.now c.args.returns.now c.args.marks.now c.args.output.now.bytes.now c.args.output.now.typed (g.S.Store.means c.args.store.now)) (memory c.attempt-done.new.image c.attempt-done.new.cells c.attempt-done.new.returns c.attempt-done.new.marks c.attempt-done.new.output.bytes.now c.attempt-done.new.output.typed (g.S.Store.means c.attempt-done.new.store)) c.attempt-done.result (step_ends_well c.args.registers.now c.attempt-done.new.registers (memory c.args.image.now c.args.cells.now c.args.returns.now c.args.marks.now c.args.output.now.bytes.now c.args.output.now.typed (g.S.Store.means c.args.store.now)) (memory c.attempt-done.new.image c.attempt-done.new.cells c.attempt-done.new.returns c.attempt-done.new.marks c.attempt-done.new.output.bytes.now c.attempt-done.new.output.typed (g.S.Store.means c.attempt-done.new.store)) c.attempt-done.result (sym c.is_err.ensures.value ∙ c.if-is_err.false) c.attempt-done.ensures.did)
