use Rattle.std.proofs.Common.{Ok, ◌∙◌, subst}
use Rattle.std.proofs.lemmas.Result.{err_from_is_err_and}
use Rattle.definition.specs.Words.{execute}
use Rattle.codes.specs.Performs.{memory}
use Rattle.executing.proofs.Ending.{full_case}
use Rattle.stepping.specs.Steps.{Starts}
use Rattle.stepping.proofs.StepEnds.{tries_went, tries_finished, tries_refused, executes_refused, executes_on, executes_full}
use Rattle.stepping.proofs.step.attempt.Goals as goal

pub returns-in_err-start-clause-did : goal.returns-in_err-start-clause-did
returns-in_err-start-clause-did g c =
    let p = err_from_is_err_and c.from_residual.result c.from_residual.ensures.1 in
    rw (p.1, p.2) (tries_refused c.args.registers.now c.start.new.registers c.args.image.now c.args.cells.now c.start.new.image c.start.new.cells (g.S.Store.means c.args.store.now) (g.S.Store.means c.start.new.store) c.args.returns.now c.args.marks.now c.args.output.now.bytes.now c.args.output.now.typed _ c.in_err-start.ensures.did)

pub returns-in-Went-clause-did : goal.returns-in-Went-clause-did
returns-in-Went-clause-did g c = tries_went c.args.registers.now c.start.new.registers c.args.image.now c.args.cells.now c.start.new.image c.start.new.cells (g.S.Store.means c.args.store.now) (g.S.Store.means c.start.new.store) c.args.returns.now c.args.marks.now c.args.output.now.bytes.now c.args.output.now.typed (subst (λ y. Starts c.args.registers.now c.args.image.now c.args.cells.now (g.S.Store.means c.args.store.now) (Ok y) c.start.new.registers c.start.new.image c.start.new.cells (g.S.Store.means c.start.new.store)) c.in-Went.is c.in_ok-start.ensures.did)

pub returns-in-Finished-clause-did : goal.returns-in-Finished-clause-did
returns-in-Finished-clause-did g c = tries_finished c.args.registers.now c.start.new.registers c.args.image.now c.args.cells.now c.start.new.image c.start.new.cells (g.S.Store.means c.args.store.now) (g.S.Store.means c.start.new.store) c.args.returns.now c.args.marks.now c.args.output.now.bytes.now c.args.output.now.typed (subst (λ y. Starts c.args.registers.now c.args.image.now c.args.cells.now (g.S.Store.means c.args.store.now) (Ok y) c.start.new.registers c.start.new.image c.start.new.cells (g.S.Store.means c.start.new.store)) c.in-Finished.is c.in_ok-start.ensures.did)

pub returns-in_err-progress-clause-did : goal.returns-in_err-progress-clause-did
returns-in_err-progress-clause-did g c =
    let p = err_from_is_err_and c.from_residual-in_err-progress.result c.from_residual-in_err-progress.ensures.1 in
    rw (p.1, p.2) (executes_refused c.args.registers.now c.start.new.registers c.args.image.now c.args.cells.now c.start.new.image c.start.new.cells (g.S.Store.means c.args.store.now) (g.S.Store.means c.start.new.store) c.args.returns.now c.args.marks.now c.args.output.now.bytes.now c.args.output.now.typed c.in-Execute.token (subst (λ y. Starts c.args.registers.now c.args.image.now c.args.cells.now (g.S.Store.means c.args.store.now) (Ok y) c.start.new.registers c.start.new.image c.start.new.cells (g.S.Store.means c.start.new.store)) c.in-Execute.is c.in_ok-start.ensures.did) c.execute.new.registers (memory c.execute.new.image c.execute.new.cells c.execute.new.returns c.execute.new.marks c.execute.new.output.bytes.now c.execute.new.output.typed (g.S.Store.means c.execute.new.store)) _ c.in_err-progress.ensures.did)

pub returns-in-Full-clause-did : goal.returns-in-Full-clause-did
returns-in-Full-clause-did g c =
    let a = full_case (execute c.in-Execute.token) c.start.new.registers (memory c.start.new.image c.start.new.cells c.args.returns.now c.args.marks.now c.args.output.now.bytes.now c.args.output.now.typed (g.S.Store.means c.start.new.store)) c.execute.new.registers (memory c.execute.new.image c.execute.new.cells c.execute.new.returns c.execute.new.marks c.execute.new.output.bytes.now c.execute.new.output.typed (g.S.Store.means c.execute.new.store)) c.in_ok-progress.progress c.in-Full.is c.in_ok-progress.ensures.did in
    rw c.in-Full.is (executes_full c.args.registers.now c.start.new.registers c.args.image.now c.args.cells.now c.start.new.image c.start.new.cells (g.S.Store.means c.args.store.now) (g.S.Store.means c.start.new.store) c.args.returns.now c.args.marks.now c.args.output.now.bytes.now c.args.output.now.typed c.in-Execute.token (subst (λ y. Starts c.args.registers.now c.args.image.now c.args.cells.now (g.S.Store.means c.args.store.now) (Ok y) c.start.new.registers c.start.new.image c.start.new.cells (g.S.Store.means c.start.new.store)) c.in-Execute.is c.in_ok-start.ensures.did) c.execute.new.registers (memory c.execute.new.image c.execute.new.cells c.execute.new.returns c.execute.new.marks c.execute.new.output.bytes.now c.execute.new.output.typed (g.S.Store.means c.execute.new.store)) c.go_back.new.registers (c.go_back.ensures c.execute.new.image c.execute.new.cells c.execute.new.returns c.execute.new.marks (g.S.Store.means c.execute.new.store)) a)

pub returns-in_default : goal.returns-in_default
returns-in_default g c =
    let h = c.in_ok-progress.ensures in
    record {
      did = executes_on c.args.registers.now c.start.new.registers c.args.image.now c.args.cells.now c.start.new.image c.start.new.cells (g.S.Store.means c.args.store.now) (g.S.Store.means c.start.new.store) c.args.returns.now c.args.marks.now c.args.output.now.bytes.now c.args.output.now.typed c.in-Execute.token (subst (λ y. Starts c.args.registers.now c.args.image.now c.args.cells.now (g.S.Store.means c.args.store.now) (Ok y) c.start.new.registers c.start.new.image c.start.new.cells (g.S.Store.means c.start.new.store)) c.in-Execute.is c.in_ok-start.ensures.did) c.execute.new.registers (memory c.execute.new.image c.execute.new.cells c.execute.new.returns c.execute.new.marks c.execute.new.output.bytes.now c.execute.new.output.typed (g.S.Store.means c.execute.new.store)) c.in_ok-progress.progress c.in_default.not-Full h.did;
      below = h.below ∙ c.in_ok-start.ensures.below;
      size = h.size;
      same_reference = h.same_reference;
    }
