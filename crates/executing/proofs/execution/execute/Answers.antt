use Rattle.std.proofs.Common.{length}
use Rattle.std.proofs.lemmas.Result.{err_from_is_err_and}
use Rattle.definition.specs.Words.{execute_within, execute}
use Rattle.steps.specs.Does.{seen}
use Rattle.codes.specs.Performs.{coded, memory}
use Rattle.executing.proofs.Ending.{acts_refused, acts_on, acts_full, full_case, full_kept, restored}
use Rattle.executing.proofs.execution.execute.Goals as goal

pub returns-in_err-progress-clause-did : goal.returns-in_err-progress-clause-did
returns-in_err-progress-clause-did g c =
    let p = err_from_is_err_and c.from_residual-in_err-progress.result c.from_residual-in_err-progress.ensures.1 in
    let r1 = c.through_execute.new.registers in
    let again = execute_within (length (seen r1 c.args.image.now c.args.cells.now c.args.returns.now c.args.marks.now (g.S.Store.means c.args.store.now)).stacks.cells) in
    let e = c.in_ok-found.ensures.through.2 c.args.returns.now c.args.marks.now (g.S.Store.means c.args.store.now) in
    rw (p.1, p.2) (acts_refused (execute c.args.token) (coded again c.in_ok-found.found.code c.in_ok-found.found.token) c.args.registers.now r1 (memory c.args.image.now c.args.cells.now c.args.returns.now c.args.marks.now c.args.output.now.bytes.now c.args.output.now.typed (g.S.Store.means c.args.store.now)) e c.perform.new.registers (memory c.perform.new.image c.perform.new.cells c.perform.new.returns c.perform.new.marks c.perform.new.output.bytes.now c.perform.new.output.typed (g.S.Store.means c.perform.new.store)) _ (c.in_err-progress.ensures.did again))

pub returns-in-Full-clause-did : goal.returns-in-Full-clause-did
returns-in-Full-clause-did g c =
    let r1 = c.through_execute.new.registers in
    let again = execute_within (length (seen r1 c.args.image.now c.args.cells.now c.args.returns.now c.args.marks.now (g.S.Store.means c.args.store.now)).stacks.cells) in
    let e = c.in_ok-found.ensures.through.2 c.args.returns.now c.args.marks.now (g.S.Store.means c.args.store.now) in
    let a = full_case (coded again c.in_ok-found.found.code c.in_ok-found.found.token) r1 (memory c.args.image.now c.args.cells.now c.args.returns.now c.args.marks.now c.args.output.now.bytes.now c.args.output.now.typed (g.S.Store.means c.args.store.now)) c.perform.new.registers (memory c.perform.new.image c.perform.new.cells c.perform.new.returns c.perform.new.marks c.perform.new.output.bytes.now c.perform.new.output.typed (g.S.Store.means c.perform.new.store)) c.in_ok-progress.progress c.in-Full.is (c.in_ok-progress.ensures.did again) in
    let k = full_kept c.in_ok-progress.progress c.args.cells.now c.perform.new.cells c.in-Full.is c.in_ok-progress.ensures.full in
    rw c.in-Full.is
    (acts_full (execute c.args.token) (coded again c.in_ok-found.found.code c.in_ok-found.found.token) c.args.registers.now r1 (memory c.args.image.now c.args.cells.now c.args.returns.now c.args.marks.now c.args.output.now.bytes.now c.args.output.now.typed (g.S.Store.means c.args.store.now)) e c.perform.new.registers (memory c.perform.new.image c.perform.new.cells c.perform.new.returns c.perform.new.marks c.perform.new.output.bytes.now c.perform.new.output.typed (g.S.Store.means c.perform.new.store)) c.set_depth.new.registers
    (restored c.args.registers.now r1 c.perform.new.registers c.set_depth.new.registers (memory c.args.image.now c.args.cells.now c.args.returns.now c.args.marks.now c.args.output.now.bytes.now c.args.output.now.typed (g.S.Store.means c.args.store.now)) (memory c.perform.new.image c.perform.new.cells c.perform.new.returns c.perform.new.marks c.perform.new.output.bytes.now c.perform.new.output.typed (g.S.Store.means c.perform.new.store)) c.in_ok-found.ensures.released a.did.3 k c.set_depth.ensures.shared c.set_depth.ensures.seat) a)

pub returns-in_default : goal.returns-in_default
returns-in_default g c =
    let r1 = c.through_execute.new.registers in
    let again = execute_within (length (seen r1 c.args.image.now c.args.cells.now c.args.returns.now c.args.marks.now (g.S.Store.means c.args.store.now)).stacks.cells) in
    let e = c.in_ok-found.ensures.through.2 c.args.returns.now c.args.marks.now (g.S.Store.means c.args.store.now) in
    let h = c.in_ok-progress.ensures in
    record {
      did = acts_on (execute c.args.token) (coded again c.in_ok-found.found.code c.in_ok-found.found.token) c.args.registers.now r1 (memory c.args.image.now c.args.cells.now c.args.returns.now c.args.marks.now c.args.output.now.bytes.now c.args.output.now.typed (g.S.Store.means c.args.store.now)) e c.perform.new.registers (memory c.perform.new.image c.perform.new.cells c.perform.new.returns c.perform.new.marks c.perform.new.output.bytes.now c.perform.new.output.typed (g.S.Store.means c.perform.new.store)) c.in_ok-progress.progress c.in_default.not-Full (h.did again);
      below = h.below;
      size = h.size;
      same_reference = h.same_reference;
    }
