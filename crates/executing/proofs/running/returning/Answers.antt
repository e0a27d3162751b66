use Rattle.std.proofs.Common.{[], ◌∷◌}
use Rattle.std.proofs.lemmas.Result.{err_from_is_err_and}
use Rattle.definition.specs.Kernel
use Rattle.inner_words.specs.Numbers.{returns_number}
use Rattle.steps.specs.Does.{seen}
use Rattle.steps.proofs.States.{bare}
use Rattle.codes.proofs.Rows.{returns_rows}
use Rattle.steps.proofs.States.{refused_so, done_so}
use Rattle.executing.proofs.running.returning.Goals as goal

pub returns-in_err-ask_running : goal.returns-in_err-ask_running
returns-in_err-ask_running c =
    let p = err_from_is_err_and c.from_residual.result c.from_residual.ensures.1 in
    let h = c.in_err-ask_running.ensures in
    λ i again k s l. rw (p.1, p.2) (refused_so (returns_number c.args.word) (Kernel.ip_set ∷ []) (returns_rows c.args.word) again (seen c.args.registers.now i c.args.cells.now c.args.returns.now k s) _ (h i c.args.cells.now c.args.returns.now k s))

pub returns : goal.returns
returns c = λ i again k s l.
    let m = seen c.args.registers.now i c.args.cells.now c.args.returns.now k s in
    done_so (returns_number c.args.word) (Kernel.ip_set ∷ []) (returns_rows c.args.word) again m c.returns_word.result _ (c.in_ok-ask_running.ensures i c.args.cells.now c.args.returns.now k s) (c.returns_word.ensures i again (bare m) k s)
