use Rattle.std.proofs.Common.{[], ◌∷◌}
use Rattle.std.proofs.lemmas.Result.{err_from_is_err_and}
use Rattle.definition.specs.Kernel
use Rattle.steps.specs.Does.{seen}
use Rattle.steps.proofs.States.{bare}
use Rattle.codes.proofs.Rows.{load_row}
use Rattle.steps.proofs.States.{refused_so, done_so}
use Rattle.seldom_words.proofs.growing.loading.Goals as goal

pub returns-in_err-ask_not_running : goal.returns-in_err-ask_not_running
returns-in_err-ask_not_running c =
    let p = err_from_is_err_and c.from_residual.result c.from_residual.ensures.1 in
    let h = c.in_err-ask_not_running.ensures in
    λ i t z again k s l. rw (p.1, p.2) (refused_so 58 (Kernel.ip_zero ∷ []) load_row again (seen c.args.registers.now i c.args.cells.now t k s) _ (h i c.args.cells.now t k s))

pub returns : goal.returns
returns c = λ i t z again k s l.
    let m = seen c.args.registers.now i c.args.cells.now t k s in
    done_so 58 (Kernel.ip_zero ∷ []) load_row again m c.load_word.result _ (c.in_ok-ask_not_running.ensures i c.args.cells.now t k s) (c.load_word.ensures again (bare m) i t k s z)
