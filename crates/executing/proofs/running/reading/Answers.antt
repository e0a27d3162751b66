use Rattle.std.proofs.Common.{[], ◌∷◌}
use Rattle.std.proofs.lemmas.Result.{err_from_is_err_and}
use Rattle.definition.specs.Kernel
use Rattle.inner_words.specs.Numbers.{inline_number}
use Rattle.steps.specs.Does.{seen}
use Rattle.steps.proofs.States.{bare}
use Rattle.codes.proofs.Rows.{inline_rows}
use Rattle.steps.proofs.States.{refused_so, done_so}
use Rattle.executing.proofs.running.reading.Goals as goal

pub returns-in_err-ask_running : goal.returns-in_err-ask_running
returns-in_err-ask_running c =
    let p = err_from_is_err_and c.from_residual.result c.from_residual.ensures.1 in
    let h = c.in_err-ask_running.ensures in
    λ again k s l. rw (p.1, p.2) (refused_so (inline_number c.args.word) (Kernel.ip_set ∷ []) (inline_rows c.args.word) again (seen c.args.registers.now c.args.image.now c.args.cells.now c.args.returns.now k s) _ (h c.args.image.now c.args.cells.now c.args.returns.now k s))

pub returns : goal.returns
returns c = λ again k s l.
    let m = seen c.args.registers.now c.args.image.now c.args.cells.now c.args.returns.now k s in
    done_so (inline_number c.args.word) (Kernel.ip_set ∷ []) (inline_rows c.args.word) again m c.inline_word.result _ (c.in_ok-ask_running.ensures c.args.image.now c.args.cells.now c.args.returns.now k s) (c.inline_word.ensures again (bare m) k s)
