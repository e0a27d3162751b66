use Rattle.std.proofs.Common.{[], ◌∷◌}
use Rattle.std.proofs.lemmas.Result.{err_from_is_err_and}
use Rattle.definition.specs.Kernel
use Rattle.steps.specs.Does.{seen}
use Rattle.steps.proofs.States.{bare}
use Rattle.codes.proofs.Rows.{allot_row}
use Rattle.steps.proofs.States.{refused_so, done_so}
use Rattle.seldom_words.proofs.growing.allotting.Goals as goal

pub returns-in_err-ask_none_open-clause-did : goal.returns-in_err-ask_none_open-clause-did
returns-in_err-ask_none_open-clause-did c =
    let p = err_from_is_err_and c.from_residual.result c.from_residual.ensures.1 in
    let h = c.in_err-ask_none_open.ensures.answers in
    λ t again k s l. rw (p.1, p.2) (refused_so 46 (Kernel.none_open ∷ []) allot_row again (seen c.args.registers.now c.args.image.now c.args.cells.now t k s) _ (h c.args.image.now c.args.cells.now t k s))

pub returns-clause-did : goal.returns-clause-did
returns-clause-did c = λ t again k s l.
    let m = seen c.args.registers.now c.args.image.now c.args.cells.now t k s in
    done_so 46 (Kernel.none_open ∷ []) allot_row again m c.allot.result _ (c.in_ok-ask_none_open.ensures.answers c.args.image.now c.args.cells.now t k s) (c.allot.ensures.did again (bare m) t k s)
