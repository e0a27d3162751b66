use Rattle.std.proofs.Common.{[], ◌∷◌}
use Rattle.std.proofs.lemmas.Result.{err_from_is_err_and}
use Rattle.definition.specs.Kernel
use Rattle.control_words.specs.Numbers.{control_number}
use Rattle.steps.specs.Does.{seen}
use Rattle.steps.proofs.States.{bare, refused_so, done_so}
use Rattle.codes.proofs.Rows.{control_rows}
use Rattle.seldom_words.proofs.building.building.Goals as goal

pub returns-in_err-ask_open-clause-did : goal.returns-in_err-ask_open-clause-did
returns-in_err-ask_open-clause-did c =
    let p = err_from_is_err_and c.from_residual.result c.from_residual.ensures.1 in
    let h = c.in_err-ask_open.ensures in
    λ again x t s. rw (p.1, p.2) (refused_so (control_number c.args.word) (Kernel.has_open ∷ []) (control_rows c.args.word) again (seen c.args.registers.now c.args.image.now x t c.args.marks.now s) _ (h c.args.image.now x t c.args.marks.now s))

pub returns-clause-did : goal.returns-clause-did
returns-clause-did c = λ again x t s.
    let m = seen c.args.registers.now c.args.image.now x t c.args.marks.now s in
    done_so (control_number c.args.word) (Kernel.has_open ∷ []) (control_rows c.args.word) again m c.control_word.result _ (c.in_ok-ask_open.ensures c.args.image.now x t c.args.marks.now s) (c.control_word.ensures.did again (bare m) x t s)
