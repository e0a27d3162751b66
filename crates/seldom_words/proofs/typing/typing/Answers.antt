use Rattle.std.proofs.Common.{[], refl}
use Rattle.std.proofs.lemmas.Result.{err_from_is_err_and}
use Rattle.steps.specs.Does.{seen}
use Rattle.steps.proofs.States.{bare, refused_so, typed_so}
use Rattle.typing_words.specs.Numbers.{typing_number}
use Rattle.codes.proofs.Lifting.{grows_nothing}
use Rattle.seldom_words.specs.Asked.{typing_asks}
use Rattle.seldom_words.proofs.Rows.{typing_rows}
use Rattle.seldom_words.proofs.typing.typing.Goals as goal

pub returns-in_err-ask_for_text-clause-did : goal.returns-in_err-ask_for_text-clause-did
returns-in_err-ask_for_text-clause-did c =
    let p = err_from_is_err_and c.from_residual.result c.from_residual.ensures.1 in
    let h = c.in_err-ask_for_text.ensures in
    rw (p.1, p.2) ([], grows_nothing c.args.output.now.bytes.now c.args.output.now.typed, λ again t k s. (refused_so (typing_number c.args.word) (typing_asks c.args.word) (typing_rows c.args.word) again (seen c.args.registers.now c.args.image.now c.args.cells.now t k s) _ (h c.args.image.now c.args.cells.now t k s), refl))

pub returns-clause-did : goal.returns-clause-did
returns-clause-did c =
    let d = c.typing_word.ensures.did in (
      d.0,
      d.1,
      λ again t k s.
          let m = seen c.args.registers.now c.args.image.now c.args.cells.now t k s in
          typed_so (typing_number c.args.word) (typing_asks c.args.word) (typing_rows c.args.word) again m _ c.typing_word.result _ d.0 (c.in_ok-ask_for_text.ensures c.args.image.now c.args.cells.now t k s) (d.2 again (bare m) t k s),
    )
