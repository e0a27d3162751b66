use Rattle.std.proofs.lemmas.Result.{err_from_is_err_and}
use Rattle.steps.specs.Does.{seen}
use Rattle.steps.proofs.States.{bare, refused_so, done_so}
use Rattle.compiling_words.specs.Numbers.{asks_of, compiling_number}
use Rattle.compiling_words.proofs.Rows.{compiling_rows}
use Rattle.compiling_words.proofs.words.compiling_word.Goals as goal

pub returns-in_err-ask_state-clause-did : goal.returns-in_err-ask_state-clause-did
returns-in_err-ask_state-clause-did c =
    let p = err_from_is_err_and c.from_residual.result c.from_residual.ensures.1 in
    let h = c.in_err-ask_state.ensures in
    λ again k s l. rw (p.1, p.2) (refused_so (compiling_number c.args.word) (asks_of c.args.word) (compiling_rows c.args.word) again (seen c.args.registers.now c.args.image.now c.args.cells.now c.args.returns.now k s) _ (h c.args.image.now c.args.cells.now c.args.returns.now k s))

pub returns-clause-did : goal.returns-clause-did
returns-clause-did c = λ again k s l.
    let m = seen c.args.registers.now c.args.image.now c.args.cells.now c.args.returns.now k s in
    done_so (compiling_number c.args.word) (asks_of c.args.word) (compiling_rows c.args.word) again m c.act.result _ (c.in_ok-ask_state.ensures c.args.image.now c.args.cells.now c.args.returns.now k s) (c.act.ensures.did again (bare m) k s l)
