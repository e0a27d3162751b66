use Rattle.std.proofs.lemmas.Result.{err_from_is_err_and}
use Rattle.steps.proofs.Words.{no_text}
use Rattle.naming_words.proofs.Ends.{no_paren, commented}
use Rattle.naming_words.proofs.ticking.comment.Goals as goal

pub returns-in_err-take_comment : goal.returns-in_err-take_comment
returns-in_err-take_comment c d =
    let p = err_from_is_err_and c.from_residual.result c.from_residual.ensures.1 in
    rw (p.1, p.2) (no_text 62 c.args.registers.now c.args.image.now d c.take_comment.new.registers _ (no_paren c.args.registers.now c.take_comment.new.registers c.args.image.now _ c.in_err-take_comment.ensures))

pub returns : goal.returns
returns c d = commented c.args.registers.now c.take_comment.new.registers c.args.image.now _ c.in_ok-take_comment.ensures d
