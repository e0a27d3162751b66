use Rattle.std.proofs.Common.{sym, ◌∙◌}
use Rattle.std.proofs.lemmas.Result.{err_from_is_err_and}
use Rattle.inner_words.proofs.Pushing.{body_short, body_bad, body_done}
use Rattle.inner_words.proofs.tokens.body_word.Goals as goal

pub returns-in_err-need : goal.returns-in_err-need
returns-in_err-need c =
    let p = err_from_is_err_and c.from_residual.result c.from_residual.ensures.1 in
    let h = c.in_err-need.ensures in
    rw (p.1, p.2) (body_short c.args.registers.now c.args.image.now c.args.cells.now c.told-image c.told-cells _ h.0 h.1)

pub returns-in_err-ask : goal.returns-in_err-ask
returns-in_err-ask c =
    let p = err_from_is_err_and c.from_residual-in_err-ask.result c.from_residual-in_err-ask.ensures.1 in
    let h = c.in_err-ask.ensures in
    rw (p.1, p.2) (body_bad c.args.registers.now c.args.image.now c.args.cells.now c.told-image c.told-cells c.cell-token.result _ c.in_ok-need.ensures c.cell-token.ensures (cc) h.1)

pub returns : goal.returns
returns c =
    body_done c.args.registers.now c.args.image.now c.args.cells.now c.told-image c.told-cells c.replace.new.registers c.replace.new.cells c.cell-token.result c.fetch-x.result
    c.in_ok-need.ensures c.cell-token.ensures (sym c.is_created.ensures.value ∙ c.in_ok-ask.ensures) (cc)
    c.replace.ensures.shared c.replace.ensures.seat c.replace.ensures.stack
