use Rattle.std.proofs.Common.{[], ◌∷◌}
use Rattle.std.proofs.lemmas.Result.{err_from_is_err_and}
use Rattle.data_words.proofs.Acting.{slash_acts}
use Rattle.data_words.proofs.Moves.{some_fits}
use Rattle.data_words.proofs.Finishing.{divided_not, divided_done}
use Rattle.data_words.proofs.dividing.slash.Goals as goal

pub returns-in_err-quotient : goal.returns-in_err-quotient
returns-in_err-quotient c =
    let p = err_from_is_err_and c.from_residual.result c.from_residual.ensures.1 in
    rw (p.1, p.2) (divided_not c.args.registers.now c.args.cells.now c.told-cells 13 (λ d. d.quotient ∷ []) slash_acts _ c.in_err-quotient.ensures)

pub returns : goal.returns
returns c =
    let g = c.in_ok-quotient.ensures in
    divided_done c.args.registers.now c.replace.new.registers c.args.cells.now c.replace.new.cells c.told-cells
    13 (λ d. d.quotient) slash_acts _ _ g (some_fits _ _ g.1).2
    (record { shared = c.replace.ensures.shared; seat = c.replace.ensures.seat; stack = c.replace.ensures.stack })
