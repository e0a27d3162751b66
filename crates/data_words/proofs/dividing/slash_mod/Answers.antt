use Rattle.std.proofs.Common.{[], ◌∷◌}
use Rattle.std.proofs.lemmas.Result.{err_from_is_err_and}
use Rattle.data_words.proofs.Acting.{slash_mod_acts}
use Rattle.data_words.proofs.Finishing.{divided_not, slash_mod_done}
use Rattle.data_words.proofs.dividing.slash_mod.Goals as goal

pub returns-in_err-remainder : goal.returns-in_err-remainder
returns-in_err-remainder c =
    let p = err_from_is_err_and c.from_residual.result c.from_residual.ensures.1 in
    rw (p.1, p.2) (divided_not c.args.registers.now c.args.cells.now c.told-cells 15 (λ d. d.quotient ∷ d.remainder ∷ []) slash_mod_acts _ c.in_err-remainder.ensures)

pub returns : goal.returns
returns c =
    slash_mod_done c.args.registers.now c.replace.new.registers c.push.new.registers c.args.cells.now c.replace.new.cells c.push.new.cells c.told-cells
    _ c.in_ok-remainder.ensures
    (record { shared = c.replace.ensures.shared; seat = c.replace.ensures.seat; stack = c.replace.ensures.stack })
    (record { shared = c.push.ensures.shared; seat = c.push.ensures.seat; stack = c.push.ensures.stack })
