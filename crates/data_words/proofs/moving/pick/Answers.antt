use Rattle.std.proofs.Common.{refl}
use Rattle.std.proofs.lemmas.Result.{err_from_is_err_and}
use Rattle.definition.specs.Kernel
use Rattle.data_words.proofs.Acting.{pick_acts}
use Rattle.data_words.proofs.Moves.{pick_deep}
use Rattle.data_words.proofs.Finishing.{reached_not, pick_found}
use Rattle.data_words.proofs.moving.pick.Goals as goal

pub returns-in_err-k : goal.returns-in_err-k
returns-in_err-k c =
    let p = err_from_is_err_and c.from_residual.result c.from_residual.ensures.1 in
    rw (p.1, p.2) (reached_not c.args.registers.now c.args.cells.now c.told-cells 8 Kernel.pick pick_acts refl pick_deep _ c.in_err-k.ensures)

pub returns : goal.returns
returns c =
    let h = c.in_ok-k.ensures in
    pick_found c.args.registers.now c.replace.new.registers c.args.cells.now c.replace.new.cells c.told-cells
    _ c.cell-x.result h.0 h.1 h.2 c.cell-x.ensures
    (record { shared = c.replace.ensures.shared; seat = c.replace.ensures.seat; stack = c.replace.ensures.stack })
