use Rattle.std.proofs.Common.{refl}
use Rattle.std.proofs.lemmas.Result.{err_from_is_err_and}
use Rattle.definition.specs.Kernel
use Rattle.data_words.proofs.Acting.{roll_acts}
use Rattle.data_words.proofs.Moves.{roll_deep}
use Rattle.data_words.proofs.Finishing.{reached_not, roll_found}
use Rattle.data_words.proofs.moving.roll.Goals as goal

pub returns-in_err-k : goal.returns-in_err-k
returns-in_err-k c =
    let p = err_from_is_err_and c.from_residual.result c.from_residual.ensures.1 in
    rw (p.1, p.2) (reached_not c.args.registers.now c.args.cells.now c.told-cells 9 Kernel.roll roll_acts refl roll_deep _ c.in_err-k.ensures)

pub returns : goal.returns
returns c =
    let h = c.in_ok-k.ensures in
    roll_found c.args.registers.now c.release.new.registers c.args.cells.now c.roll.new.cells c.told-cells
    _ c.from.result c.from.ensures h.0 h.1 h.2
    c.release.ensures.shared c.release.ensures.seat c.release.ensures.stack (c.roll.ensures 0)
