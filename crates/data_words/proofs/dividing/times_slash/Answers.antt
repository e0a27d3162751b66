use Rattle.std.proofs.Common.{sym, ◌∙◌, arith}
use Rattle.std.proofs.lemmas.Result.{err_from_is_err_and}
use Rattle.definition.specs.Kernel
use Rattle.data_words.proofs.Acting.{times_slash_acts}
use Rattle.data_words.proofs.Ends.{cells_short}
use Rattle.data_words.proofs.Finishing.{scaled_not, scaled_done}
use Rattle.data_words.proofs.dividing.times_slash.Goals as goal

pub returns-in_err-need : goal.returns-in_err-need
returns-in_err-need c =
    let p = err_from_is_err_and c.from_residual.result c.from_residual.ensures.1 in
    let h = c.in_err-need.ensures in
    rw (p.1, p.2) (cells_short 16 Kernel.scale times_slash_acts c.args.registers.now c.args.cells.now _ c.told-cells (omega arith) h.0 h.1)

pub returns-in_err-quotient : goal.returns-in_err-quotient
returns-in_err-quotient c =
    let p = err_from_is_err_and c.from_residual-in_err-quotient.result c.from_residual-in_err-quotient.ensures.1 in
    let h = c.in_err-quotient.ensures in
    rw (p.1, p.2) (scaled_not c.args.registers.now c.args.cells.now c.told-cells c.cell-first.result c.cell-second.result c.cell-divisor.result _ c.in_ok-need.ensures c.cell-first.ensures c.cell-second.ensures c.cell-divisor.ensures (sym c.divide_product.ensures.defined ∙ h.0) h.1)

pub returns : goal.returns
returns c =
    scaled_done c.args.registers.now c.replace.new.registers c.replace.new.registers c.args.cells.now c.replace.new.cells c.replace.new.cells c.told-cells
    c.cell-first.result c.cell-second.result c.cell-divisor.result _
    c.in_ok-need.ensures c.cell-first.ensures c.cell-second.ensures c.cell-divisor.ensures (sym c.divide_product.ensures.defined ∙ c.in_ok-quotient.ensures)
    (record { shared = c.replace.ensures.shared; seat = c.replace.ensures.seat; stack = c.replace.ensures.stack })
