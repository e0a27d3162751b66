use Rattle.std.proofs.Common.{[], ◌∷◌, arith}
use Rattle.std.proofs.lemmas.Result.{err_from_is_err_and}
use Rattle.definition.specs.Kernel
use Rattle.data_words.specs.Numbers.{binary_number}
use Rattle.data_words.specs.Tables.{of_two}
use Rattle.data_words.proofs.Acting.{binary_acts}
use Rattle.data_words.proofs.Ends.{cells_short}
use Rattle.data_words.proofs.Finishing.{binary_done}
use Rattle.data_words.proofs.two_cells.binary_word.Goals as goal

pub returns-in_err-need : goal.returns-in_err-need
returns-in_err-need c =
    let p = err_from_is_err_and c.from_residual.result c.from_residual.ensures.1 in
    let h = c.in_err-need.ensures in
    rw (p.1, p.2) (cells_short (binary_number c.args.word) (Kernel.two (λ x y. of_two c.args.word x y ∷ [])) (binary_acts c.args.word) c.args.registers.now c.args.cells.now _ c.told-cells (omega arith) h.0 h.1)

pub returns : goal.returns
returns c =
    binary_done c.args.registers.now c.replace.new.registers c.args.cells.now c.replace.new.cells c.told-cells
    c.args.word c.cell-a.result c.cell-b.result c.of_two.result c.in_ok-need.ensures c.cell-a.ensures c.cell-b.ensures c.of_two.ensures
    (record { shared = c.replace.ensures.shared; seat = c.replace.ensures.seat; stack = c.replace.ensures.stack })
