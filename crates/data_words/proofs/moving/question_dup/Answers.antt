use Rattle.std.proofs.Common.{arith}
use Rattle.std.proofs.lemmas.Result.{err_from_is_err_and}
use Rattle.data_words.proofs.Acting.{question_dup_word, question_dup_acts}
use Rattle.data_words.proofs.Ends.{cells_short}
use Rattle.data_words.proofs.Finishing.{question_dup_done, question_dup_of_zero}
use Rattle.data_words.proofs.moving.question_dup.Goals as goal

pub returns-in_err-need : goal.returns-in_err-need
returns-in_err-need c =
    let p = err_from_is_err_and c.from_residual.result c.from_residual.ensures.1 in
    let h = c.in_err-need.ensures in
    rw (p.1, p.2) (cells_short 6 question_dup_word question_dup_acts c.args.registers.now c.args.cells.now _ c.told-cells (omega arith) h.0 h.1)

pub returns : goal.returns
returns c =
    question_dup_done c.args.registers.now c.leave.new.registers c.args.cells.now c.leave.new.cells c.told-cells
    c.cell-x.result c.leave.result c.in_ok-need.ensures c.cell-x.ensures (λ e. omega (arith, e)) c.leave.ensures

pub returns-then-x-eq0 : goal.returns-then-x-eq0
returns-then-x-eq0 c = question_dup_of_zero c.args.registers.now c.args.cells.now c.told-cells c.cell-x.result c.in_ok-need.ensures c.cell-x.ensures (omega arith)
