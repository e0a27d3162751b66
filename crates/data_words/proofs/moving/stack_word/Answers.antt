use Rattle.data_words.specs.Moving.{copied, rolled_up}
use Rattle.data_words.proofs.Acting.{dup_word, dup_acts, swap_word, swap_acts, over_word, over_acts, rot_word, rot_acts}
use Rattle.data_words.proofs.Moves.{dup_copies, over_copies, swap_rolls, rot_rolls}
use Rattle.data_words.proofs.Finishing.{on_cells}
use Rattle.data_words.proofs.moving.stack_word.Goals as goal

pub returns-in-Dup : goal.returns-in-Dup
returns-in-Dup c = rw c.in-Dup.is (on_cells c.args.registers.now c.args.cells.now c.told-cells 1 dup_word dup_acts (copied 0) dup_copies c.copy_cell.new.registers c.copy_cell.new.cells c.copy_cell.result c.copy_cell.ensures)

pub returns-in-Drop : goal.returns-in-Drop
returns-in-Drop c = rw c.in-Drop.is c.drop_cell.ensures

pub returns-in-Swap : goal.returns-in-Swap
returns-in-Swap c = rw c.in-Swap.is (on_cells c.args.registers.now c.args.cells.now c.told-cells 3 swap_word swap_acts (rolled_up 1) swap_rolls c.args.registers.now c.roll_cell.new.cells c.roll_cell.result c.roll_cell.ensures)

pub returns-in-Over : goal.returns-in-Over
returns-in-Over c = rw c.in-Over.is (on_cells c.args.registers.now c.args.cells.now c.told-cells 4 over_word over_acts (copied 1) over_copies c.copy_cell-in-Over.new.registers c.copy_cell-in-Over.new.cells c.copy_cell-in-Over.result c.copy_cell-in-Over.ensures)

pub returns-in-Rot : goal.returns-in-Rot
returns-in-Rot c = rw c.in-Rot.is (on_cells c.args.registers.now c.args.cells.now c.told-cells 5 rot_word rot_acts (rolled_up 2) rot_rolls c.args.registers.now c.roll_cell-in-Rot.new.cells c.roll_cell-in-Rot.result c.roll_cell-in-Rot.ensures)

pub returns-in-QuestionDup : goal.returns-in-QuestionDup
returns-in-QuestionDup c = rw c.in-QuestionDup.is c.question_dup.ensures

pub returns-in-Pick : goal.returns-in-Pick
returns-in-Pick c = rw c.in-Pick.is c.pick.ensures

pub returns-in-Roll : goal.returns-in-Roll
returns-in-Roll c = rw c.in-Roll.is c.roll.ensures
