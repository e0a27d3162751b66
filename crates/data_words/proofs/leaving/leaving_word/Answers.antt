use Rattle.data_words.proofs.Finishing.{leaving_done}
use Rattle.data_words.proofs.leaving.leaving_word.Goals as goal

pub returns : goal.returns
returns c =
    leaving_done c.args.registers.now c.leave.new.registers c.args.cells.now c.leave.new.cells c.told-cells
    c.args.word c.left_by-x.result c.leave.result c.left_by-x.ensures c.leave.ensures
