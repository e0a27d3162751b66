use Rattle.std.proofs.lemmas.Result.{err_from_is_err_and}
use Rattle.block_words.proofs.Opening.{short, bad, done}
use Rattle.block_words.proofs.loading.load_word.Goals as goal

pub returns-in_err-need : goal.returns-in_err-need
returns-in_err-need c =
    let p = err_from_is_err_and c.from_residual.result c.from_residual.ensures.1 in
    let h = c.in_err-need.ensures in
    rw (p.1, p.2) (short c.args.registers.now c.args.cells.now c.told-cells _ h.0 h.1)

pub returns-in_err-ask_load : goal.returns-in_err-ask_load
returns-in_err-ask_load c =
    let p = err_from_is_err_and c.from_residual-in_err-ask_load.result c.from_residual-in_err-ask_load.ensures.1 in
    let h = c.in_err-ask_load.ensures in
    rw (p.1, p.2) (bad c.args.registers.now c.args.cells.now c.told-cells c.cell-blk.result _ c.in_ok-need.ensures c.cell-blk.ensures h.0 h.1)

pub returns : goal.returns
returns c =
    done c.args.registers.now c.args.cells.now c.told-cells c.open_block.new.registers c.release.new.registers c.cell-blk.result
    c.in_ok-need.ensures c.cell-blk.ensures c.in_ok-ask_load.ensures.0
    c.open_block.ensures.shared c.open_block.ensures.seat c.open_block.ensures.loads c.release.ensures.shared c.release.ensures.seat c.release.ensures.stack
