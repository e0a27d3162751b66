use Rattle.std.proofs.Common.{refl}
use Rattle.std.proofs.lemmas.Result.{err_from_is_err_and}
use Rattle.space_words.specs.Numbers.{appending_number}
use Rattle.space_words.proofs.Appending.{appending_acts, short, full, done, done_below}
use Rattle.space_words.proofs.growing.appending_word.Goals as goal

pub returns-in_err-need : goal.returns-in_err-need
returns-in_err-need c =
    let p = err_from_is_err_and c.from_residual.result c.from_residual.ensures.1 in
    let h = c.in_err-need.ensures in
    record { did = rw (p.1, p.2) (short c.args.registers.now c.args.image.now c.args.cells.now c.told-image c.told-cells (appending_number c.args.word) c.size-n.result (appending_acts c.args.word c.size-n.result c.size-n.ensures.value) _ h.0 h.1); below = refl }

pub returns-in_err-ask_data_space : goal.returns-in_err-ask_data_space
returns-in_err-ask_data_space c =
    let p = err_from_is_err_and c.from_residual-in_err-ask_data_space.result c.from_residual-in_err-ask_data_space.ensures.1 in
    let h = c.in_err-ask_data_space.ensures in
    record { did = rw (p.1, p.2) (full c.args.registers.now c.args.image.now c.args.cells.now c.told-image c.told-cells (appending_number c.args.word) c.size-n.result (appending_acts c.args.word c.size-n.result c.size-n.ensures.value) _ c.in_ok-need.ensures h.0 h.1); below = refl }

pub returns : goal.returns
returns c = record {
  did = done c.args.registers.now c.args.image.now c.args.cells.now c.told-image c.told-cells (appending_number c.args.word) c.size-n.result (appending_acts c.args.word c.size-n.result c.size-n.ensures.value) c.move_here.new.registers c.release.new.registers c.put.new.image c.cell-x.result
      c.size-n.ensures.within c.in_ok-need.ensures c.in_ok-ask_data_space.ensures c.cell-x.ensures c.put.ensures
      c.move_here.ensures.shared c.move_here.ensures.seat c.release.ensures.shared c.release.ensures.seat c.release.ensures.stack;
  below = done_below c.args.registers.now c.args.image.now c.args.cells.now c.told-image c.told-cells c.size-n.result c.put.new.image c.cell-x.result c.size-n.ensures.within c.in_ok-ask_data_space.ensures c.cell-x.ensures c.put.ensures;
}
