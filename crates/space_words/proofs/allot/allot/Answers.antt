use Rattle.std.proofs.Common.{refl}
use Rattle.std.proofs.lemmas.Result.{err_from_is_err_and}
use Rattle.space_words.proofs.Resizing.{short, full, done}
use Rattle.space_words.proofs.allot.allot.Goals as goal

pub returns-in_err-need : goal.returns-in_err-need
returns-in_err-need c =
    let p = err_from_is_err_and c.from_residual.result c.from_residual.ensures.1 in
    let h = c.in_err-need.ensures in
    record { did = rw (p.1, p.2) (short c.args.registers.now c.args.image.now c.args.cells.now c.told-image c.told-cells _ h.0 h.1); below = refl }

pub returns-in_err-end : goal.returns-in_err-end
returns-in_err-end c =
    let p = err_from_is_err_and c.from_residual-in_err-end.result c.from_residual-in_err-end.ensures.1 in
    let h = c.in_err-end.ensures in
    record { did = rw (p.1, p.2) (full c.args.registers.now c.args.image.now c.args.cells.now c.told-image c.told-cells c.cell-n.result _ c.in_ok-need.ensures c.cell-n.ensures h.0 h.1); below = refl }

pub returns : goal.returns
returns c =
    let h = c.in_ok-end.ensures in
    let d =
    done c.args.registers.now c.args.image.now c.args.cells.now c.told-image c.told-cells c.resize.new.registers c.release.new.registers c.resize.new.image c.cell-n.result c.in_ok-end.end
    c.in_ok-need.ensures c.cell-n.ensures h.0 h.1 h.3 c.resize.ensures.cleared
    c.resize.ensures.shared c.resize.ensures.seat c.release.ensures.shared c.release.ensures.seat c.release.ensures.stack in
    record { did = d.0; below = d.1 }
