use Rattle.std.proofs.lemmas.Result.{err_from_is_err_and}
use Rattle.compiling_words.proofs.Appended.{literal_short, literal_full, literal_done}
use Rattle.compiling_words.proofs.compiled.compile_literal.Goals as goal

pub returns-in_err-need-clause-did : goal.returns-in_err-need-clause-did
returns-in_err-need-clause-did c =
    let p = err_from_is_err_and c.from_residual.result c.from_residual.ensures.1 in
    let h = c.in_err-need.ensures in
    rw (p.1, p.2) (literal_short c.args.registers.now c.args.image.now c.args.cells.now c.told-cells _ h.0 h.1)

pub returns-in_err-append-clause-did : goal.returns-in_err-append-clause-did
returns-in_err-append-clause-did c =
    let p = err_from_is_err_and c.from_residual-in_err-append.result c.from_residual-in_err-append.ensures.1 in
    rw (p.1, p.2) (literal_full c.args.registers.now c.args.image.now c.args.cells.now c.told-cells c.in_ok-need.ensures c.cell-x.result c.cell-x.ensures c.literal.result c.literal.ensures c.append.new.registers c.append.new.image _ c.in_err-append.ensures.did)

pub returns-clause-did : goal.returns-clause-did
returns-clause-did c =
    literal_done c.args.registers.now c.args.image.now c.args.cells.now c.told-cells c.in_ok-need.ensures c.cell-x.result c.cell-x.ensures c.literal.result c.literal.ensures c.append.new.registers c.release.new.registers c.append.new.image
    c.in_ok-append.ensures.did c.in_ok-append.ensures.depths c.release.ensures.shared c.release.ensures.seat c.release.ensures.stack
