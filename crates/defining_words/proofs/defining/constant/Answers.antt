use Rattle.std.proofs.lemmas.Result.{err_from_is_err_and}
use Rattle.texts.specs.Names.{name_of}
use Rattle.steps.proofs.Words.{not_ready}
use Rattle.defining_words.proofs.Ends.{constant_short, constant_full, constant_done}
use Rattle.defining_words.proofs.defining.constant.Goals as goal

pub returns-in_err-name-clause-did : goal.returns-in_err-name-clause-did
returns-in_err-name-clause-did c =
    let p = err_from_is_err_and c.from_residual.result c.from_residual.ensures.1 in
    rw (p.1, p.2) (not_ready 68 c.args.registers.now c.args.image.now c.args.cells.now c.new_name.new.registers _ c.in_err-name.ensures)

pub returns-in_err-need-clause-did : goal.returns-in_err-need-clause-did
returns-in_err-need-clause-did c =
    let p = err_from_is_err_and c.from_residual-in_err-need.result c.from_residual-in_err-need.ensures.1 in
    rw (p.1, p.2) (constant_short c.args.registers.now c.new_name.new.registers c.args.image.now (name_of c.in_ok-name.name) c.in_ok-name.ensures.0 c.in_ok-name.ensures.1 c.args.cells.now c.told-cells _ c.in_err-need.ensures.0 c.in_err-need.ensures.1)

pub returns-in_err-define-clause-did : goal.returns-in_err-define-clause-did
returns-in_err-define-clause-did c =
    let p = err_from_is_err_and c.from_residual-in_err-define.result c.from_residual-in_err-define.ensures.1 in
    rw (p.1, p.2) (constant_full c.args.registers.now c.new_name.new.registers c.args.image.now (name_of c.in_ok-name.name) c.in_ok-name.ensures.0 c.in_ok-name.ensures.1 c.args.cells.now c.told-cells c.cell-value.result c.cell-value.ensures c.in_ok-need.ensures c.define.new.registers c.define.new.image _ c.in_err-define.ensures.did)

pub returns-clause-did : goal.returns-clause-did
returns-clause-did c =
    constant_done c.args.registers.now c.new_name.new.registers c.args.image.now (name_of c.in_ok-name.name) c.in_ok-name.ensures.0 c.in_ok-name.ensures.1 c.args.cells.now c.told-cells c.cell-value.result c.cell-value.ensures c.in_ok-need.ensures c.define.new.registers c.define.new.image c.release.new.registers c.in_ok-define.ensures.did c.release.ensures.shared c.release.ensures.seat c.release.ensures.stack
