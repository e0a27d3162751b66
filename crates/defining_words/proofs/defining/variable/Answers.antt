use Rattle.std.proofs.lemmas.Result.{err_from_is_err_and}
use Rattle.std.proofs.Common.{◌∙◌, arith}
use Rattle.texts.specs.Names.{name_of}
use Rattle.steps.proofs.Words.{not_ready}
use Rattle.defining_words.proofs.Ends.{variable_full, variable_no_data, variable_not, variable_done, grown_below}
use Rattle.defining_words.proofs.defining.variable.Goals as goal

pub returns-in_err-name-clause-did : goal.returns-in_err-name-clause-did
returns-in_err-name-clause-did c d =
    let p = err_from_is_err_and c.from_residual.result c.from_residual.ensures.1 in
    rw (p.1, p.2) (not_ready 67 c.args.registers.now c.args.image.now d c.new_name.new.registers _ c.in_err-name.ensures)

pub returns-in_err-ask_entry_space-clause-did : goal.returns-in_err-ask_entry_space-clause-did
returns-in_err-ask_entry_space-clause-did c d =
    let p = err_from_is_err_and c.from_residual-in_err-ask_entry_space.result c.from_residual-in_err-ask_entry_space.ensures.1 in
    rw (p.1, p.2) (variable_full c.args.registers.now c.new_name.new.registers c.args.image.now (name_of c.in_ok-name.name) c.in_ok-name.ensures.0 c.in_ok-name.ensures.1 c.told-image _ c.in_err-ask_entry_space.ensures.0 c.in_err-ask_entry_space.ensures.1 d)

pub returns-in_err-ask_data_space-clause-did : goal.returns-in_err-ask_data_space-clause-did
returns-in_err-ask_data_space-clause-did c d =
    let p = err_from_is_err_and c.from_residual-in_err-ask_data_space.result c.from_residual-in_err-ask_data_space.ensures.1 in
    rw (p.1, p.2) (variable_no_data c.args.registers.now c.new_name.new.registers c.args.image.now (name_of c.in_ok-name.name) c.in_ok-name.ensures.0 c.in_ok-name.ensures.1 c.told-image c.in_ok-ask_entry_space.ensures _ c.in_err-ask_data_space.ensures.0 c.in_err-ask_data_space.ensures.1 d)

pub returns-in_err-define-clause-did : goal.returns-in_err-define-clause-did
returns-in_err-define-clause-did c d =
    let p = err_from_is_err_and c.from_residual-in_err-define.result c.from_residual-in_err-define.ensures.1 in
    rw (p.1, p.2) (variable_not c.args.registers.now c.new_name.new.registers c.args.image.now (name_of c.in_ok-name.name) c.in_ok-name.ensures.0 c.in_ok-name.ensures.1 c.told-image c.in_ok-ask_entry_space.ensures c.define.new.registers c.define.new.image _ c.in_err-define.ensures.did d)

pub returns-clause-did : goal.returns-clause-did
returns-clause-did c =
    variable_done c.args.registers.now c.new_name.new.registers c.args.image.now (name_of c.in_ok-name.name) c.in_ok-name.ensures.0 c.in_ok-name.ensures.1 c.told-image c.in_ok-ask_entry_space.ensures c.define.new.registers c.grow_by_cell.new.registers c.define.new.image c.grow_by_cell.new.image c.in_ok-ask_data_space.ensures c.in_ok-define.ensures.did c.in_ok-define.ensures.here c.define.array_long c.grow_by_cell.ensures.shared c.grow_by_cell.ensures.seat c.grow_by_cell.ensures.written

pub returns-clause-below : goal.returns-clause-below
returns-clause-below c =
    grown_below c.define.new.registers c.grow_by_cell.new.registers c.define.new.image c.grow_by_cell.new.image c.define.array_long (omega (arith, c.in_ok-define.ensures.here, c.in_ok-ask_data_space.ensures)) c.grow_by_cell.ensures.shared c.grow_by_cell.ensures.seat c.grow_by_cell.ensures.written ∙ c.in_ok-define.ensures.below
