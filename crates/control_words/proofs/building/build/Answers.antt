use Rattle.std.proofs.Common.{sym, ap, ◌∙◌, arith}
use Rattle.std.proofs.lemmas.Bool.{leb-true, leb-false}
use Rattle.std.proofs.lemmas.Result.{err_from_is_err_and}
use Rattle.definition.specs.declared.registers.Depths.{Depths}
use Rattle.control_words.proofs.Built.{no_marks, enough, no_cell, no_space, no_bytes, wider, done, within}
use Rattle.control_words.proofs.building.build.Goals as goal

pub returns-in_err-ask-clause-did : goal.returns-in_err-ask-clause-did
returns-in_err-ask-clause-did c =
    let p = err_from_is_err_and c.from_residual.result c.from_residual.ensures.1 in
    let h = c.in_err-ask.ensures in
    rw (p.1, p.2) (no_marks c.args.structure c.args.registers.now c.args.image.now c.args.marks.now c.told-image c.told-marks _ (sym c.are_marks-held.ensures ∙ h.0) h.1)

pub returns-in_err-ask-2-clause-did : goal.returns-in_err-ask-2-clause-did
returns-in_err-ask-2-clause-did c =
    let p = err_from_is_err_and c.from_residual-in_err-ask-2.result c.from_residual-in_err-ask-2.ensures.1 in
    let h = c.in_err-ask-2.ensures in
    rw (p.1, p.2) (no_cell c.args.structure c.args.registers.now c.args.image.now c.args.marks.now c.told-image c.told-marks (sym c.are_marks-held.ensures ∙ c.in_ok-ask.ensures) _ (sym c.is_cell.ensures.value ∙ h.0) h.1)

pub returns-in_err-ask-3-clause-did : goal.returns-in_err-ask-3-clause-did
returns-in_err-ask-3-clause-did c =
    let p = err_from_is_err_and c.from_residual-in_err-ask-3.result c.from_residual-in_err-ask-3.ensures.1 in
    let h = c.in_err-ask-3.ensures in
    rw (p.1, p.2) (no_space c.args.structure c.args.registers.now c.args.image.now c.args.marks.now c.told-image c.told-marks (sym c.are_marks-held.ensures ∙ c.in_ok-ask.ensures) (sym c.is_cell.ensures.value ∙ c.in_ok-ask-2.ensures)
    _ (omega (arith, leb-false _ _ h.0, c.count-taken.ensures, c.count-left.ensures, c.depth.ensures.value)) h.1)

pub returns-in_err-append_jump-clause-did : goal.returns-in_err-append_jump-clause-did
returns-in_err-append_jump-clause-did c =
    let p = err_from_is_err_and c.from_residual-in_err-append_jump.result c.from_residual-in_err-append_jump.ensures.1 in
    rw (p.1, p.2) (no_bytes c.args.structure c.args.registers.now c.args.image.now c.args.marks.now c.told-image c.told-marks (sym c.are_marks-held.ensures ∙ c.in_ok-ask.ensures) (sym c.is_cell.ensures.value ∙ c.in_ok-ask-2.ensures)
    (omega (arith, leb-true _ _ c.in_ok-ask-3.ensures, c.count-taken.ensures, c.count-left.ensures, c.depth.ensures.value)) c.append_jump.new.registers c.append_jump.new.image _ c.in_err-append_jump.ensures.did)

pub learn-requires : goal.learn-requires
learn-requires c =
    within c.args.structure.learns _ _
    (wider c.args.structure c.args.registers.now c.args.image.now c.args.marks.now c.told-image c.told-marks (sym c.are_marks-held.ensures ∙ c.in_ok-ask.ensures) (sym c.is_cell.ensures.value ∙ c.in_ok-ask-2.ensures)
    (omega (arith, leb-true _ _ c.in_ok-ask-3.ensures, c.count-taken.ensures, c.count-left.ensures, c.depth.ensures.value)) c.append_jump.new.registers c.append_jump.new.image c.in_ok-append_jump.ensures.did c.append_jump.array_long)
    (c.is_cell.ensures.inside c.in_ok-ask-2.ensures)

pub replace_marks-requires-clause-taken : goal.replace_marks-requires-clause-taken
replace_marks-requires-clause-taken c =
    let n = enough c.args.structure c.args.registers.now c.args.image.now c.args.marks.now c.told-image c.told-marks (sym c.are_marks-held.ensures ∙ c.in_ok-ask.ensures) in
    let d = ap (λ (y : Depths). y.marks) c.in_ok-append_jump.ensures.depths in
    omega (arith, n, d, c.count-taken.ensures)

pub returns-clause-did : goal.returns-clause-did
returns-clause-did c =
    done c.args.structure c.args.registers.now c.args.image.now c.args.marks.now c.told-image c.told-marks (sym c.are_marks-held.ensures ∙ c.in_ok-ask.ensures) (sym c.is_cell.ensures.value ∙ c.in_ok-ask-2.ensures)
    (omega (arith, leb-true _ _ c.in_ok-ask-3.ensures, c.count-taken.ensures, c.count-left.ensures, c.depth.ensures.value)) c.append_jump.new.registers c.append_jump.new.image c.in_ok-append_jump.ensures.did c.append_jump.array_long
    c.replace_marks.new.registers c.learn.new.image c.replace_marks.new.marks c.learn.ensures.did (rw (← c.count-taken.ensures) c.replace_marks.ensures)
