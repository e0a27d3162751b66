use Rattle.std.proofs.Common.{refl, sym, ◌∙◌}
use Rattle.std.proofs.lemmas.Result.{err_from_is_err_and}
use Rattle.dictionary.specs.Dict.{does_set}
use Rattle.compiling_words.proofs.Changed.{same_view, code_short, code_wrong, code_done}
use Rattle.compiling_words.proofs.changes.give_code.Goals as goal

pub returns-in_err-need-clause-did : goal.returns-in_err-need-clause-did
returns-in_err-need-clause-did c =
    let p = err_from_is_err_and c.from_residual.result c.from_residual.ensures.1 in
    let h = c.in_err-need.ensures in
    rw (p.1, p.2) (code_short c.args.registers.now c.args.image.now c.args.returns.now c.told-returns _ h.0 h.1)

pub returns-in_err-ask-clause-did : goal.returns-in_err-ask-clause-did
returns-in_err-ask-clause-did c =
    let p = err_from_is_err_and c.from_residual-in_err-ask.result c.from_residual-in_err-ask.ensures.1 in
    let h = c.in_err-ask.ensures in
    rw (p.1, p.2) (code_wrong c.args.registers.now c.args.image.now c.args.returns.now c.told-returns _ c.in_ok-need.ensures (sym c.is_made.ensures.value ∙ h.0) h.1)

pub returns-clause-did : goal.returns-clause-did
returns-clause-did c =
    let d = c.dictionary_of.ensures in
    code_done c.args.registers.now c.args.image.now c.args.returns.now c.told-returns c.release.new.registers c.go_to.new.registers c.set_does.new.image c.cell-address.result c.in_ok-need.ensures (sym c.is_made.ensures.value ∙ c.in_ok-ask.ensures)
    (same_view (does_set c.args.registers.now.seat.flow.ip) (λ D. refl) c.args.registers.now c.dictionary_of.result c.args.image.now c.told-image (record { ends = d.ends; names = d.names; order = d.order }) c.set_does.new.image c.set_does.ensures.made c.set_does.ensures.rest)
    c.cell-address.ensures (record { shared = c.release.ensures.shared; seat = c.release.ensures.seat; stack = c.release.ensures.stack }) (record { shared = c.go_to.ensures.shared; seat = c.go_to.ensures.seat })
