use Rattle.std.proofs.Common.{[], ◌∷◌}
use Rattle.std.proofs.lemmas.Result.{err_from_is_err_and}
use Rattle.definition.specs.Kernel
use Rattle.defining_words.proofs.Named.{no_name, not_asked, named}
use Rattle.defining_words.proofs.names.colon_name.Goals as goal

pub returns-in_err-name-clause-named : goal.returns-in_err-name-clause-named
returns-in_err-name-clause-named c =
    let p = err_from_is_err_and c.from_residual.result c.from_residual.ensures.1 in
    rw (p.1, p.2) (no_name (Kernel.none_open ∷ Kernel.ip_zero ∷ []) c.args.registers.now c.take_name.new.registers c.args.image.now _ c.in_err-name.ensures.took)

pub returns-in_err-ask_at_rest-clause-named : goal.returns-in_err-ask_at_rest-clause-named
returns-in_err-ask_at_rest-clause-named c =
    let p = err_from_is_err_and c.from_residual-in_err-ask_at_rest.result c.from_residual-in_err-ask_at_rest.ensures.1 in
    rw (p.1, p.2) (not_asked (Kernel.none_open ∷ Kernel.ip_zero ∷ []) c.args.registers.now c.take_name.new.registers c.args.image.now c.in_ok-name.name c.in_ok-name.ensures.took _ c.in_err-ask_at_rest.ensures.answers)

pub returns-clause-named : goal.returns-clause-named
returns-clause-named c = named (Kernel.none_open ∷ Kernel.ip_zero ∷ []) c.args.registers.now c.take_name.new.registers c.args.image.now c.in_ok-name.name c.in_ok-name.ensures.took c.in_ok-ask_at_rest.ensures.answers
