use Rattle.std.proofs.lemmas.Result.{err_from_is_err_and}
use Rattle.std.proofs.Common.{◌+◌}
use Rattle.steps.proofs.Exits.{pointer_view}
use Rattle.stepping.proofs.TokenEnds.{token_far, token_taken}
use Rattle.stepping.proofs.token.take_token.Goals as goal

pub returns-in_err-ask_inside : goal.returns-in_err-ask_inside
returns-in_err-ask_inside c =
    let p = err_from_is_err_and c.from_residual.result c.from_residual.ensures.1 in
    let h = c.in_err-ask_inside.ensures in
    rw (p.1, p.2) (token_far c.args.registers.now c.args.image.now c.told-image _ h.0 h.1)

pub returns : goal.returns
returns c = token_taken c.args.registers.now c.args.image.now c.told-image c.set_pointer.new.registers c.fetch.result c.in_ok-ask_inside.ensures.0 (cc) (λ x t k s. pointer_view c.args.registers.now c.set_pointer.new.registers c.args.image.now x t k s (c.args.registers.now.seat.flow.ip + 2) c.set_pointer.ensures.shared c.set_pointer.ensures.seat)
