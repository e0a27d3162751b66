use Rattle.std.proofs.lemmas.Result.{err_from_is_err_and}
use Rattle.stepping.proofs.StepEnds.{starts_text, starts_token, token_refused}
use Rattle.stepping.proofs.step.start.Goals as goal

pub returns-then-registers-eq0-clause-did : goal.returns-then-registers-eq0-clause-did
returns-then-registers-eq0-clause-did g c = starts_text c.args.registers.now c.args.image.now c.args.cells.now (g.S.Store.means c.args.store.now) c.if-registers-eq0.true c.read_text.result c.read_text.new.registers c.read_text.new.image c.read_text.new.cells (g.S.Store.means c.read_text.new.store) c.read_text.ensures.did

pub returns-in_err-take_token-clause-did : goal.returns-in_err-take_token-clause-did
returns-in_err-take_token-clause-did g c =
    let p = err_from_is_err_and c.from_residual.result c.from_residual.ensures.1 in
    rw (p.1, p.2) (token_refused c.args.registers.now c.args.image.now c.args.cells.now (g.S.Store.means c.args.store.now) c.if-registers-eq0.false _ c.take_token.new.registers c.in_err-take_token.ensures)

pub returns-clause-did : goal.returns-clause-did
returns-clause-did g c = starts_token c.args.registers.now c.args.image.now c.args.cells.now (g.S.Store.means c.args.store.now) c.if-registers-eq0.false c.in_ok-take_token.field-0 c.take_token.new.registers c.in_ok-take_token.ensures
