use Rattle.std.proofs.Common.{not, sym, refl, ap, ◌∙◌}
use Rattle.std.proofs.lemmas.Result.{err_from_is_err_and}
use Rattle.block_words.proofs.Finishing.{nothing_held, locked, updated}
use Rattle.block_words.proofs.words.update.Goals as goal

pub returns-then-is_none : goal.returns-then-is_none
returns-then-is_none g c = nothing_held c.args.registers.now (g.S.Store.means c.args.store.now) (c.is_none.ensures ∙ ap not c.if-is_none.true)

pub returns-in_err-ask : goal.returns-in_err-ask
returns-in_err-ask g c =
    let p = err_from_is_err_and c.from_residual.result c.from_residual.ensures.1 in
    let h = c.in_err-ask.ensures in
    rw (p.1, p.2) (locked c.args.registers.now (g.S.Store.means c.args.store.now) _ (c.is_none.ensures ∙ ap not c.if-is_none.false) (sym c.writable.ensures ∙ h.0) h.1)

pub returns : goal.returns
returns g c =
    updated c.args.registers.now (g.S.Store.means c.args.store.now) c.assign.new.registers _ (c.is_none.ensures ∙ ap not c.if-is_none.false) (sym c.writable.ensures ∙ c.in_ok-ask.ensures) refl
    (record { shared = c.assign.ensures.shared; seat = c.assign.ensures.seat })
