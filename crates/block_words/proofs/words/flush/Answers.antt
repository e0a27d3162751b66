use Rattle.std.proofs.Common.{None, ap, ◌∙◌}
use Rattle.std.proofs.lemmas.Result.{err_from_is_err_and}
use Rattle.block_words.proofs.Finishing.{not_flushed, flushed}
use Rattle.block_words.proofs.words.flush.Goals as goal

pub returns-in_err-write_out : goal.returns-in_err-write_out
returns-in_err-write_out g c =
    let p = err_from_is_err_and c.from_residual.result c.from_residual.ensures.1 in
    rw (p.1, p.2) (not_flushed c.args.registers.now c.args.image.now (g.S.Store.means c.args.store.now) c.write_out.new.registers _ _ c.in_err-write_out.ensures.did)

pub returns : goal.returns
returns g c =
    flushed c.args.registers.now c.args.image.now (g.S.Store.means c.args.store.now) c.write_out.new.registers c.assign.new.registers _ c.default.result c.in_ok-write_out.ensures.did
    (ap (λ h. record { held = h; updated = c.default.result.updated }) c.default.ensures.0 ∙ ap (λ u. record { held = None; updated = u }) c.default.ensures.1)
    (record { shared = c.assign.ensures.shared; seat = c.assign.ensures.seat })
