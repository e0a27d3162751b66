use Rattle.std.proofs.Common.{sym, refl, ◌∙◌}
use Rattle.std.proofs.lemmas.Result.{err_from_is_err_and}
use Rattle.block_words.proofs.Views.{bring_held, bring_refused, bring_done}
use Rattle.block_words.proofs.bringing.bring.Goals as goal

pub returns-then-holds : goal.returns-then-holds
returns-then-holds g c =
    record { did = bring_held c.args.registers.now c.args.image.now (g.S.Store.means c.args.store.now) c.args.n (sym c.holds.ensures ∙ c.if-holds.true); below = refl; seat = refl }

pub returns-in_err-write_out : goal.returns-in_err-write_out
returns-in_err-write_out g c =
    let p = err_from_is_err_and c.from_residual.result c.from_residual.ensures.1 in
    record {
      did = rw (p.1, p.2) (bring_refused c.args.registers.now c.args.image.now (g.S.Store.means c.args.store.now) c.args.n (sym c.holds.ensures ∙ c.if-holds.false) c.write_out.new.registers _ _ c.in_err-write_out.ensures.did);
      below = refl;
      seat = c.write_out.ensures.seat;
    }

pub returns : goal.returns
returns g c =
    record {
      did = bring_done c.args.registers.now c.args.image.now (g.S.Store.means c.args.store.now) c.args.n (sym c.holds.ensures ∙ c.if-holds.false) c.write_out.new.registers _ c.read_in.result c.read_in.new.registers c.read_in.new.image c.in_ok-write_out.ensures.did c.read_in.ensures.did;
      below = c.read_in.ensures.below;
      seat = c.read_in.ensures.seat ∙ c.write_out.ensures.seat;
    }
