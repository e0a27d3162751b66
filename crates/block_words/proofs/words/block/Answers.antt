use Rattle.std.proofs.Common.{refl}
use Rattle.std.proofs.lemmas.Result.{err_from_is_err_and}
use Rattle.block_words.proofs.Finishing.{short, not-brought, answered}
use Rattle.block_words.proofs.words.block.Goals as goal

pub returns-in_err-need : goal.returns-in_err-need
returns-in_err-need g c =
    let p = err_from_is_err_and c.from_residual.result c.from_residual.ensures.1 in
    let h = c.in_err-need.ensures in
    record { did = rw (p.1, p.2) (short c.args.registers.now c.args.image.now c.args.cells.now (g.S.Store.means c.args.store.now) c.told-cells _ h.0 h.1); below = refl }

pub returns-in_err-bring : goal.returns-in_err-bring
returns-in_err-bring g c =
    let p = err_from_is_err_and c.from_residual-in_err-bring.result c.from_residual-in_err-bring.ensures.1 in
    let h = c.in_err-bring.ensures in
    record {
      did = rw (p.1, p.2) (not-brought c.args.registers.now c.args.image.now c.args.cells.now (g.S.Store.means c.args.store.now) c.told-cells c.cell-n.result c.in_ok-need.ensures c.cell-n.ensures c.bring.new.registers c.bring.new.image _ _ h.did);
      below = h.below;
    }

pub returns : goal.returns
returns g c =
    let h = c.in_ok-bring.ensures in
    record {
      did = answered c.args.registers.now c.args.image.now c.args.cells.now (g.S.Store.means c.args.store.now) c.told-cells c.cell-n.result c.in_ok-need.ensures c.cell-n.ensures c.bring.new.registers c.replace.new.registers c.bring.new.image c.replace.new.cells _ c.buffer_address.result h.did c.buffer_address.ensures c.replace.ensures.shared c.replace.ensures.seat c.replace.ensures.stack;
      below = h.below;
    }
