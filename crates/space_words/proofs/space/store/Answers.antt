use Rattle.std.proofs.Common.{refl, arith}
use Rattle.std.proofs.lemmas.Result.{err_from_is_err_and}
use Rattle.definition.specs.Kernel
use Rattle.space_words.proofs.Ends.{space_short, store_too_far, store_done, store_below}
use Rattle.space_words.proofs.space.store.Goals as goal

pub returns-in_err-need : goal.returns-in_err-need
returns-in_err-need c =
    let p = err_from_is_err_and c.from_residual.result c.from_residual.ensures.1 in
    let h = c.in_err-need.ensures in
    record { did = λ v z. rw (p.1, p.2) (space_short v (Kernel.stores c.args.n) z c.args.registers.now c.args.image.now c.args.cells.now _ c.told-cells (omega arith) h.0 h.1); below = refl }

pub returns-in_err-reach : goal.returns-in_err-reach
returns-in_err-reach c =
    let p = err_from_is_err_and c.from_residual-in_err-reach.result c.from_residual-in_err-reach.ensures.1 in
    let h = c.in_err-reach.ensures in
    record { did = λ v z. rw (p.1, p.2) (store_too_far c.args.registers.now c.args.image.now c.args.cells.now c.told-image c.told-cells v c.args.n c.cell-address.result z _ c.in_ok-need.ensures c.cell-address.ensures h.0 h.1); below = refl }

pub returns : goal.returns
returns c = record {
  did = λ v z. store_done c.args.registers.now c.args.image.now c.args.cells.now c.told-image c.told-cells v c.args.n z c.release.new.registers c.put.new.image c.cell-address.result c.cell-x.result
      c.requires c.in_ok-need.ensures c.cell-address.ensures c.cell-x.ensures c.in_ok-reach.ensures.0 c.put.ensures
      (record { shared = c.release.ensures.shared; seat = c.release.ensures.seat; stack = c.release.ensures.stack });
  below = store_below c.args.registers.now c.args.image.now c.args.cells.now c.told-image c.told-cells c.put.new.image c.args.n c.cell-address.result c.cell-x.result c.requires c.in_ok-reach.ensures.0 c.put.ensures;
}
