use Rattle.std.proofs.Common.{arith}
use Rattle.std.proofs.lemmas.Result.{err_from_is_err_and}
use Rattle.definition.specs.Kernel
use Rattle.space_words.proofs.Ends.{space_short, fetch_too_far, fetch_done}
use Rattle.space_words.proofs.space.fetch.Goals as goal

pub returns-in_err-need : goal.returns-in_err-need
returns-in_err-need c v z =
    let p = err_from_is_err_and c.from_residual.result c.from_residual.ensures.1 in
    let h = c.in_err-need.ensures in
    rw (p.1, p.2) (space_short v (Kernel.fetches c.args.n) z c.args.registers.now c.args.image.now c.args.cells.now _ c.told-cells (omega arith) h.0 h.1)

pub returns-in_err-reach : goal.returns-in_err-reach
returns-in_err-reach c v z =
    let p = err_from_is_err_and c.from_residual-in_err-reach.result c.from_residual-in_err-reach.ensures.1 in
    let h = c.in_err-reach.ensures in
    rw (p.1, p.2) (fetch_too_far c.args.registers.now c.args.image.now c.args.cells.now c.told-image c.told-cells v c.args.n c.cell-address.result z _ c.in_ok-need.ensures c.cell-address.ensures h.0 h.1)

pub returns : goal.returns
returns c v z =
    fetch_done c.args.registers.now c.args.image.now c.args.cells.now c.told-image c.told-cells v c.args.n z c.replace.new.registers c.replace.new.cells c.cell-address.result c.fetched.result
    c.requires.0 c.requires.1 c.in_ok-need.ensures c.cell-address.ensures c.in_ok-reach.ensures.0 c.fetched.ensures
    c.replace.ensures.shared c.replace.ensures.seat c.replace.ensures.stack
