use Rattle.std.proofs.lemmas.Result.{err_from_is_err_and}
use Rattle.inner_words.proofs.Inlining.{branch_bad, branch_done}
use Rattle.inner_words.proofs.inline.jump.Goals as goal

pub returns-in_err-address : goal.returns-in_err-address
returns-in_err-address c =
    let p = err_from_is_err_and c.from_residual.result c.from_residual.ensures.1 in
    let h = c.in_err-address.ensures in
    rw (p.1, p.2) (branch_bad c.args.registers.now c.args.image.now c.args.cells.now c.args.returns.now c.told-image c.told-cells c.told-returns _ h.0 h.1)

pub returns : goal.returns
returns c = branch_done c.args.registers.now c.args.image.now c.args.cells.now c.args.returns.now c.told-image c.told-cells c.told-returns c.go_to.new.registers _ c.in_ok-address.ensures.0 c.in_ok-address.ensures.1 (record { shared = c.go_to.ensures.shared; seat = c.go_to.ensures.seat })
