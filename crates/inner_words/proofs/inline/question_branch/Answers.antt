use Rattle.std.proofs.Common.{arith}
use Rattle.std.proofs.lemmas.Result.{err_from_is_err_and}
use Rattle.inner_words.proofs.Inlining.{if_short, if_bad, if_goes, if_stays}
use Rattle.inner_words.proofs.inline.question_branch.Goals as goal

pub returns-in_err-need : goal.returns-in_err-need
returns-in_err-need c =
    let p = err_from_is_err_and c.from_residual.result c.from_residual.ensures.1 in
    let h = c.in_err-need.ensures in
    rw (p.1, p.2) (if_short c.args.registers.now c.args.image.now c.args.cells.now c.args.returns.now c.told-image c.told-cells c.told-returns _ h.0 h.1)

pub returns-in_err-address : goal.returns-in_err-address
returns-in_err-address c =
    let p = err_from_is_err_and c.from_residual-in_err-address.result c.from_residual-in_err-address.ensures.1 in
    let h = c.in_err-address.ensures in
    rw (p.1, p.2) (if_bad c.args.registers.now c.args.image.now c.args.cells.now c.args.returns.now c.told-image c.told-cells c.told-returns _ c.in_ok-need.ensures h.0 h.1)

pub returns-then-x-eq0 : goal.returns-then-x-eq0
returns-then-x-eq0 c =
    if_goes c.args.registers.now c.args.image.now c.args.cells.now c.args.returns.now c.told-image c.told-cells c.told-returns c.release.new.registers c.go_to.new.registers _ c.cell-x.result c.in_ok-need.ensures c.in_ok-address.ensures.0 c.in_ok-address.ensures.1 c.cell-x.ensures (omega arith)
    (record { shared = c.release.ensures.shared; seat = c.release.ensures.seat; stack = c.release.ensures.stack }) (record { shared = c.go_to.ensures.shared; seat = c.go_to.ensures.seat })

pub returns : goal.returns
returns c =
    if_stays c.args.registers.now c.args.image.now c.args.cells.now c.args.returns.now c.told-image c.told-cells c.told-returns c.release.new.registers c.skip.new.registers c.cell-x.result c.in_ok-need.ensures c.in_ok-address.ensures.0 c.cell-x.ensures (λ e. omega (arith, e))
    (record { shared = c.release.ensures.shared; seat = c.release.ensures.seat; stack = c.release.ensures.stack }) (record { shared = c.skip.ensures.shared; seat = c.skip.ensures.seat })
