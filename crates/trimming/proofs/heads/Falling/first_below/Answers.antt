use Rattle.std.proofs.Common.{refl, sym, arith}
use Rattle.trimming.proofs.CellLaws.{in_parts}
use Rattle.trimming.proofs.FallLaws.{down_start, down_more, down_end, down_broken}
use Rattle.trimming.proofs.heads.Falling.first_below.Goals as goal

pub links-init : goal.links-init
links-init c = rw c.end-before.ensures.end (omega arith, down_start _ _ c.args.self.now.w c.args.head refl)

pub returns-then-not-in_order : goal.returns-then-not-in_order
returns-then-not-in_order c = sym (down_broken _ _ _ _ _ c.links.invariant.1 c.links-test.true (sym c.if-not-in_order.ensures))

pub cell-e-requires : goal.cell-e-requires
cell-e-requires c =
    let p = in_parts _ _ c.links.e (sym c.if-not-in_order.ensures) in
    (omega arith, omega arith)

pub links-smaller : goal.links-smaller
links-smaller c =
    let p = in_parts _ _ c.links.e (sym c.if-not-in_order.ensures) in
    omega arith

pub links-preserved : goal.links-preserved
links-preserved c =
    let p = in_parts _ _ c.links.e (sym c.if-not-in_order.ensures) in
    (omega arith, rw c.cell-e.ensures (down_more _ _ _ _ _ c.links.invariant.1 c.links-test.true (sym c.if-not-in_order.ensures)))

pub returns : goal.returns
returns c = sym (down_end _ _ _ _ _ c.links.invariant.1 c.links-test.false)
