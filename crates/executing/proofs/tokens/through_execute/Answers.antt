use Rattle.std.proofs.Common.{sym, refl, ap, ◌∙◌, subst}
use Rattle.std.proofs.lemmas.Result.{err_from_is_err_and}
use Rattle.definition.specs.Words.{execute}
use Rattle.steps.specs.Does.{IsRefused, seen}
use Rattle.executing.proofs.Through.{by_code, found_itself, none_released, none_to_take, not_there, pop_less, pop_released, refused_released, took}
use Rattle.executing.proofs.tokens.through_execute.Goals as goal

pub returns-in_err-found-clause-through : goal.returns-in_err-found-clause-through
returns-in_err-found-clause-through c =
    let p = err_from_is_err_and c.from_residual.result c.from_residual.ensures.1 in
    rw (p.1, p.2) (not_there c.args.registers.now c.args.image.now c.args.cells.now c.told-image c.told-cells c.args.token c.in_err-found.field-0.0 c.in_err-found.ensures)

pub execute-init : goal.execute-init
execute-init c =
    (none_released c.args.registers.now, found_itself c.args.registers.now c.args.image.now c.args.token c.in_ok-found.found c.in_ok-found.ensures, λ e k s. ap (λ t. execute t (seen c.args.registers.now c.args.image.now c.args.cells.now e k s)) (sym c.in_ok-found.ensures.0))

pub returns-in_err-next : goal.returns-in_err-next
returns-in_err-next c =
    let p = err_from_is_err_and c.from_residual-in_err-next.result c.from_residual-in_err-next.ensures.1 in
    let h = c.in_err-next.ensures in
    let f = c.execute.invariant.1 in
    record {
      through = rw (p.1, p.2) (λ e k s. subst (λ y. IsRefused y c.in_err-next.field-0.0 (seen c.pop.new.registers c.args.image.now c.args.cells.now e k s)) (sym (c.execute.invariant.2 e k s)) (none_to_take c.execute.registers c.args.image.now c.args.cells.now c.told-image c.told-cells c.execute.found.token f.2 e k s c.pop.new.registers c.in_err-next.field-0.0 (sym f.1 ∙ c.is_execute.ensures.yes c.execute-test.true) h));
      released = refused_released c.args.registers.now c.execute.registers c.pop.new.registers c.args.cells.now c.in_err-next.field-0.0 c.execute.invariant.0 h;
    }

pub returns-in_err-found-2 : goal.returns-in_err-found-2
returns-in_err-found-2 c =
    let p = err_from_is_err_and c.from_residual-in_err-found-2.result c.from_residual-in_err-found-2.ensures.1 in
    let h = c.in_ok-next.ensures in
    let f = c.execute.invariant.1 in
    record {
      through = rw (p.1, p.2) (λ e k s. subst (λ y. IsRefused y c.in_err-found-2.field-0.0 (seen c.pop.new.registers c.args.image.now c.args.cells.now e k s)) (sym (c.execute.invariant.2 e k s ∙ took c.execute.registers c.args.image.now c.args.cells.now c.told-image c.told-cells c.execute.found.token f.2 e k s c.pop.new.registers c.in_ok-next.next (sym f.1 ∙ c.is_execute.ensures.yes c.execute-test.true) h)) (not_there c.pop.new.registers c.args.image.now c.args.cells.now c.told-image c.told-cells c.in_ok-next.next c.in_err-found-2.field-0.0 c.in_err-found-2.ensures e k s));
      released = pop_released c.args.registers.now c.execute.registers c.pop.new.registers c.args.cells.now c.in_ok-next.next c.execute.invariant.0 h;
    }

pub execute-smaller : goal.execute-smaller
execute-smaller c = pop_less c.execute.registers c.pop.new.registers c.args.cells.now c.in_ok-next.next c.in_ok-next.ensures

pub execute-preserved : goal.execute-preserved
execute-preserved c =
    let h = c.in_ok-next.ensures in
    let f = c.execute.invariant.1 in (
      pop_released c.args.registers.now c.execute.registers c.pop.new.registers c.args.cells.now c.in_ok-next.next c.execute.invariant.0 h,
      found_itself c.pop.new.registers c.args.image.now c.in_ok-next.next c.in_ok-found-2.found c.in_ok-found-2.ensures,
      λ e k s. c.execute.invariant.2 e k s ∙ took c.execute.registers c.args.image.now c.args.cells.now c.told-image c.told-cells c.execute.found.token f.2 e k s c.pop.new.registers c.in_ok-next.next (sym f.1 ∙ c.is_execute.ensures.yes c.execute-test.true) h ∙ ap (λ t. execute t (seen c.pop.new.registers c.args.image.now c.args.cells.now e k s)) (sym c.in_ok-found-2.ensures.0),
    )

pub returns : goal.returns
returns c =
    let f = c.execute.invariant.1 in
    record {
      through = (f.3, c.is_execute.ensures.no c.execute-test.false, λ e k s. c.execute.invariant.2 e k s ∙ by_code c.execute.registers c.args.image.now c.args.cells.now c.told-image c.told-cells c.execute.found.token f.2 e k s c.execute.found.code c.execute.found.token f.1 refl);
      released = c.execute.invariant.0;
    }
