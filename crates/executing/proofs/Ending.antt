-- The ends of executing a token.
use Rattle.std.proofs.Common.{◌≡◌, ℕ, List, Ok, Err, sym, refl, ap, ◌∙◌, subst}
use Rattle.fault.specs.declared.Fault.{Fault}
use Rattle.stacks.specs.Stack.{stack_of}
use Rattle.definition.specs.declared.registers.Seat.{Seat}
use Rattle.definition.specs.declared.registers.Shared.{Shared}
use Rattle.definition.specs.declared.ranged.Registers.{Registers}
use Rattle.definition.specs.Machine.{Machine, with_cells}
use Rattle.definition.specs.Asked.{Asked, After}
use Rattle.definition.specs.View.{lent, view_of}
use Rattle.steps.specs.declared.progress.Progress.{Progress}
use Rattle.steps.specs.declared.progress.Progress.TheVariants.{Went, Full, Finished}
use Rattle.steps.specs.Seats.{with_cell_depth}
use Rattle.steps.specs.Does.{IsRefused}
use Rattle.codes.specs.Performs.{Memory, held, Acts, FullKeeps}
use Rattle.executing.specs.Tokens.{Released}

-- what comes to the same is done by the same
module _ (f g : Machine → Asked After) (r r1 : Registers) (l : Memory) (p : f (held r l) ≡ g (held r1 l)) (r' : Registers) (l' : Memory) where
  pub acts_refused : (e : Fault) → Acts g r1 l (Err e) r' l' → Acts f r l (Err e) r' l'
  acts_refused e a = record { new = a.new; output = a.output; did = (subst (λ y. IsRefused y e (held r' l')) (sym p) a.did.0, a.did.1) }

  pub acts_on : (o : Progress) → (o ≡ Full → ⊥) → Acts g r1 l (Ok o) r' l' → Acts f r l (Ok o) r' l'
  acts_on Went n a = record { new = a.new; output = a.output; did = (a.did.0, p ∙ a.did.1, a.did.2, a.did.3, a.did.4) }
  acts_on Full n a = absurd (n refl)
  acts_on Finished n a = absurd a.did

  -- with nothing changed
  pub acts_full : (r2 : Registers) → held r2 l' ≡ held r l → Acts g r1 l (Ok Full) r' l' → Acts f r l (Ok Full) r2 l'
  acts_full r2 q a = record { new = a.new; output = a.output; did = (a.did.0, p ∙ a.did.1, a.did.2, q, a.did.4) }

-- the cells that were released come back
pub restored : (r r1 r' r2 : Registers) (l l' : Memory) → Released r r1 → held r' l' ≡ held r1 l → l'.cells ≡ l.cells → r2.shared ≡ r'.shared → r2.seat ≡ with_cell_depth r.seat.depths.cells r'.seat → held r2 l' ≡ held r l
restored r r1 r' r2 l l' a p q u v =
    let d = r.seat.depths.cells in
    let e : with_cell_depth d r1.seat ≡ r.seat = ap (with_cell_depth d) a.seat in
    ap (λ (y : Shared). view_of y r2.seat (lent l'.image l'.cells l'.returns l'.marks) l'.store) u
    ∙ ap (λ (y : Seat). view_of r'.shared y (lent l'.image l'.cells l'.returns l'.marks) l'.store) v
    ∙ ap (λ y. with_cells (stack_of d y) (held r' l')) q
    ∙ ap (with_cells (stack_of d l.cells)) p
    ∙ ap (λ (y : Shared). view_of y (with_cell_depth d r1.seat) (lent l.image l.cells l.returns l.marks) l.store) a.shared
    ∙ ap (λ (y : Seat). view_of r.shared y (lent l.image l.cells l.returns l.marks) l.store) e

-- an answer that is Full
pub full_case : (g : Machine → Asked After) (r : Registers) (l : Memory) (r' : Registers) (l' : Memory) (o : Progress) → o ≡ Full → Acts g r l (Ok o) r' l' → Acts g r l (Ok Full) r' l'
full_case g r l r' l' o e a = subst (λ y. Acts g r l (Ok y) r' l') e a

pub full_kept : (o : Progress) (c c' : List ℕ) → o ≡ Full → FullKeeps (Ok o) c c' → c' ≡ c
full_kept o c c' e h = subst (λ y. FullKeeps (Ok y) c c') e h
