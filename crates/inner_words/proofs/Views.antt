-- Each move of the registers, as a move of the machine.
use Rattle.std.proofs.Common.{◌≡◌, ℕ, ◌+◌, ◌-◌, ◌<◌, ◌≤◌, true, false, cond, eqb, leb, ◌⊎◌, List, [], ◌∷◌, length, drop, ap, ◌∙◌, inl, inr, arith}
use Rattle.std.proofs.lemmas.Bool.Decides.{eqb_tells}
use Rattle.store.specs.Meaning.{Meaning}
use Rattle.stacks.specs.Stack.{stack_of}
use Rattle.stacks.proofs.Laws.{length_stack}
use Rattle.definition.specs.declared.registers.Mark.{Mark}
use Rattle.definition.specs.declared.ranged.Registers.{Registers}
use Rattle.definition.specs.Machine.{with_returns, with_ip}
use Rattle.definition.specs.View.{lent, view_of}
use Rattle.definition.specs.Stacks.{popped, pushed, popped_returns, pushed_returns, go_to, has_returns, has_return_room, has_room}
use Rattle.steps.specs.Seats.{with_cell_depth, with_return_depth, with_pointer}
use Rattle.steps.specs.Does.{seen}
use Rattle.steps.proofs.Exits.{yes, no, depth_of, cells_view, pointer_view}

abbrev pub deep : Registers → ℕ
deep r = r.seat.depths.cells

abbrev pub deep_returns : Registers → ℕ
deep_returns r = r.seat.depths.returns

-- what the moves ensure of registers and a stack
pub record Cells (r r' : Registers) (c' : List ℕ) (d : ℕ) (xs : List ℕ) : Type 0 where
  pub shared : r'.shared ≡ r.shared
  pub seat : r'.seat ≡ with_cell_depth d r.seat
  pub stack : stack_of d c' ≡ xs

pub record Returns (r r' : Registers) (t' : List ℕ) (d : ℕ) (xs : List ℕ) : Type 0 where
  pub shared : r'.shared ≡ r.shared
  pub seat : r'.seat ≡ with_return_depth d r.seat
  pub stack : stack_of d t' ≡ xs

abbrev pub Popped : Registers → Registers → List ℕ → ℕ → Type 0
Popped r r' c n = Cells r r' c (deep r - n) (drop n (stack_of (deep r) c))

abbrev pub Pushed : Registers → Registers → List ℕ → List ℕ → ℕ → Type 0
Pushed r r' c c' x = Cells r r' c' (deep r + 1) (x ∷ stack_of (deep r) c)

abbrev pub PoppedReturns : Registers → Registers → List ℕ → ℕ → Type 0
PoppedReturns r r' t n = Returns r r' t (deep_returns r - n) (drop n (stack_of (deep_returns r) t))

abbrev pub PushedReturn : Registers → Registers → List ℕ → List ℕ → ℕ → Type 0
PushedReturn r r' t t' x = Returns r r' t' (deep_returns r + 1) (x ∷ stack_of (deep_returns r) t)

pub record Went (r r' : Registers) (a : ℕ) : Type 0 where
  pub shared : r'.shared ≡ r.shared
  pub seat : r'.seat ≡ with_return_depth (cond (eqb a 0) 0 (deep_returns r)) (with_pointer a r.seat)

pub record Skipped (r r' : Registers) : Type 0 where
  pub shared : r'.shared ≡ r.shared
  pub seat : r'.seat ≡ with_pointer (r.seat.flow.ip + 2) r.seat

module _ (r r' : Registers) (i c c' t t' : List ℕ) (k : List Mark) (s : Meaning) where
  pub pop_view : (n : ℕ) → Popped r r' c n → seen r' i c t k s ≡ popped n (seen r i c t k s)
  pop_view n e = cells_view r r' i c c t k s _ _ e.shared e.seat e.stack

  pub push_view : (x : ℕ) → Pushed r r' c c' x → seen r' i c' t k s ≡ pushed x (seen r i c t k s)
  push_view x e = cells_view r r' i c c' t k s _ _ e.shared e.seat e.stack

  returns_view : (d : ℕ) (xs : List ℕ) → Returns r r' t' d xs → seen r' i c t' k s ≡ with_returns xs (seen r i c t k s)
  returns_view d xs e =
      ap (λ h. view_of h r'.seat (lent i c t' k) s) e.shared
      ∙ ap (λ h. view_of r.shared h (lent i c t' k) s) e.seat
      ∙ ap (λ ys. with_returns ys (seen r i c t k s)) e.stack

  pub push_return_view : (x : ℕ) → PushedReturn r r' t t' x → seen r' i c t' k s ≡ pushed_returns (x ∷ []) (seen r i c t k s)
  push_return_view x e = returns_view _ _ e

  pub skip_view : Skipped r r' → seen r' i c t k s ≡ with_ip (r.seat.flow.ip + 2) (seen r i c t k s)
  skip_view e = pointer_view r r' i c t k s _ e.shared e.seat

  pub go_view : (a : ℕ) → Went r r' a → seen r' i c t k s ≡ go_to a (seen r i c t k s)
  unfolding stack_of
  go_view a e =
      ap (λ h. view_of h r'.seat (lent i c t k) s) e.shared
      ∙ ap (λ h. view_of r.shared h (lent i c t k) s) e.seat
      ∙ at (eqb_tells a 0)
    where
      at : ((eqb a 0 ≡ true) × (a ≡ 0)) ⊎ ((eqb a 0 ≡ false) × (a ≡ 0 → ⊥)) → view_of r.shared (with_return_depth (cond (eqb a 0) 0 (deep_returns r)) (with_pointer a r.seat)) (lent i c t k) s ≡ go_to a (seen r i c t k s)
      at (inl q) = rw q.0 (ap (λ y. with_ip y (with_returns [] (seen r i c t k s))) q.1)
      at (inr q) = rw q.0

pub pop_return_view : (r r' : Registers) (i c t : List ℕ) (k : List Mark) (s : Meaning) (n : ℕ) → PoppedReturns r r' t n → seen r' i c t k s ≡ popped_returns n (seen r i c t k s)
pop_return_view r r' i c t k s n e = returns_view r r' i c c t t k s _ _ e

-- the questions on the return stack
module _ (r : Registers) (i c t : List ℕ) (k : List Mark) (s : Meaning) (l : length t ≡ 128) where
  returns_deep : length (stack_of (deep_returns r) t) ≡ deep_returns r
  returns_deep = length_stack (deep_returns r) t (omega (arith, r.returns))

  pub has_returns_lem : (n : ℕ) → n ≤ deep_returns r → has_returns n (seen r i c t k s) ≡ true
  has_returns_lem n h = ap (leb n) returns_deep ∙ yes n (deep_returns r) h

  pub lacks_returns : (n : ℕ) → deep_returns r < n → has_returns n (seen r i c t k s) ≡ false
  lacks_returns n h = ap (leb n) returns_deep ∙ no n (deep_returns r) h

  pub has_return_room_lem : (n : ℕ) → n + deep_returns r ≤ 128 → has_return_room n (seen r i c t k s) ≡ true
  has_return_room_lem n h = ap (λ d. leb (n + d) 128) returns_deep ∙ yes (n + deep_returns r) 128 h

  pub lacks_return_room : (n : ℕ) → 128 < n + deep_returns r → has_return_room n (seen r i c t k s) ≡ false
  lacks_return_room n h = ap (λ d. leb (n + d) 128) returns_deep ∙ no (n + deep_returns r) 128 h

module _ (r : Registers) (i c t : List ℕ) (k : List Mark) (s : Meaning) (l : length c ≡ 128) where
  pub has_one : 1 + deep r ≤ 128 → has_room 1 (seen r i c t k s) ≡ true
  has_one h = ap (λ d. leb (1 + d) 128) (depth_of r i c t k s l) ∙ yes (1 + deep r) 128 h

  pub lacks_one : 128 < 1 + deep r → has_room 1 (seen r i c t k s) ≡ false
  lacks_one h = ap (λ d. leb (1 + d) 128) (depth_of r i c t k s l) ∙ no (1 + deep r) 128 h
