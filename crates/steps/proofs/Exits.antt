-- The questions on data cells and the exits of a word, as the definition puts them.
use Rattle.std.proofs.Common.{◌≡◌, ℕ, ◌+◌, ◌-◌, ◌<◌, ◌≤◌, true, false, leb, List, [], ◌∷◌, length, drop, Ok, Err, Result, sym, refl, ap, ◌∙◌, arith}
use Rattle.std.proofs.lemmas.Bool.Decides.{nat_tests}
use Rattle.fault.specs.declared.Fault.{Fault}
use Rattle.fault.specs.declared.Reason.{Reason}
use Rattle.fault.specs.Numbers.{fault_of}
use Rattle.store.specs.Meaning.{Meaning}
use Rattle.stacks.specs.Stack.{stack_of}
use Rattle.stacks.proofs.Laws.{length_stack, drop_stack}
use Rattle.definition.specs.declared.registers.Mark.{Mark}
use Rattle.definition.specs.declared.ranged.Registers.{Registers}
use Rattle.definition.specs.Machine.{Machine, told, with_cells, with_ip}
use Rattle.definition.specs.Asked.{Asked, refused, After, quietly}
use Rattle.definition.specs.View.{lent, view_of}
use Rattle.fault.specs.declared.Reason.TheVariants.{StackOverflow}
use Rattle.definition.specs.Stacks.{has_cells, has_room, popped, replaced}
use Rattle.steps.specs.Seats.{told_by, with_cell_depth, with_pointer}
use Rattle.steps.specs.Does.{seen, Does}

pub yes : (a b : ℕ) → a ≤ b → leb a b ≡ true
yes a b h = grind (arith, nat_tests)

pub no : (a b : ℕ) → b < a → leb a b ≡ false
no a b h = grind (arith, nat_tests)

-- a fault of which the machine knows the place
pub refused_at : (f : Machine → Asked After) (m : Machine) (e : Fault) (why : Reason) → f m ≡ refused why m → e ≡ fault_of why (told m) → Does f m (Err e) m
refused_at f m e why p q = (rw p (q, refl), refl)

module _ (r : Registers) (i c t : List ℕ) (k : List Mark) (s : Meaning) (l : length c ≡ 128) where
  pub depth_of : length (stack_of r.seat.depths.cells c) ≡ r.seat.depths.cells
  depth_of = length_stack r.seat.depths.cells c (omega (arith, r.cells))

  pub has_cells_lem : (n : ℕ) → n ≤ r.seat.depths.cells → has_cells n (seen r i c t k s) ≡ true
  has_cells_lem n h = ap (leb n) depth_of ∙ yes n r.seat.depths.cells h

  pub lacks_cells : (n : ℕ) → r.seat.depths.cells < n → has_cells n (seen r i c t k s) ≡ false
  lacks_cells n h = ap (leb n) depth_of ∙ no n r.seat.depths.cells h

  pub length-popped : (n : ℕ) → n ≤ r.seat.depths.cells → length (drop n (stack_of r.seat.depths.cells c)) ≡ r.seat.depths.cells - n
  length-popped n h = ap length (drop_stack r.seat.depths.cells c n h (omega (arith, r.cells))) ∙ length_stack (r.seat.depths.cells - n) c (omega (arith, r.cells))

  pub has_room_lem : (n p : ℕ) → p ≤ r.seat.depths.cells → n + (r.seat.depths.cells - p) ≤ 128 → has_room n (popped p (seen r i c t k s)) ≡ true
  has_room_lem n p b h = ap (λ d. leb (n + d) 128) (length-popped p b) ∙ yes (n + (r.seat.depths.cells - p)) 128 h

  pub lacks_room : (n p : ℕ) → p ≤ r.seat.depths.cells → 128 < n + (r.seat.depths.cells - p) → has_room n (popped p (seen r i c t k s)) ≡ false
  lacks_room n p b h = ap (λ d. leb (n + d) 128) (length-popped p b) ∙ no (n + (r.seat.depths.cells - p)) 128 h

-- the machine behind a change of the data cells alone
pub cells_view : (r r' : Registers) (i c c' t : List ℕ) (k : List Mark) (s : Meaning) (d : ℕ) (xs : List ℕ) → r'.shared ≡ r.shared → r'.seat ≡ with_cell_depth d r.seat → stack_of d c' ≡ xs → seen r' i c' t k s ≡ with_cells xs (seen r i c t k s)
cells_view r r' i c c' t k s d xs p q e =
    ap (λ h. view_of h r'.seat (lent i c' t k) s) p
    ∙ ap (λ h. view_of r.shared h (lent i c' t k) s) q
    ∙ ap (λ ys. with_cells ys (seen r i c t k s)) e

-- behind a change of IP alone
pub pointer_view : (r r' : Registers) (i c t : List ℕ) (k : List Mark) (s : Meaning) (a : ℕ) → r'.shared ≡ r.shared → r'.seat ≡ with_pointer a r.seat → seen r' i c t k s ≡ with_ip a (seen r i c t k s)
pointer_view r r' i c t k s a p q =
    ap (λ h. view_of h r'.seat (lent i c t k) s) p
    ∙ ap (λ h. view_of r.shared h (lent i c t k) s) q

-- what is equal at m is done alike
pub does_like : (f g : Machine → Asked After) (m m' : Machine) (o : Result (Unit {0}) Fault) → f m ≡ g m → Does g m o m' → Does f m o m'
does_like f g m m' (Ok u) p h = p ∙ h
does_like f g m m' (Err e) p h = (rw p h.0, h.1)

-- one cell more
pub leave_full : (r : Registers) (c : List ℕ) (x : ℕ) (e : Fault) → length c ≡ 128 → 128 < 1 + r.seat.depths.cells → e ≡ fault_of StackOverflow (told_by r.seat) → (i t : List ℕ) (k : List Mark) (s : Meaning) → Does (replaced 0 (x ∷ [])) (seen r i c t k s) (Err e) (seen r i c t k s)
leave_full r c x e l h p i t k s = refused_at (replaced 0 (x ∷ [])) (seen r i c t k s) e StackOverflow (rw (lacks_room r i c t k s l 1 0 (omega arith) (omega arith))) p

pub leave_done : (r r' : Registers) (c c' : List ℕ) (x : ℕ) → length c ≡ 128 → 1 + r.seat.depths.cells ≤ 128 → r'.shared ≡ r.shared → r'.seat ≡ with_cell_depth (r.seat.depths.cells + 1) r.seat → stack_of (r.seat.depths.cells + 1) c' ≡ x ∷ stack_of r.seat.depths.cells c → (i t : List ℕ) (k : List Mark) (s : Meaning) → Does (replaced 0 (x ∷ [])) (seen r i c t k s) (Ok tt) (seen r' i c' t k s)
leave_done r r' c c' x l h p q e i t k s =
    rw (has_room_lem r i c t k s l 1 0 (omega arith) (omega arith)) (ap quietly (sym (cells_view r r' i c c' t k s _ _ p q e)))
