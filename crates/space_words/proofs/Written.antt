-- A write in reach, seen in the machine.
use Rattle.std.proofs.Common.{◌≡◌, ℕ, zero, suc, ◌+◌, ◌-◌, ◌≤◌, Bool, true, false, ◌&&◌, ◌||◌, eqb, leb, ◌⊎◌, List, [], ◌∷◌, length, get_or, take, sym, refl, ap, ◌∙◌, inl, inr, arith}
use Rattle.std.proofs.lemmas.Bool.Decides.{eqb_tells, nat_tests}
use Rattle.std.proofs.lemmas.List.{take-set-le}
use Rattle.store.specs.Meaning.{Meaning}
use Rattle.stacks.specs.Stack.{stack_of}
use Rattle.image.specs.Views.{low_of, high_of, line_of}
use Rattle.image.specs.Writes.{overwritten, moved_up}
use Rattle.image.proofs.Overwriting.{overwritten_none, take-before}
use Rattle.image.proofs.Laws.{length_high, low_kept, line_kept, high_within}
use Rattle.image.proofs.Moving.{low_moved, line_moved, high_moved}
use Rattle.definition.specs.declared.registers.Mark.{Mark}
use Rattle.definition.specs.declared.ranged.Registers.{Registers}
use Rattle.definition.specs.Machine.{Machine, here, with_high, with_cells}
use Rattle.definition.specs.View.{lent, view_of, loads_of}
use Rattle.definition.specs.Space.{in_reach}
use Rattle.steps.specs.Seats.{with_cell_depth}
use Rattle.steps.specs.Does.{seen}
use Rattle.space_words.specs.Numbers.{reachable}
use Rattle.space_words.proofs.Doing.{moved_on, moved_on_lem}

-- HERE, and what is in reach
pub here_is : (r : Registers) (i c t : List ℕ) (k : List Mark) (s : Meaning) → length i ≡ 65536 → here (seen r i c t k s) ≡ r.shared.ends.here
here_is r i c t k s l =
    let e : length (high_of r.shared.ends.here i) ≡ r.shared.ends.here - 32768 = length_high r.shared.ends.here i (omega (arith, r.limit)) in
    omega (arith, r.space)

pub reach_is : (r : Registers) (i c t : List ℕ) (k : List Mark) (s : Meaning) → length i ≡ 65536 → (a n : ℕ) (b : Bool) → reachable a n r.shared.ends.here ≡ b → in_reach a n (seen r i c t k s) ≡ b
reach_is r i c t k s l a n b p = ap (λ h. eqb n 0 || (leb 32768 a && leb (a + n) h)) (here_is r i c t k s l) ∙ p

pub reached : (a n h : ℕ) → reachable a n h ≡ true → (n ≡ 0) ⊎ ((32768 ≤ a) × (a + n ≤ h))
reached a n h p = at (eqb_tells n 0)
  where
    within : eqb n 0 ≡ false → (32768 ≤ a) × (a + n ≤ h)
    within q =
        let u : (leb 32768 a && leb (a + n) h) ≡ true = rw q at p in
        (grind (arith, nat_tests), grind (arith, nat_tests))

    at : ((eqb n 0 ≡ true) × (n ≡ 0)) ⊎ ((eqb n 0 ≡ false) × (n ≡ 0 → ⊥)) → (n ≡ 0) ⊎ ((32768 ≤ a) × (a + n ≤ h))
    at (inl q) = inl q.1
    at (inr q) = inr (within q.0)

-- what a write leaves of the views: the data space hs, and all else as it was
pub record Wrote (r : Registers) (i i' hs : List ℕ) : Type 0 where
  pub low : low_of r.shared.ends.dp i' ≡ low_of r.shared.ends.dp i
  pub line : line_of i' ≡ line_of i
  pub high : high_of r.shared.ends.here i' ≡ hs
  pub below : take 256 i' ≡ take 256 i

pub wrote_nothing : (r : Registers) (i i' : List ℕ) → i' ≡ i → Wrote r i i' (high_of r.shared.ends.here i)
wrote_nothing r i i' e = record { low = ap (low_of _) e; line = ap line_of e; high = ap (high_of _) e; below = ap (take 256) e }

pub overwrote : (r : Registers) (i i' : List ℕ) (a : ℕ) (new : List ℕ) → length i ≡ 65536 → reachable a (length new) r.shared.ends.here ≡ true → i' ≡ overwritten a new i → Wrote r i i' (overwritten (a - 32768) new (high_of r.shared.ends.here i))
overwrote r i i' a [] l p e =
    let h = wrote_nothing r i i' (e ∙ overwritten_none a i) in
    record { low = h.low; line = h.line; high = h.high ∙ sym (overwritten_none (a - 32768) (high_of r.shared.ends.here i)); below = h.below }
overwrote r i i' a (x ∷ new) l p e = at (reached a (length (x ∷ new)) r.shared.ends.here p)
  where
    at : (length (x ∷ new) ≡ 0) ⊎ ((32768 ≤ a) × (a + length (x ∷ new) ≤ r.shared.ends.here)) → Wrote r i i' (overwritten (a - 32768) (x ∷ new) (high_of r.shared.ends.here i))
    at (inl q) = absurd (omega (arith, q))
    at (inr q) =
        let f : a + length (x ∷ new) ≤ length i = omega (arith, r.limit, q.1) in
        record {
          low = ap (low_of r.shared.ends.dp) e ∙ low_kept a (x ∷ new) i f r.shared.ends.dp (omega (arith, r.top, q.0));
          line = ap line_of e ∙ line_kept a (x ∷ new) i f (omega (arith, q.0));
          high = ap (high_of r.shared.ends.here) e ∙ high_within a (x ∷ new) i f r.shared.ends.here q.0 q.1 (omega (arith, r.limit));
          below = ap (take 256) e ∙ take-before 256 a (x ∷ new) i (omega (arith, q.0)) (omega arith);
        }

take-moved : (n from to : ℕ) (xs : List ℕ) → 256 ≤ to → take 256 (moved_up n from to xs) ≡ take 256 xs
unfolding moved_up
take-moved zero from to xs h = refl
take-moved (suc n) from to xs h = take-set-le 256 (moved_up n from to xs) (to + n) (get_or (moved_up n from to xs) (from + n) 0) (omega arith) ∙ take-moved n from to xs h

-- bytes moved: the same data space that the definition has
pub moved_views : (r : Registers) (i i' : List ℕ) (n from to : ℕ) → length i ≡ 65536 → reachable from n r.shared.ends.here ≡ true → reachable to n r.shared.ends.here ≡ true → i' ≡ moved_up n from to i → Wrote r i i' (moved_on n from to (high_of r.shared.ends.here i))
unfolding moved_up
moved_views r i i' zero from to l p q e = wrote_nothing r i i' e
moved_views r i i' (suc n) from to l p q e = at (reached from (suc n) r.shared.ends.here p) (reached to (suc n) r.shared.ends.here q)
  where
    at : (suc n ≡ 0) ⊎ ((32768 ≤ from) × (from + suc n ≤ r.shared.ends.here)) → (suc n ≡ 0) ⊎ ((32768 ≤ to) × (to + suc n ≤ r.shared.ends.here)) → Wrote r i i' (moved_on (suc n) from to (high_of r.shared.ends.here i))
    at (inl z) _ = absurd (omega (arith, z))
    at (inr y) (inl z) = absurd (omega (arith, z))
    at (inr y) (inr z) =
        let f : to + suc n ≤ length i = omega (arith, r.limit, z.1) in
        let lh : length (high_of r.shared.ends.here i) ≡ r.shared.ends.here - 32768 = length_high r.shared.ends.here i (omega (arith, r.limit)) in
        record {
          low = ap (low_of r.shared.ends.dp) e ∙ low_moved (suc n) from to r.shared.ends.dp i f (omega (arith, r.top, z.0));
          line = ap line_of e ∙ line_moved (suc n) from to i f (omega (arith, z.0));
          high = ap (high_of r.shared.ends.here) e ∙ high_moved (suc n) from to r.shared.ends.here i y.0 y.1 z.0 z.1 (omega (arith, r.limit)) ∙ sym (moved_on_lem (suc n) from to (high_of r.shared.ends.here i) y.0 z.0 (omega (arith, z.0, z.1, lh)));
          below = ap (take 256) e ∙ take-moved (suc n) from to i (omega (arith, z.0));
        }

-- the machine behind a change of data cells and data space
abbrev pub built : Registers → List ℕ → List Mark → Meaning → List ℕ → List ℕ → List ℕ → List ℕ → Machine
built r t k s low high line cells = record {
  low = low;
  high = high;
  stacks = record { cells = cells; returns = stack_of r.seat.depths.returns t; marks = stack_of r.seat.depths.marks k };
  text = record { line = line; source = r.seat.source; loads = loads_of r.seat.loads };
  names = r.shared.names;
  order = r.seat.order;
  flow = r.seat.flow;
  buffer = r.shared.buffer;
  store = s;
}

pub space_view : (r r' : Registers) (i i' c c' t : List ℕ) (k : List Mark) (s : Meaning) (d : ℕ) (xs hs : List ℕ) → r'.shared ≡ r.shared → r'.seat ≡ with_cell_depth d r.seat → stack_of d c' ≡ xs → Wrote r i i' hs → seen r' i' c' t k s ≡ with_high hs (with_cells xs (seen r i c t k s))
space_view r r' i i' c c' t k s d xs hs p q e w =
    ap (λ h. view_of h r'.seat (lent i' c' t k) s) p
    ∙ ap (λ h. view_of r.shared h (lent i' c' t k) s) q
    ∙ ap (λ y. built r t k s y (high_of r.shared.ends.here i') (line_of i') (stack_of d c')) w.low
    ∙ ap (λ y. built r t k s (low_of r.shared.ends.dp i) y (line_of i') (stack_of d c')) w.high
    ∙ ap (λ y. built r t k s (low_of r.shared.ends.dp i) hs y (stack_of d c')) w.line
    ∙ ap (λ y. built r t k s (low_of r.shared.ends.dp i) hs (line_of i) y) e
