-- Laws of a walk down a thread.
use Rattle.std.proofs.Common.{◌≡◌, ℕ, zero, suc, ◌+◌, ◌<◌, ◌≤◌, Bool, true, false, cond, ◌&&◌, eqb, ltb, leb, ◌≢◌, ◌⊎◌, List, length, Some, None, Ok, Err, Option, Result, sym, refl, ◌∙◌, subst, inl, inr, arith}
use Rattle.std.proofs.lemmas.Bool.{eqb-true, eqb-false, eq-eqb, ne_eqb, ltb-true, leb-true, lt-ltb, le-leb, and_parts, and_from, cases_lt, false≢true}
use Rattle.fault.specs.declared.Fault.{Fault}
use Rattle.fault.specs.declared.Place.{Place}
use Rattle.image.specs.Cells.{cell_at}
use Rattle.entries.specs.Entries.{first_at, is_named}
use Rattle.entries.specs.Search.{Found, missing, broken, hit, in_order, walk}
use Rattle.entries.specs.Threads.{Walk, stop, next, Youngest, FindsYoungest, IsInOrder, answered, linked}

-- what being in order says
pub in_parts : (low : List ℕ) (dp before e : ℕ) → in_order low dp before e ≡ true → (258 ≤ e) × (e < before) × (first_at low e + 2 ≤ dp)
in_parts low dp before e h =
    let p = and_parts (leb 258 e && ltb e before) (leb (first_at low e + 2) dp) h in
    let q = and_parts (leb 258 e) (ltb e before) p.0 in
    (leb-true 258 e q.0, ltb-true e before q.1, leb-true (first_at low e + 2) dp p.1)

pub in_from : (low : List ℕ) (dp before e : ℕ) → 258 ≤ e → e < before → first_at low e + 2 ≤ dp → in_order low dp before e ≡ true
in_from low dp before e a b w = and_from _ _ (and_from _ _ (le-leb 258 e a) (lt-ltb e before b)) (le-leb (first_at low e + 2) dp w)

-- where the whole entry lies
pub first_above : (low : List ℕ) (e : ℕ) → e + 5 ≤ first_at low e
unfolding first_at
first_above low e = omega arith

pub in_order_is : (low : List ℕ) (before e : ℕ) → in_order low (length low) before e ≡ true → IsInOrder low before e
in_order_is low before e h =
    let p = in_parts low (length low) before e h in
    record { above = p.0; below = p.1; header = omega (arith, first_above low e, p.2); whole = p.2 }

-- STEPS of a walk
module _ (n : ℕ) (low : List ℕ) (dp : ℕ) (name : List ℕ) (before e : ℕ) where
  pub walk_end : e ≡ 0 → walk (suc n) low dp name before e ≡ missing
  unfolding walk
  walk_end h = rw (eq-eqb e 0 h, walk) refl

  pub walk_broken : (e ≡ 0 → ⊥) → in_order low dp before e ≡ false → walk (suc n) low dp name before e ≡ broken
  unfolding walk
  walk_broken h o = rw (ne_eqb e 0 h, walk) (rw o refl)

  pub walk_hit : (e ≡ 0 → ⊥) → in_order low dp before e ≡ true → is_named low e name ≡ true → walk (suc n) low dp name before e ≡ hit e
  unfolding walk
  walk_hit h o i = rw (ne_eqb e 0 h, walk) (rw o (rw i refl))

  pub walk_next : (e ≡ 0 → ⊥) → in_order low dp before e ≡ true → is_named low e name ≡ false → walk (suc n) low dp name before e ≡ walk n low dp name e (cell_at low e)
  unfolding walk
  walk_next h o i = rw (ne_eqb e 0 h, walk) (rw o (rw i refl))

-- where a walk has come: to e, below `before`, with steps enough
pub record At (low : List ℕ) (dp : ℕ) (name : List ℕ) (before e : ℕ) (f : Found) : Type 0 where
  pub fuel : ℕ
  pub enough : before ≤ fuel
  pub goes : f ≡ walk (suc fuel) low dp name before e

module _ (low : List ℕ) (dp : ℕ) (name : List ℕ) (before e : ℕ) (f : Found) where
  pub at_more : At low dp name before e f → (e ≡ 0 → ⊥) → in_order low dp before e ≡ true → is_named low e name ≡ false → At low dp name e (cell_at low e) f
  at_more a h o i = go a.fuel a.enough a.goes
    where
      go : (n : ℕ) → before ≤ n → f ≡ walk (suc n) low dp name before e → At low dp name e (cell_at low e) f
      go zero l g = let p = in_parts low dp before e o in (let z : ⊥ = omega arith in absurd z)
      go (suc n) l g = let p = in_parts low dp before e o in record { fuel = n; enough = omega arith; goes = g ∙ walk_next (suc n) low dp name before e h o i }

  -- the same, the entry and its link by other names
  pub at_linked : (x k : ℕ) → e ≡ x → k ≡ cell_at low x → At low dp name before e f → (e ≡ 0 → ⊥) → in_order low dp before e ≡ true → is_named low e name ≡ false → At low dp name x k f
  at_linked x k p q a h o i = subst (λ y. At low dp name x y f) (sym q) (subst (λ y. At low dp name y (cell_at low y) f) p (at_more a h o i))

  pub at_end_lem : At low dp name before e f → e ≡ 0 → f ≡ missing
  at_end_lem a h = a.goes ∙ walk_end a.fuel low dp name before e h

  pub at_broken : At low dp name before e f → (e ≡ 0 → ⊥) → in_order low dp before e ≡ false → f ≡ broken
  at_broken a h o = a.goes ∙ walk_broken a.fuel low dp name before e h o

  pub at_hit : At low dp name before e f → (e ≡ 0 → ⊥) → in_order low dp before e ≡ true → is_named low e name ≡ true → f ≡ hit e
  at_hit a h o i = a.goes ∙ walk_hit a.fuel low dp name before e h o i

-- THE RELATION
pub walk_le : (low : List ℕ) (h y : ℕ) → Walk low h y → y ≤ h
walk_le low h y stop = omega arith
walk_le low h y (next l w) = omega (arith, walk_le low (cell_at low h) y w)

-- what a walk from h answers, `before` being the entry above it
abbrev From : List ℕ → List ℕ → ℕ → ℕ → Found → Type 0
From low name before h (hit x) = (h < before) × Youngest low name h (hit x)
From low name before h missing = (h < before) × Youngest low name h missing
From low name before h broken = (before ≤ h) ⊎ Youngest low name h broken

on_walk : (low name : List ℕ) (e x : ℕ) → is_named low e name ≡ false → ((y : ℕ) → Walk low (cell_at low e) y → x < y → is_named low y name ≡ false) → (y : ℕ) → Walk low e y → x < y → is_named low y name ≡ false
on_walk low name e x i f y stop l = i
on_walk low name e x i f y (next d w) l = f y w l

step_from : (low name : List ℕ) (before e : ℕ) → 258 ≤ e → e < before → is_named low e name ≡ false → (f : Found) → From low name e (cell_at low e) f → From low name before e f
step_from low name before e a b i (hit x) f = (b, (next f.0 f.1.0, f.1.1, on_walk low name e x i f.1.2))
step_from low name before e a b i missing f = (b, (next f.0 f.1.0, on_walk low name e 0 i f.1.1))
step_from low name before e a b i broken f = inr (elim (cases_lt (cell_at low e) e) [
  | inr d ↦ (e, stop, (λ z. omega arith), (λ s. omega (arith, s.descends)))
  | inl d ↦ elim f [
    | inl l ↦ (e, stop, (λ z. omega arith), (λ s. omega (arith, s.descends)))
    | inr y ↦ (y.0, next d y.1, y.2, y.3)
  ]
])

walk_from : (n : ℕ) (low : List ℕ) (dp : ℕ) (name : List ℕ) (before e : ℕ) → length low ≡ dp → before < n → 0 < before → From low name before e (walk n low dp name before e)
walk_from zero low dp name before e len l z = let b : ⊥ = omega arith in absurd b
walk_from (suc n) low dp name before e len l z = go (eqb e 0) (in_order low dp before e) (is_named low e name) refl refl refl (λ a b. walk_from n low dp name e (cell_at low e) len (omega arith) (omega arith))
  where
    go : (p q s : Bool) → eqb e 0 ≡ p → in_order low dp before e ≡ q → is_named low e name ≡ s → ((258 ≤ e) → (e < before) → From low name e (cell_at low e) (walk n low dp name e (cell_at low e))) → From low name before e (walk (suc n) low dp name before e)
    go true q s hp hq hs k = let h = eqb-true e 0 hp in rw (walk_end n low dp name before e h) (omega arith, (subst (Walk low e) h stop, λ y w l. absurd (omega (arith, walk_le low e y w))))
    go false false s hp hq hs k = rw (walk_broken n low dp name before e (eqb-false e 0 hp) hq) (elim (cases_lt e before) [
      | inr o ↦ inl o
      | inl o ↦ inr (e, stop, eqb-false e 0 hp, λ d. let w : first_at low e + 2 ≤ dp = omega (arith, d.whole) in false≢true (sym hq ∙ in_from low dp before e d.above o w))
    ])
    go false true true hp hq hs k = let p = in_parts low dp before e hq in rw (walk_hit n low dp name before e (eqb-false e 0 hp) hq hs) (p.1, (stop, hs, λ y w l. absurd (omega (arith, walk_le low e y w))))
    go false true false hp hq hs k = let p = in_parts low dp before e hq in
        rw (walk_next n low dp name before e (eqb-false e 0 hp) hq hs) (step_from low name before e p.0 p.1 hs (walk n low dp name e (cell_at low e)) (k p.0 p.1))

from_youngest : (low name : List ℕ) (h : ℕ) → 0 < length low → (f : Found) → From low name (length low) h f → Youngest low name h f
from_youngest low name h z (hit x) f = f.1
from_youngest low name h z missing f = f.1
from_youngest low name h z broken (inl l) = (h, stop, (λ e. omega arith), (λ s. omega (arith, s.whole, first_above low h)))
from_youngest low name h z broken (inr b) = b

-- what a walk of the whole thread finds is the youngest
pub walk_youngest : (low : List ℕ) (dp : ℕ) (name : List ℕ) (h : ℕ) → length low ≡ dp → 0 < dp → Youngest low name h (walk (suc dp) low dp name dp h)
walk_youngest low dp name h l z = from_youngest low name h (omega arith) (walk (suc dp) low dp name dp h)
    (subst (λ d. From low name d h (walk (suc dp) low dp name dp h)) (sym l) (walk_from (suc dp) low dp name dp h l (omega arith) z))

pub finds_youngest : (told : Place) (low : List ℕ) (dp : ℕ) (name : List ℕ) (h : ℕ) (r : Result (Option ℕ) Fault) → length low ≡ dp → 0 < dp
    → r ≡ answered told (walk (suc dp) low dp name dp h) → FindsYoungest told low name h r
finds_youngest told low dp name h r l z e = (walk (suc dp) low dp name dp h, e, walk_youngest low dp name h l z)

-- what the answer at one link says
module _ (told : Place) (low : List ℕ) (dp before e : ℕ) where
  pub link_some : (x : ℕ) → Ok (Some x) ≡ answered told (linked low dp before e) → (e ≡ x) × (e ≢ 0) × (in_order low dp before e ≡ true)
  link_some x h = go (eqb e 0) (in_order low dp before e) refl refl h
    where
      go : (p q : Bool) → eqb e 0 ≡ p → in_order low dp before e ≡ q → Ok (Some x) ≡ answered told (cond p missing (cond q (hit e) broken)) → (e ≡ x) × (e ≢ 0) × (in_order low dp before e ≡ true)
      go true q hp hq k = absurd (false≢true (cc))
      go false false hp hq k = absurd (false≢true (cc))
      go false true hp hq k = (cc, eqb-false e 0 hp, hq)

  pub link_none : Ok None ≡ answered told (linked low dp before e) → e ≡ 0
  link_none h = go (eqb e 0) (in_order low dp before e) refl refl h
    where
      go : (p q : Bool) → eqb e 0 ≡ p → in_order low dp before e ≡ q → Ok None ≡ answered told (cond p missing (cond q (hit e) broken)) → e ≡ 0
      go true q hp hq k = eqb-true e 0 hp
      go false false hp hq k = absurd (false≢true (cc))
      go false true hp hq k = absurd (false≢true (cc))

  pub link_broken : (f : Fault) → Err f ≡ answered told (linked low dp before e) → (Err f ≡ answered told broken) × (e ≢ 0) × (in_order low dp before e ≡ false)
  link_broken f h = go (eqb e 0) (in_order low dp before e) refl refl h
    where
      go : (p q : Bool) → eqb e 0 ≡ p → in_order low dp before e ≡ q → Err f ≡ answered told (cond p missing (cond q (hit e) broken)) → (Err f ≡ answered told broken) × (e ≢ 0) × (in_order low dp before e ≡ false)
      go true q hp hq k = absurd (false≢true (cc))
      go false false hp hq k = (k, eqb-false e 0 hp, hq)
      go false true hp hq k = absurd (false≢true (cc))
