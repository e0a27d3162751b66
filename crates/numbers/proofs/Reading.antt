-- Digits read one by one, and what they are worth.
use Rattle.std.proofs.Common.{◌≡◌, ℕ, zero, suc, ◌+◌, ◌*◌, ◌^◌, ◌<◌, ◌≤◌, true, false, eqb, leb, ◌⊎◌, List, [], ◌∷◌, length, get_or, drop, ℤ, pos, neg_ℤ, Some, None, Option, sym, refl, ap, ◌∙◌, subst, inl, inr, ⊎_elim, mul_assoc, mul_comm, add-mul, pow-suc, arith}
use native.Mathlib.Nat.{pow-zero}
use Rattle.std.proofs.lemmas.Nat.{mul-le}
use Rattle.std.proofs.lemmas.List.{at_drop_more, at_drop_all}
use Rattle.std.proofs.lemmas.Bool.Decides.{nat_tests, leb_tells, eqb_tells}
use Rattle.std.proofs.lemmas.Int.{ints}
use Rattle.std.specs.List.{AllByRecursion}
use Rattle.numbers.specs.Cells.{negated}
use Rattle.numbers.specs.Text.{digit_of, value_of, magnitude_of, up_to, is_base, number_in, worth, AreDigits, Writes, cell_holding, Reads}

-- the value in a cell, unsigned
abbrev pub in_cell : Option ℕ → Option ℕ
in_cell = up_to 65535 (λ n. n)

abbrev pub and_then : Option ℕ → (ℕ → Option ℕ) → Option ℕ
and_then None f = None
and_then (Some v) f = f v

-- a value that has passed a cell stays out
passed : (base n : ℕ) (bs : List ℕ) → 1 ≤ base → 65535 < n → in_cell (value_of base n bs) ≡ None
passed base n [] h k = let e : leb n 65535 ≡ false = grind (arith, nat_tests) in rw e
passed base n (b ∷ bs) h k =
    let more = passed base (n * base + digit_of b) bs h (omega (arith, mul-le n 1 n base (omega arith) h)) in
    ⊎_elim (λ y. rw y.0 more) (λ y. rw y.0) (leb_tells (suc (digit_of b)) base)

-- the value of a first digit and of the rest
one_more : (base n b : ℕ) (bs : List ℕ) → 1 ≤ base → in_cell (value_of base n (b ∷ bs)) ≡ and_then (in_cell (value_of base n (b ∷ []))) (λ w. in_cell (value_of base w bs))
one_more base n b bs h =
    ⊎_elim
    (λ y. rw y.0 (⊎_elim (λ z. rw z.0) (λ z. rw z.0 (passed base (n * base + digit_of b) bs h z.1)) (leb_tells (n * base + digit_of b) 65535)))
    (λ y. rw y.0)
    (leb_tells (suc (digit_of b)) base)

-- a text that is not empty is read by its digits
by_digits : (base : ℕ) (xs : List ℕ) → (length xs ≡ 0 → ⊥) → 2 ≤ base → base ≤ 36 → magnitude_of base xs ≡ value_of base 0 xs
by_digits base [] h l k = absurd (h refl)
by_digits base (x ∷ xs) h l k = let e : is_base base ≡ true = grind (arith, nat_tests) in rw e

-- a value in a cell is small
small : (w : ℕ) (o : Option ℕ) → Some w ≡ in_cell o → w ≤ 65535
small w None e = let z : ◌≡◌ {A = ℕ} 0 1 = cc in omega arith
small w (Some n) e =
    ⊎_elim (λ y. let f : Some w ≡ Some n = e ∙ rw y.0 in let g : w ≡ n = cc in omega arith)
    (λ y. let f : Some w ≡ None = e ∙ rw y.0 in let z : ◌≡◌ {A = ℕ} 0 1 = cc in omega arith)
    (leb_tells n 65535)

-- the loop of reading: v is the value of the digits before place i
abbrev pub Left : ℕ → List ℕ → ℕ → ℕ → Type 0
Left base xs v i = (in_cell (value_of base 0 xs) ≡ in_cell (value_of base v (drop i xs))) × (v ≤ 65535)

module _ (base : ℕ) (xs : List ℕ) (v i : ℕ) (low : 2 ≤ base) (high : base ≤ 36) (left : Left base xs v i) where
  here : i < length xs → in_cell (value_of base 0 xs) ≡ and_then (in_cell (value_of base v (get_or xs i 0 ∷ []))) (λ w. in_cell (value_of base w (drop (i + 1) xs)))
  here k =
      left.0 ∙ at_drop_more (λ bs. in_cell (value_of base v bs)) xs i 0 k ∙ one_more base v (get_or xs i 0) (drop (i + 1) xs) (omega arith)

  pub more : i < length xs → (w : ℕ) → Some w ≡ in_cell (value_of base v (get_or xs i 0 ∷ [])) → Left base xs w (i + 1)
  more k w e =
      (here k ∙ ap (λ m. and_then m (λ w. in_cell (value_of base w (drop (i + 1) xs)))) (sym e), small w (value_of base v (get_or xs i 0 ∷ [])) e)

  pub stops : i < length xs → None ≡ in_cell (value_of base v (get_or xs i 0 ∷ [])) → in_cell (magnitude_of base xs) ≡ None
  stops k e =
      ap in_cell (by_digits base xs (λ z. omega arith) low high) ∙ here k ∙ ap (λ m. and_then m (λ w. in_cell (value_of base w (drop (i + 1) xs)))) (sym e)

  pub ends : (length xs ≡ 0 → ⊥) → length xs ≤ i → in_cell (magnitude_of base xs) ≡ Some v
  ends h k =
      let e : leb v 65535 ≡ true = grind (arith, nat_tests, left.1) in
      ap in_cell (by_digits base xs h low high) ∙ left.0 ∙ at_drop_all (λ bs. in_cell (value_of base v bs)) xs i k ∙ rw e

-- the narrower of two bounds
narrower : (o : Option ℕ) → up_to 32768 negated (in_cell o) ≡ up_to 32768 negated o
narrower None = refl
narrower (Some n) =
    ⊎_elim (λ y. rw y.0)
    (λ y. let e : leb n 32768 ≡ false = grind (arith, nat_tests, y.1) in rw (y.0, e))
    (leb_tells n 65535)

-- behind a minus
pub minus_read : (base : ℕ) (xs : List ℕ) → eqb (get_or xs 0 0) 45 ≡ true → up_to 32768 negated (in_cell (magnitude_of base (drop 1 xs))) ≡ number_in base xs
minus_read base [] e = let z : ◌≡◌ {A = ℕ} 0 1 = cc in absurd (omega arith)
minus_read base (b ∷ bs) e = rw e (narrower (magnitude_of base bs))

-- one digit more: its power of the base
shifted : (base n d k w : ℕ) → (n * base + d) * base ^ k + w ≡ n * base ^ suc k + (d * base ^ k + w)
shifted base n d k w = rw pow-suc (omega (arith, mul_assoc n (base ^ k) base, mul_comm (base ^ k) base, add-mul (n * base) d (base ^ k), mul_assoc n base (base ^ k), ap (λ x. n * x) (mul_comm (base ^ k) base)))

base_tells : (base : ℕ) → ((is_base base ≡ true) × (2 ≤ base) × (base ≤ 36)) ⊎ ((is_base base ≡ false) × (2 ≤ base → base ≤ 36 → ⊥))
base_tells base =
    ⊎_elim
    (λ l. ⊎_elim
    (λ h. inl (rw (l.0, h.0), l.1, h.1))
    (λ h. inr (rw (l.0, h.0), λ p q. omega (arith, q, h.1)))
    (leb_tells base 36))
    (λ l. inr (rw l.0, λ p q. omega (arith, p, l.1)))
    (leb_tells 2 base)

-- digits are worth what reading them one by one gives; of other bytes it gives nothing
abbrev pub Digits : ℕ → List ℕ → Type 0
Digits base bs = AllByRecursion (λ b. digit_of b < base) bs

pub values : (base n : ℕ) (bs : List ℕ) → (Digits base bs × (value_of base n bs ≡ Some (n * base ^ length bs + worth base bs))) ⊎ ((Digits base bs → ⊥) × (value_of base n bs ≡ None))
values base n [] = inl (tt, ap Some (rw pow-zero (omega arith)))
values base n (b ∷ bs) =
    let rest = values base (n * base + digit_of b) bs in
    ⊎_elim
    (λ y. rw y.0
    (⊎_elim
    (λ r. inl ((y.1, r.0), r.1 ∙ ap Some (shifted base n (digit_of b) (length bs) (worth base bs))))
    (λ r. inr ((λ d. r.0 d.1), r.1))
    rest))
    (λ y. rw y.0 (inr ((λ d. omega (arith, d.0, y.1)), refl)))
    (leb_tells (suc (digit_of b)) base)

magnitudes : (base : ℕ) (bs : List ℕ) → (AreDigits base bs × (magnitude_of base bs ≡ Some (worth base bs))) ⊎ ((AreDigits base bs → ⊥) × (magnitude_of base bs ≡ None))
magnitudes base [] = inr ((λ d. omega (arith, d.2)), refl)
magnitudes base (b ∷ bs) =
    ⊎_elim
    (λ y. rw y.0
    (⊎_elim
    (λ r. inl ((y.1, y.2, omega arith, r.0), r.1 ∙ ap Some (omega arith)))
    (λ r. inr ((λ d. r.0 d.3), r.1))
    (values base 0 (b ∷ bs))))
    (λ y. rw y.0 (inr ((λ d. y.1 d.0 d.1), refl)))
    (base_tells base)

are_digits : (base : ℕ) (bs : List ℕ) → AreDigits base bs → magnitude_of base bs ≡ Some (worth base bs)
are_digits base bs d = ⊎_elim (λ m. m.1) (λ m. absurd (m.0 d)) (magnitudes base bs)

-- a size with a minus in front, in its cell
below_cell : (w : ℕ) → w ≤ 32768 → negated w ≡ cell_holding (neg_ℤ (pos w))
below_cell zero h = refl
below_cell (suc k) h = omega arith

no_minus_digit : (base : ℕ) (bs : List ℕ) → AreDigits base (45 ∷ bs) → ⊥
no_minus_digit base bs d = omega (arith, d.1, d.3.0)

-- what a text with a minus writes, and what one without
only_minus : (base : ℕ) (bs : List ℕ) (z : ℤ) → Writes base (45 ∷ bs) z → AreDigits base bs × (z ≡ neg_ℤ (pos (worth base bs)))
only_minus base bs z (inl d) = absurd (no_minus_digit base bs d.0)
only_minus base bs z (inr (ds, e, d, v)) =
    let same : ds ≡ bs = cc in
    (subst (AreDigits base) same d, v ∙ ap (λ ys. neg_ℤ (pos (worth base ys))) same)

only_plain : (base b : ℕ) (bs : List ℕ) (z : ℤ) → (b ≡ 45 → ⊥) → Writes base (b ∷ bs) z → AreDigits base (b ∷ bs) × (z ≡ pos (worth base (b ∷ bs)))
only_plain base b bs z h (inl d) = d
only_plain base b bs z h (inr (ds, e, d, v)) = absurd (h (cc))

after_minus : (base : ℕ) (bs : List ℕ) → Reads base (45 ∷ bs) (up_to 32768 negated (magnitude_of base bs))
after_minus base bs =
    let w = worth base bs in
    ⊎_elim
    (λ m. rw m.1
    (⊎_elim
    (λ y. rw y.0 (neg_ℤ (pos w), inr (bs, refl, m.0, refl), (omega (arith, ints, y.1), omega (arith, ints)), below_cell w y.1))
    (λ y. rw y.0 (λ z v h. omega (arith, ints, (only_minus base bs z v).1, h.0, y.1)))
    (leb_tells w 32768)))
    (λ m. rw m.1 (λ z v h. m.0 (only_minus base bs z v).0))
    (magnitudes base bs)

without_minus : (base b : ℕ) (bs : List ℕ) → (b ≡ 45 → ⊥) → Reads base (b ∷ bs) (up_to 65535 (λ n. n) (magnitude_of base (b ∷ bs)))
without_minus base b bs n =
    let w = worth base (b ∷ bs) in
    ⊎_elim
    (λ m. rw m.1
    (⊎_elim
    (λ y. rw y.0 (pos w, inl (m.0, refl), (omega (arith, ints), omega (arith, ints, y.1)), refl))
    (λ y. rw y.0 (λ z v h. omega (arith, ints, (only_plain base b bs z n v).1, h.1, y.1)))
    (leb_tells w 65535)))
    (λ m. rw m.1 (λ z v h. m.0 (only_plain base b bs z n v).0))
    (magnitudes base (b ∷ bs))

nothing : (base : ℕ) (z : ℤ) → Writes base [] z → ⊥
nothing base z (inl d) = omega (arith, d.0.2)
nothing base z (inr (ds, e, d, v)) = let i : ◌≡◌ {A = ℕ} 0 1 = cc in omega arith

-- the definition reads what a text writes
number_reads : (base : ℕ) (xs : List ℕ) → Reads base xs (number_in base xs)
number_reads base [] = λ z w h. nothing base z w
number_reads base (b ∷ bs) =
    ⊎_elim
    (λ y. rw y.0 (subst (λ c. Reads base (c ∷ bs) (up_to 32768 negated (magnitude_of base bs))) (sym y.1) (after_minus base bs)))
    (λ y. rw y.0 (without_minus base b bs y.1))
    (eqb_tells b 45)

pub reads_as : (base : ℕ) (xs : List ℕ) (r : Option ℕ) → r ≡ number_in base xs → Reads base xs r
reads_as base xs r e = subst (Reads base xs) (sym e) (number_reads base xs)

-- digits worth a cell are read as that cell
pub plain_number : (base v : ℕ) (xs : List ℕ) → AreDigits base xs → worth base xs ≡ v → v ≤ 65535 → number_in base xs ≡ Some v
plain_number base v [] d e h = absurd (omega (arith, d.2))
plain_number base v (b ∷ bs) d e h =
    let other : eqb b 45 ≡ false = grind (arith, nat_tests, d.1, d.3.0) in
    let small : leb (worth base (b ∷ bs)) 65535 ≡ true = grind (arith, nat_tests, e) in
    rw other (ap (up_to 65535 (λ n. n)) (are_digits base (b ∷ bs) d) ∙ rw small (ap Some e))

-- and behind a minus as its negative
pub minus_number : (base v : ℕ) (xs : List ℕ) → AreDigits base xs → worth base xs ≡ v → v ≤ 32768 → number_in base (45 ∷ xs) ≡ Some (negated v)
minus_number base v xs d e h =
    let small : leb (worth base xs) 32768 ≡ true = grind (arith, nat_tests, e) in
    ap (up_to 32768 negated) (are_digits base xs d) ∙ rw small (ap (λ n. Some (negated n)) e)
