-- Floored division of sizes and signs is floored division of the integers.
use Rattle.std.proofs.Common.{◌≡◌, ℕ, suc, ◌+◌, ◌-◌, ◌*◌, ◌/◌, ◌%◌, ◌<◌, ◌≤◌, Bool, true, false, not, eqb, ℤ, pos, negsuc, ◌*ℤ◌, neg_ℤ, ◌≤ℤ◌, ◌<ℤ◌, sym, refl, ap, ◌∙◌, subst, inl, inr, ⊎_elim, mod-lt, div-add-mod', div-mul-le_self, add-mul, Option, arith}
use mathlib.Core.Bool.{beq}
use lib.IntN.{*ℤ_comm, neg_ℤ-neg_ℤ}
use borrow.Author.Differences.{up, down, neg_is}
use Rattle.std.proofs.lemmas.Nat.{mul-le}
use Rattle.std.proofs.lemmas.Int.{ints}
use Rattle.std.proofs.lemmas.Grind.{div_ceil_times}
use Rattle.std.specs.Int.{div_ceil}
use Rattle.std.proofs.lemmas.Bool.Decides.{nat_tests, leb_tells, eqb_tells}
use Rattle.numbers.specs.Cells.{is_negative, magnitude, signed_value}
use Rattle.numbers.specs.Division.{IsFloored, InCell, Divides, floored, answered, signed, cell_of, product, rounded_up}

-- the integer of that sign and size
abbrev pub whole : Bool → ℕ → ℤ
whole true m = neg_ℤ (pos m)
whole false m = pos m

pub magnitude_le : (n : ℕ) → n < 65536 → magnitude n ≤ 32768
magnitude_le n h = grind (arith, nat_tests)

-- a cell's signed number has its sign and size
pub signed_whole : (n : ℕ) → n < 65536 → signed_value n ≡ whole (is_negative n) (magnitude n)
signed_whole n h =
    ⊎_elim (λ y. rw y.0 (omega (arith, ints))) (λ y. rw y.0 refl) (leb_tells 32768 n)

-- the cell of a sign and a size holds that integer
cell_below : (n : ℕ) → n ≤ 32768 → signed_value (cell_of true n) ≡ neg_ℤ (pos n)
cell_below n h =
    ⊎_elim (λ y. rw y.0 (omega (arith, ints))) (λ y. rw y.0 (omega (arith, ints))) (leb_tells 32768 (cell_of true n))

cell_whole : (t : Bool) (n : ℕ) → n ≤ 32767 → signed_value (cell_of t n) ≡ whole t n
cell_whole true n h = cell_below n (omega arith)
cell_whole false n h =
    ⊎_elim (λ y. rw y.0 (omega (arith, ints))) (λ y. rw y.0 (omega (arith, ints))) (leb_tells 32768 (cell_of false n))

times_negated : (q b : ℤ) → q *ℤ neg_ℤ b ≡ neg_ℤ (q *ℤ b)
times_negated q b =
    let e = neg_is b in
    omega (arith, ints, ap (λ x. up q * x) e.0, ap (λ x. up q * x) e.1, ap (λ x. down q * x) e.0, ap (λ x. down q * x) e.1)

negated_times : (q b : ℤ) → neg_ℤ q *ℤ b ≡ neg_ℤ (q *ℤ b)
negated_times q b = *ℤ_comm (neg_ℤ q) b ∙ times_negated b q ∙ ap neg_ℤ (*ℤ_comm b q)

-- signs turned on both sides
turned : (a b q r : ℤ) → IsFloored a b q r → IsFloored (neg_ℤ a) (neg_ℤ b) q (neg_ℤ r)
turned a b q r f =
    record {
      whole = omega (arith, ints, f.whole, times_negated q b);
      side = ⊎_elim (λ s. inr (omega (arith, ints, s.1), omega (arith, ints, s.0))) (λ s. inl (omega (arith, ints, s.1), omega (arith, ints, s.0))) f.side;
    }

from : (a a' b b' q q' r r' : ℤ) → a ≡ a' → b ≡ b' → q ≡ q' → r ≡ r' → IsFloored a b q r → IsFloored a' b' q' r'
from a a' b b' q q' r r' x y z w f =
    subst (λ c. IsFloored c b' q' r') x (subst (λ c. IsFloored a c q' r') y (subst (λ c. IsFloored a b c r') z (subst (λ c. IsFloored a b q c) w f)))

-- of numbers on the same side the quotient is not below 0
same_side_lem : (t : Bool) (m n : ℕ) → 0 < n → IsFloored (whole t m) (whole t n) (pos (m / n)) (whole t (m % n))
same_side_lem t m n h = by t
  where
    plain : IsFloored (pos m) (pos n) (pos (m / n)) (pos (m % n))
    plain = record { whole = omega (arith, ints, div-add-mod' m n); side = inl (omega (arith, ints), omega (arith, ints, mod-lt m h)) }

    by : (t : Bool) → IsFloored (whole t m) (whole t n) (pos (m / n)) (whole t (m % n))
    by false = plain
    by true = turned _ _ _ _ plain

rounded_up_lem : (m n : ℕ) → 0 < n → (m ≤ rounded_up m n * n) × (rounded_up m n * n < m + n)
rounded_up_lem m n h =
    let e = div-add-mod' (m + (n - 1)) n in
    let l = mod-lt (m + (n - 1)) h in
    (omega arith, omega arith)

-- the library's quotient, rounded up
no_more : (p q m n : ℕ) → m ≤ q * n → p * n < m + n → p ≤ q
no_more p q m n h l =
    ⊎_elim (λ y. y.1) (λ y. absurd (omega (arith, mul-le (q + 1) n p n (omega (arith, y.1)) (omega arith), add-mul q 1 n))) (leb_tells p q)

pub rounded_up_is : (m n : ℕ) → 0 < n → rounded_up m n ≡ div_ceil m n
rounded_up_is m n h =
    let e = div_ceil_times m n h in
    let f = rounded_up_lem m n h in
    omega (arith, no_more (div_ceil m n) (rounded_up m n) m n f.0 e.1, no_more (rounded_up m n) (div_ceil m n) m n e.0 f.1)

-- of numbers on two sides it is not above 0
other_side : (t : Bool) (m n : ℕ) → 0 < n → IsFloored (whole (not t) m) (whole t n) (whole true (rounded_up m n)) (whole t (rounded_up m n * n - m))
other_side t m n h = by t
  where
    plain : IsFloored (neg_ℤ (pos m)) (pos n) (neg_ℤ (pos (rounded_up m n))) (pos (rounded_up m n * n - m))
    plain =
        let bounds = rounded_up_lem m n h in
        record {
          whole = omega (arith, ints, negated_times (pos (rounded_up m n)) (pos n), bounds.0);
          side = inl (omega (arith, ints), omega (arith, ints, bounds.1));
        }

    by : (t : Bool) → IsFloored (whole (not t) m) (whole t n) (whole true (rounded_up m n)) (whole t (rounded_up m n * n - m))
    by false = plain
    by true = from _ _ _ _ _ _ _ _ (neg_ℤ-neg_ℤ (pos m)) refl refl refl (turned _ _ _ _ plain)

-- the remainder by a positive divisor
between : (a q r : ℤ) (n : ℕ) → IsFloored a (pos n) q r → (pos 0 ≤ℤ r) × (r <ℤ pos n)
between a q r n f = ⊎_elim (λ s. s) (λ s. absurd (omega (arith, ints, s.0, s.1))) f.side

-- a quotient in a cell bounds the dividend
not_above : (a q r : ℤ) (n : ℕ) → IsFloored a (pos n) q r → q ≤ℤ pos 32767 → a <ℤ pos (32768 * n)
not_above a (pos k) r n f h =
    let s = between _ _ _ _ f in
    omega (arith, ints, s.0, s.1, f.whole, mul-le k n 32767 n (omega (arith, ints)) (omega arith))
not_above a (negsuc k) r n f h =
    let s = between _ _ _ _ f in
    omega (arith, ints, s.0, s.1, f.whole)

not_below : (a q r : ℤ) (n : ℕ) → IsFloored a (pos n) q r → negsuc 32767 ≤ℤ q → neg_ℤ (pos (32768 * n)) ≤ℤ a
not_below a (pos k) r n f h =
    let s = between _ _ _ _ f in
    omega (arith, ints, s.0, s.1, f.whole)
not_below a (negsuc k) r n f h =
    let s = between _ _ _ _ f in
    omega (arith, ints, s.0, s.1, f.whole, mul-le (suc k) n 32768 n (omega (arith, ints)) (omega arith))

same_beq : (t : Bool) → beq t t ≡ true
same_beq true = refl
same_beq false = refl

other_beq : (t : Bool) → beq (not t) t ≡ false
other_beq true = refl
other_beq false = refl

-- where the size of the quotient is too large, none is in a cell
none_same : (t : Bool) (m n : ℕ) → 0 < n → 32767 < m / n → (q r : ℤ) → IsFloored (whole t m) (whole t n) q r → InCell q → ⊥
none_same t m n h big q r f k = by t f
  where
    plain : (r : ℤ) → IsFloored (pos m) (pos n) q r → ⊥
    plain r f =
        omega (arith, ints, not_above _ _ _ _ f k.1, mul-le 32768 n (m / n) n (omega arith) (omega arith), div-mul-le_self m n)

    by : (t : Bool) → IsFloored (whole t m) (whole t n) q r → ⊥
    by false f = plain r f
    by true f = plain (neg_ℤ r) (from _ _ _ _ q q _ _ (neg_ℤ-neg_ℤ (pos m)) (neg_ℤ-neg_ℤ (pos n)) refl refl (turned _ _ _ _ f))

none_other : (t : Bool) (m n : ℕ) → 0 < n → 32768 < rounded_up m n → (q r : ℤ) → IsFloored (whole (not t) m) (whole t n) q r → InCell q → ⊥
none_other t m n h big q r f k = by t f
  where
    plain : (r : ℤ) → IsFloored (neg_ℤ (pos m)) (pos n) q r → ⊥
    plain r f =
        omega (arith, ints, not_below _ _ _ _ f k.0, mul-le 32769 n (rounded_up m n) n (omega arith) (omega arith), (rounded_up_lem m n h).1)

    by : (t : Bool) → IsFloored (whole (not t) m) (whole t n) q r → ⊥
    by false f = plain r f
    by true f = plain (neg_ℤ r) (from _ _ _ _ q q _ _ refl (neg_ℤ-neg_ℤ (pos n)) refl refl (turned _ _ _ _ f))

nothing_by_zero : (t : Bool) (a q r : ℤ) → IsFloored a (whole t 0) q r → ⊥
nothing_by_zero false a q r f = let s = between _ _ _ _ f in omega (arith, ints, s.0, s.1)
nothing_by_zero true a q r f = let s = between _ _ _ _ f in omega (arith, ints, s.0, s.1)

abbrev Right : Bool → ℕ → Bool → ℕ → Type 0
Right s m t n = Divides (whole s m) (whole t n) (answered (floored (record { is_below = s; size = m }) (record { is_below = t; size = n })))

module _ (m : ℕ) (t : Bool) (n : ℕ) (low : 0 < n) (high : n ≤ 32768) where
  some : eqb n 0 ≡ false
  some = grind (arith, nat_tests)

  same : Right t m t n
  same =
      let small = mod-lt m low in
      rw (some, same_beq t)
      (⊎_elim
      (λ y. rw y.0 (from _ _ _ _ _ _ _ _ refl refl (sym (cell_whole false (m / n) y.1)) (sym (cell_whole t (m % n) (omega arith))) (same_side_lem t m n low)))
      (λ y. rw y.0 (λ q r. none_same t m n low y.1 q r))
      (leb_tells (m / n) 32767))

  other : Right (not t) m t n
  other =
      let bounds = rounded_up_lem m n low in
      rw (some, other_beq t)
      (⊎_elim
      (λ y. rw y.0 (from _ _ _ _ _ _ _ _ refl refl (sym (cell_below (rounded_up m n) y.1)) (sym (cell_whole t (rounded_up m n * n - m) (omega (arith, bounds.1)))) (other_side t m n low)))
      (λ y. rw y.0 (λ q r. none_other t m n low y.1 q r))
      (leb_tells (rounded_up m n) 32768))

by_size : (s : Bool) (m : ℕ) (t : Bool) (n : ℕ) → 0 < n → n ≤ 32768 → Right s m t n
by_size true m true n l h = same m true n l h
by_size true m false n l h = other m false n l h
by_size false m true n l h = other m true n l h
by_size false m false n l h = same m false n l h

by_zero : (s : Bool) (m : ℕ) (t : Bool) → Right s m t 0
by_zero s m t q r f k = nothing_by_zero t (whole s m) q r f

divides : (s : Bool) (m : ℕ) (t : Bool) (n : ℕ) → n ≤ 32768 → Right s m t n
divides s m t n h =
    ⊎_elim (λ y. subst (Right s m t) (sym y.1) (by_zero s m t)) (λ y. by_size s m t n (omega arith) h) (eqb_tells n 0)

-- the integers of cells, and of a product
times_whole : (s t : Bool) (m n : ℕ) → whole s m *ℤ whole t n ≡ whole (not (beq s t)) (m * n)
times_whole true true m n =
    negated_times (pos m) (neg_ℤ (pos n)) ∙ ap neg_ℤ (times_negated (pos m) (pos n)) ∙ neg_ℤ-neg_ℤ (pos (m * n))
times_whole true false m n = negated_times (pos m) (pos n)
times_whole false true m n = times_negated (pos m) (pos n)
times_whole false false m n = refl

module _ (a b : ℕ) (r : Option (ℕ × ℕ)) where
  pub cells : r ≡ answered (floored (signed a) (signed b)) → a < 65536 → b < 65536 → Divides (signed_value a) (signed_value b) r
  cells e h k =
      let P : ℤ → Type 0 = λ z. Divides z (signed_value b) (answered (floored (signed a) (signed b))) in
      let Q : ℤ → Type 0 = λ z. Divides (whole (is_negative a) (magnitude a)) z (answered (floored (signed a) (signed b))) in
      rw e (subst P (sym (signed_whole a h)) (subst Q (sym (signed_whole b k)) (divides (is_negative a) (magnitude a) (is_negative b) (magnitude b) (magnitude_le b k))))

  pub products : (d : ℕ) → r ≡ answered (floored (product a b) (signed d)) → a < 65536 → b < 65536 → d < 65536 → Divides (signed_value a *ℤ signed_value b) (signed_value d) r
  products d f h k l =
      let e : signed_value a *ℤ signed_value b ≡ whole (product a b).is_below (product a b).size =
      ap (λ z. z *ℤ signed_value b) (signed_whole a h) ∙ ap (λ z. whole (is_negative a) (magnitude a) *ℤ z) (signed_whole b k) ∙ times_whole (is_negative a) (is_negative b) (magnitude a) (magnitude b) in
      let P : ℤ → Type 0 = λ z. Divides z (signed_value d) (answered (floored (product a b) (signed d))) in
      let Q : ℤ → Type 0 = λ z. Divides (whole (product a b).is_below (product a b).size) z (answered (floored (product a b) (signed d))) in
      rw f (subst P (sym e) (subst Q (sym (signed_whole d l)) (divides (product a b).is_below (product a b).size (is_negative d) (magnitude d) (magnitude_le d l))))
