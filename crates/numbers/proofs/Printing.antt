-- The digits of a number: how many there are, and that they read back.
use Rattle.std.proofs.Common.{◌≡◌, ℕ, zero, suc, ◌+◌, ◌-◌, ◌*◌, ◌/◌, ◌%◌, ◌^◌, ◌<◌, ◌≤◌, true, false, ltb, List, [], ◌∷◌, ◌++◌, length, get_or, drop, set, Some, None, sym, refl, ap, ◌∙◌, subst, ⊎_elim, append-nil, mod-lt, mod-eq_of_lt, pow-suc, div-add-mod', add-one, arith, if◌then◌else◌}
use native.Mathlib.Nat.{div-lt_self}
use borrow.Rule.Slice.PartMut.{post_of, put_mid}
use lib.Seq.{drop-length}
use Rattle.std.proofs.lemmas.Nat.{div_below, le-div, mul-le}
use Rattle.std.proofs.ByRecursion.{All-weaker}
use Rattle.std.proofs.lemmas.List.{at_drop_all, drop-set}
use Rattle.std.proofs.lemmas.Bool.Decides.{nat_tests, leb_tells}
use Rattle.std.specs.List.{AllByRecursion}
use Rattle.numbers.specs.Cells.{is_negative, magnitude, signed_value}
use Rattle.numbers.specs.Text.{AreDigits, Numeral, Prints, digit_byte, digit_of, digits_of, number_in, signed_text, unsigned_text, value_of, worth}
use Rattle.numbers.proofs.Reading.{minus_number, plain_number, values}

-- the last k digits of n, before those that stand already
abbrev pub last_digits : ℕ → ℕ → ℕ → List ℕ → List ℕ
last_digits zero base n ds = ds
last_digits (suc k) base n ds = last_digits k base (n / base) (digit_byte (n % base) ∷ ds)

length_last : (k base n : ℕ) (ds : List ℕ) → length (last_digits k base n ds) ≡ k + length ds
length_last zero base n ds = omega arith
length_last (suc k) base n ds = length_last k base (n / base) (digit_byte (n % base) ∷ ds) ∙ omega arith

-- the digits of n are its last ones, as many as there are
abbrev count : ℕ → ℕ → ℕ → ℕ
count zero base n = 0
count (suc k) base n = if ltb n base then 1 else suc (count k base (n / base))

digits_last : (k base n : ℕ) (ds : List ℕ) → digits_of k base n ds ≡ last_digits (count k base n) base n ds
digits_last zero base n ds = refl
digits_last (suc k) base n ds =
    ⊎_elim (λ y. rw y.0) (λ y. rw y.0 (digits_last k base (n / base) (digit_byte (n % base) ∷ ds))) (leb_tells (suc n) base)

length_digits : (k base n : ℕ) (ds : List ℕ) → length (digits_of k base n ds) ≡ count k base n + length ds
length_digits k base n ds = ap length (digits_last k base n ds) ∙ length_last (count k base n) base n ds

one_digit : (k base n : ℕ) → n < base → length (digits_of (suc k) base n []) ≡ 1
one_digit k base n h = let e : ltb n base ≡ true = grind (arith, nat_tests) in rw e

digit_more : (k base n : ℕ) → base ≤ n → length (digits_of (suc k) base n []) ≡ 1 + length (digits_of k base (n / base) [])
digit_more k base n h =
    let e : ltb n base ≡ false = grind (arith, nat_tests) in
    rw e (length_digits k base (n / base) (digit_byte (n % base) ∷ []) ∙ omega (arith, length_digits k base (n / base) []))

pub front_falls : (base n : ℕ) → 2 ≤ base → base ≤ n → n / base < n
front_falls base n h l = div-lt_self (omega arith) (omega arith)

-- how many digits a number has, in more turns than it needs
count_enough : (k j base n : ℕ) → 2 ≤ base → n < k → n < j → count k base n ≡ count j base n
count_enough zero j base n b h l = absurd (omega arith)
count_enough (suc k) zero base n b h l = absurd (omega arith)
count_enough (suc k) (suc j) base n b h l =
    ⊎_elim
    (λ y. rw y.0)
    (λ y.
    let falls : n / base < n = front_falls base n b (omega (arith, y.1)) in
    rw y.0 (ap suc (count_enough k j base (n / base) b (omega arith) (omega arith))))
    (leb_tells (suc n) base)

unfoldable pub width_of : ℕ → ℕ → ℕ
width_of base n = length (unsigned_text base n)

pub width_one : (base n : ℕ) → n < base → width_of base n ≡ 1
unfolding width_of
width_one base n h = rw add-one (one_digit n base n h)

pub width_more : (base n : ℕ) → 2 ≤ base → base ≤ n → width_of base n ≡ 1 + width_of base (n / base)
unfolding width_of
width_more base n b h =
    let falls : n / base < n = front_falls base n b h in
    let more = digit_more n base n h in
    let same = count_enough n (n / base + 1) base (n / base) b falls (omega arith) in
    rw (add-one) (omega (arith, more, same, length_digits n base (n / base) [], length_digits (n / base + 1) base (n / base) []))

pub width_is : (base n : ℕ) → width_of base n ≡ length (unsigned_text base n)
unfolding width_of
width_is base n = refl

-- the loop that writes: the digits of the rest stand before those written
abbrev pub Written : ℕ → ℕ → List ℕ → ℕ → ℕ → Type 0
Written base value out rest place = last_digits place base rest (drop place out) ≡ unsigned_text base value

pub written_none : (base value : ℕ) (out : List ℕ) → length out ≡ length (unsigned_text base value) → Written base value out value (length out)
written_none base value out h =
    let n = count (value + 1) base value in
    let e : length out ≡ n = h ∙ length_digits (value + 1) base value [] ∙ omega arith in
    at_drop_all (last_digits (length out) base value) out (length out) (omega arith) ∙ ap (λ k. last_digits k base value []) e ∙ sym (digits_last (value + 1) base value [])

pub written_more : (base value : ℕ) (out : List ℕ) (rest byte place : ℕ) → 0 < place → place ≤ length out → byte ≡ digit_byte (rest % base) → Written base value out rest place → Written base value (set out (place - 1) byte) (rest / base) (place - 1)
written_more base value out rest byte zero l h b w = absurd (omega arith)
written_more base value out rest byte (suc p) l h b w =
    let e : suc p - 1 ≡ p = omega arith in
    let put : drop p (set out p byte) ≡ digit_byte (rest % base) ∷ drop (suc p) out =
    drop-set out p byte (omega arith) ∙ rw (add-one, b) in
    rw e (ap (last_digits p base (rest / base)) put ∙ w)

pub written_all : (base value : ℕ) (out : List ℕ) (rest place : ℕ) → place ≤ 0 → Written base value out rest place → out ≡ unsigned_text base value
written_all base value out rest zero h w = w
written_all base value out rest (suc p) h w = absurd (omega arith)

-- a cell has at most 16 digits
front_below : (j base n : ℕ) → 2 ≤ base → n < 2 ^ suc j → n / base < 2 ^ j
front_below j base n h l =
    div_below n base (2 ^ j) (omega arith) (omega (arith, pow-suc 2 j, mul-le (2 ^ j) 2 (2 ^ j) base (omega arith) h))

count_le : (k j base n : ℕ) → 2 ≤ base → n < 2 ^ suc j → count k base n ≤ suc j
count_le zero j base n h l = omega arith
count_le (suc k) zero base n h l = let e : ltb n base ≡ true = grind (arith, nat_tests) in rw e (omega arith)
count_le (suc k) (suc j) base n h l =
    ⊎_elim (λ y. rw y.0 (omega arith)) (λ y. rw y.0 (omega (arith, count_le k j base (n / base) h (front_below (suc j) base n h l)))) (leb_tells (suc n) base)

pub width_short : (base n : ℕ) → 2 ≤ base → n < 65536 → width_of base n ≤ 16
unfolding width_of
width_short base n h l = omega (arith, length_digits (n + 1) base n [], count_le (n + 1) 15 base n h l)

-- a minus, and digits written behind it
behind : (b : ℕ) (xs ys : List ℕ) → 0 < length xs → put_mid 1 (length (set xs 0 b) - 1) (set xs 0 b) ys ≡ b ∷ ys
behind b [] ys h = absurd (omega arith)
behind b (x ∷ xs) ys h =
    let e : suc (length xs) - 1 ≡ length xs = omega arith in
    ap (λ k. b ∷ (ys ++ post_of 1 k (b ∷ xs))) e ∙ ap (λ zs. b ∷ (ys ++ zs)) (drop-length xs) ∙ ap (λ zs. b ∷ zs) (append-nil ys)

pub minus_text : (base n s : ℕ) (out digits : List ℕ) → is_negative n ≡ true → s ≡ magnitude n → length out ≡ length (signed_text base n) → digits ≡ unsigned_text base s → put_mid 1 (length (set out 0 45) - 1) (set out 0 45) digits ≡ signed_text base n
minus_text base n s out digits negative size l e =
    let text : signed_text base n ≡ 45 ∷ unsigned_text base (magnitude n) = rw negative in
    behind 45 out digits (omega (arith, l, ap length text)) ∙ ap (λ ds. 45 ∷ ds) (e ∙ ap (unsigned_text base) size) ∙ sym text

-- the digit that a byte writes
digit_back : (d : ℕ) → d < 36 → digit_of (digit_byte d) ≡ d
digit_back d h = grind (arith, nat_tests)

abbrev Proper : ℕ → ℕ → Type 0
Proper base b = (digit_of b < base) × (digit_byte (digit_of b) ≡ b)

module _ (base : ℕ) (low : 2 ≤ base) (high : base ≤ 36) where
  read_digit : (n d : ℕ) (ds : List ℕ) → d < base → value_of base n (digit_byte d ∷ ds) ≡ value_of base (n * base + d) ds
  read_digit n d ds h =
      let e : digit_of (digit_byte d) ≡ d = digit_back d (omega arith) in
      let t : ltb d base ≡ true = grind (arith, nat_tests) in
      ap (λ x. if ltb x base then value_of base (n * base + x) ds else None) e ∙ rw t

  -- the digits of n, read, are n
  digits_back : (k n : ℕ) (ds : List ℕ) → n < k → value_of base 0 (digits_of k base n ds) ≡ value_of base n ds
  digits_back zero n ds h = absurd (omega arith)
  digits_back (suc k) n ds h =
      let last = mod-lt n {m = base} (omega arith) in
      ⊎_elim
      (λ y. rw y.0 (read_digit 0 (n % base) ds last ∙ ap (λ x. value_of base x ds) (omega (arith, mod-eq_of_lt y.1))))
      (λ y. rw y.0
      (digits_back k (n / base) (digit_byte (n % base) ∷ ds) (omega (arith, front_falls base n low (omega (arith, y.1))))
      ∙ read_digit (n / base) (n % base) ds last ∙ ap (λ x. value_of base x ds) (div-add-mod' n base)))
      (leb_tells (suc n) base)

  -- each is a digit of the base, in capitals
  proper : (k n : ℕ) (ds : List ℕ) → AllByRecursion (Proper base) ds → AllByRecursion (Proper base) (digits_of k base n ds)
  proper zero n ds h = h
  proper (suc k) n ds h =
      let last = mod-lt n {m = base} (omega arith) in
      let e = digit_back (n % base) (omega arith) in
      let both : AllByRecursion (Proper base) (digit_byte (n % base) ∷ ds) = ((omega (arith, e), ap digit_byte e), h) in
      ⊎_elim (λ y. rw y.0 both) (λ y. rw y.0 (proper k (n / base) (digit_byte (n % base) ∷ ds) both)) (leb_tells (suc n) base)

  -- the first is not 0
  first : (k n : ℕ) (ds : List ℕ) → 0 < n → n < k → 48 < get_or (digits_of k base n ds) 0 0
  first zero n ds p h = absurd (omega arith)
  first (suc k) n ds p h =
      ⊎_elim
      (λ y. rw y.0 (let e = mod-eq_of_lt y.1 in grind (arith, nat_tests)))
      (λ y. rw y.0
      (first k (n / base) (digit_byte (n % base) ∷ ds) (le-div 1 n base (omega arith) (omega (arith, y.1))) (omega (arith, front_falls base n low (omega (arith, y.1))))))
      (leb_tells (suc n) base)

  some_digit : (n : ℕ) → 0 < length (unsigned_text base n)
  some_digit n =
      rw add-one (⊎_elim (λ y. omega (arith, one_digit n base n y.1)) (λ y. omega (arith, digit_more n base n (omega (arith, y.1)))) (leb_tells (suc n) base))

  are_digits : (n : ℕ) → AreDigits base (unsigned_text base n)
  are_digits n =
      (low, high, some_digit n, All-weaker (Proper base) (λ b. digit_of b < base) (λ b p. p.0) (unsigned_text base n) (proper (n + 1) n [] tt))

  worth_back : (n : ℕ) → worth base (unsigned_text base n) ≡ n
  worth_back n =
      let back = digits_back (n + 1) n [] (omega arith) in
      ⊎_elim
      (λ y. let e : Some (0 * base ^ length (unsigned_text base n) + worth base (unsigned_text base n)) ≡ Some n = sym y.1 ∙ back in
      let f : 0 * base ^ length (unsigned_text base n) + worth base (unsigned_text base n) ≡ n = cc in omega (arith, f))
      (λ y. absurd (y.0 (are_digits n).3))
      (values base 0 (unsigned_text base n))

  lone_zero : (n : ℕ) → get_or (unsigned_text base n) 0 0 ≡ 48 → length (unsigned_text base n) ≡ 1
  lone_zero zero h = one_digit 0 base 0 (omega arith)
  lone_zero (suc n) h = absurd (omega (arith, first (suc n + 1) (suc n) [] (omega arith) (omega arith)))

  -- the digits of n are the way to print it
  pub numeral : (n : ℕ) → Numeral base (unsigned_text base n) n
  numeral n =
      (are_digits n, worth_back n, All-weaker (Proper base) (λ b. digit_byte (digit_of b) ≡ b) (λ b p. p.1) (unsigned_text base n) (proper (n + 1) n [] tt), lone_zero n)

  pub unsigned_back : (n : ℕ) → n < 65536 → number_in base (unsigned_text base n) ≡ Some n
  unsigned_back n h = plain_number base n (unsigned_text base n) (are_digits n) (worth_back n) (omega arith)

  pub signed_back : (n : ℕ) → n < 65536 → number_in base (signed_text base n) ≡ Some n
  signed_back n h =
      let w = 65536 - n in
      ⊎_elim
      (λ y. rw y.0 (minus_number base w (unsigned_text base w) (are_digits w) (worth_back w) (omega (arith, y.1)) ∙ ap Some (omega (arith, y.1))))
      (λ y. rw y.0 (unsigned_back n h))
      (leb_tells 32768 n)

  pub signed_prints : (n : ℕ) → n < 65536 → Prints base (signed_text base n) (signed_value n)
  signed_prints n h =
      let w = 65536 - n in
      ⊎_elim
      (λ y. rw y.0 (unsigned_text base w, refl, subst (Numeral base (unsigned_text base w)) (omega (arith, y.1)) (numeral w)))
      (λ y. rw y.0 (numeral n))
      (leb_tells 32768 n)
