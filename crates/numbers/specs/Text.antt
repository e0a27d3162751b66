-- Numbers as text: in a base from 2 to 36, by the digits 0 to 9, then A to Z.
use Rattle.std.specs.Prelude.{◌≡◌, ℕ, zero, suc, ◌+◌, ◌-◌, ◌*◌, ◌/◌, ◌%◌, ◌^◌, ◌<◌, ◌≤◌, Bool, ◌&&◌, ◌⊎◌, List, [], ◌∷◌, length, ℤ, pos, negsuc, neg_ℤ, ◌≤ℤ◌, Some, None, Option, MatchOption, ◌==◌, nat_le, nat_lt, slice_index, if◌then◌else◌}
use Rattle.std.specs.List.{AllByRecursion}
use Rattle.numbers.specs.Cells.{is_negative, negated, magnitude}

-- only in these bases there are digits
abbrev pub is_base : ℕ → Bool
is_base b = nat_le 2 b && nat_le b 36

-- a to z as A to Z
abbrev pub capital : ℕ → ℕ
capital b = if nat_le 97 b && nat_le b 122 then b - 32 else b

-- the byte that writes a digit
abbrev pub digit_byte : ℕ → ℕ
digit_byte d = if nat_lt d 10 then 48 + d else 55 + d

-- a digit's value; 36 where the byte is none
abbrev pub digit_of : ℕ → ℕ
digit_of b =
    if nat_le 48 b && nat_le b 57 then b - 48
    else (if nat_le 65 (capital b) && nat_le (capital b) 90 then capital b - 55 else 36)

-- what digits are worth: the sum of their values times powers of the base
abbrev pub worth : ℕ → List ℕ → ℕ
worth base [] = 0
worth base (b ∷ bs) = digit_of b * base ^ length bs + worth base bs

-- one or more digits of a base from 2 to 36
abbrev pub AreDigits : ℕ → List ℕ → Type 0
AreDigits base bs = (2 ≤ base) × (base ≤ 36) × (0 < length bs) × AllByRecursion (λ b. digit_of b < base) bs

-- the text writes the number z: digits, or a minus and digits behind it
abbrev pub Writes : ℕ → List ℕ → ℤ → Type 0
Writes base text z =
    (AreDigits base text × (z ≡ pos (worth base text)))
    ⊎ ((digits : List ℕ) × (text ≡ 45 ∷ digits) × AreDigits base digits × (z ≡ neg_ℤ (pos (worth base digits))))

-- the one way to print a number: capital digits, and no leading 0 but in 0 itself
abbrev pub Numeral : ℕ → List ℕ → ℕ → Type 0
Numeral base digits n =
    AreDigits base digits × (worth base digits ≡ n) × AllByRecursion (λ b. digit_byte (digit_of b) ≡ b) digits
    × (slice_index digits 0 ≡ 48 → length digits ≡ 1)

-- the text prints the number: its digits, behind a minus where it is below 0
abbrev pub Prints : ℕ → List ℕ → ℤ → Type 0
Prints base text (pos n) = Numeral base text n
Prints base text (negsuc n) = (digits : List ℕ) × (text ≡ 45 ∷ digits) × Numeral base digits (suc n)

-- a number that a cell can hold, signed or unsigned
abbrev pub Holdable : ℤ → Type 0
Holdable z = (negsuc 32767 ≤ℤ z) × (z ≤ℤ pos 65535)

-- the cell that holds it
abbrev pub cell_holding : ℤ → ℕ
cell_holding (pos n) = n
cell_holding (negsuc n) = 65535 - n

-- an answer of reading: the cell of the number that the text writes, or nothing just where it writes none that a cell holds
abbrev pub Reads : ℕ → List ℕ → Option ℕ → Type 0
Reads base text answer =
    MatchOption answer ((z : ℤ) → Writes base text z → Holdable z → ⊥)
    (λ cell. (z : ℤ) × Writes base text z × Holdable z × (cell ≡ cell_holding z))

-- the value of digits behind those that are worth n already
abbrev pub value_of : ℕ → ℕ → List ℕ → Option ℕ
value_of base n [] = Some n
value_of base n (b ∷ bs) = if nat_lt (digit_of b) base then value_of base (n * base + digit_of b) bs else None

-- one or more digits; outside base 2 to 36 there are none
abbrev pub magnitude_of : ℕ → List ℕ → Option ℕ
magnitude_of base [] = None
magnitude_of base (b ∷ bs) = if is_base base then value_of base 0 (b ∷ bs) else None

-- the cell of a value, where it is not above the limit
abbrev pub up_to : ℕ → (ℕ → ℕ) → Option ℕ → Option ℕ
up_to limit f None = None
up_to limit f (Some n) = if nat_le n limit then Some (f n) else None

-- an optional minus and one or more digits, from -32,768 to 65,535
abbrev pub number_in : ℕ → List ℕ → Option ℕ
number_in base [] = None
number_in base (b ∷ bs) =
    if b == 45 then up_to 32768 negated (magnitude_of base bs) else up_to 65535 (λ n. n) (magnitude_of base (b ∷ bs))

-- the digits of n before those that stand already, in at most so many turns
abbrev pub digits_of : ℕ → ℕ → ℕ → List ℕ → List ℕ
digits_of zero base n ds = ds
digits_of (suc turns) base n ds =
    let ds' = digit_byte (n % base) ∷ ds in
    if nat_lt n base then ds' else digits_of turns base (n / base) ds'

-- as an unsigned number: the digits of n, of which there are at most n + 1
abbrev pub unsigned_text : ℕ → ℕ → List ℕ
unsigned_text base n = digits_of (n + 1) base n []

-- as a signed number: behind a minus where it is negative
abbrev pub signed_text : ℕ → ℕ → List ℕ
signed_text base n = if is_negative n then 45 ∷ unsigned_text base (magnitude n) else unsigned_text base n
