-- Floored division, which answers remainder and quotient together.
use Rattle.std.specs.Prelude.{◌≡◌, ℕ, ◌+◌, ◌-◌, ◌*◌, ◌/◌, ◌%◌, Bool, true, false, not, ◌⊎◌, ℤ, pos, negsuc, ◌+ℤ◌, ◌*ℤ◌, ◌≤ℤ◌, ◌<ℤ◌, Some, None, Option, MatchOption, ◌==◌, nat_le, if◌then◌else◌}
use Rattle.std.specs.Bool.{beq}
use Rattle.numbers.specs.Cells.{wrap, is_negative, negated, magnitude, signed_value}

-- q and r are the floored quotient and remainder of a by b: a is q·b + r, and r lies between 0 and b, but is not b
pub record IsFloored (a b q r : ℤ) : Type 0 where
  pub whole : a ≡ (q *ℤ b) +ℤ r
  pub side : ((pos 0 ≤ℤ r) × (r <ℤ b)) ⊎ ((b <ℤ r) × (r ≤ℤ pos 0))

-- a number that a cell holds as a signed number
abbrev pub InCell : ℤ → Type 0
InCell z = (negsuc 32767 ≤ℤ z) × (z ≤ℤ pos 32767)

-- an answer of a division of a by b: remainder and quotient in cells, or nothing just where no such quotient is in a cell
abbrev pub Divides : ℤ → ℤ → Option (ℕ × ℕ) → Type 0
Divides a b answer =
    MatchOption answer ((q r : ℤ) → IsFloored a b q r → InCell q → ⊥)
    (λ pair. IsFloored a b (signed_value pair.1) (signed_value pair.0))

-- a number with a sign, of any size
pub record Signed : Type 0 where
  pub is_below : Bool
  pub size : ℕ

-- a cell's signed number, and the product of two
abbrev pub signed : ℕ → Signed
signed n = record { is_below = is_negative n; size = magnitude n }

abbrev pub product : ℕ → ℕ → Signed
product a b = record { is_below = not (beq (is_negative a) (is_negative b)); size = magnitude a * magnitude b }

-- remainder and quotient together, floored: the remainder has the divisor's sign; does the quotient exist and fit a cell?
pub record Divided : Type 0 where
  pub remainder : ℕ
  pub quotient : ℕ
  pub fits : Bool

-- the cell of a number of that sign and size
abbrev pub cell_of : Bool → ℕ → ℕ
cell_of true n = negated (wrap n)
cell_of false n = wrap n

-- of sizes on the same side of 0, rounded down
abbrev pub same_side : Bool → ℕ → ℕ → Divided
same_side below m n =
    record { remainder = cell_of below (m % n); quotient = cell_of false (m / n); fits = nat_le (m / n) 32767 }

-- m by n, rounded up
abbrev pub rounded_up : ℕ → ℕ → ℕ
rounded_up m n = (m + (n - 1)) / n

-- of sizes on the two sides of 0, rounded up in size, which is down
abbrev pub two_sides : Bool → ℕ → ℕ → Divided
two_sides below m n =
    record {
      remainder = cell_of below (rounded_up m n * n - m);
      quotient = cell_of true (rounded_up m n);
      fits = nat_le (rounded_up m n) 32768;
    }

-- nothing by 0; else by the sides on which the two lie
abbrev pub floored : Signed → Signed → Divided
floored a b =
    if b.size == 0 then record { remainder = 0; quotient = 0; fits = false }
    else (if beq a.is_below b.is_below then same_side b.is_below a.size b.size else two_sides b.is_below a.size b.size)

-- what a division answers: the pair, where it fits
abbrev pub answered : Divided → Option (ℕ × ℕ)
answered d = if d.fits then Some (d.remainder, d.quotient) else None
