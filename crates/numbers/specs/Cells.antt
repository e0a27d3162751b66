-- Cells: numbers of 16 bits, read as they stand or as signed numbers.
use Rattle.std.specs.Prelude.{ℕ, ◌+◌, ◌-◌, ◌/◌, ◌%◌, Bool, true, false, ℤ, pos, negsuc, nat_le, nat_lt, if◌then◌else◌}

-- a number as a cell keeps it
abbrev pub wrap : ℕ → ℕ
wrap n = n % 65536

-- from 32,768 on a cell is negative as a signed number
abbrev pub is_negative : ℕ → Bool
is_negative n = nat_le 32768 n

-- the signed number that a cell holds, from -32,768 to 32,767
abbrev pub signed_value : ℕ → ℤ
signed_value n = if is_negative n then negsuc (65535 - n) else pos n

-- the cell of the negative, and of a difference
abbrev pub negated : ℕ → ℕ
negated n = wrap (65536 - n)

abbrev pub minus : ℕ → ℕ → ℕ
minus a b = wrap (a + (65536 - b))

-- the size of a cell's signed number
abbrev pub magnitude : ℕ → ℕ
magnitude n = if is_negative n then 65536 - n else n

-- is a below b, both as signed numbers?
abbrev pub less : ℕ → ℕ → Bool
less a b = nat_lt (wrap (a + 32768)) (wrap (b + 32768))

-- half of a signed number, rounded down
abbrev pub halved : ℕ → ℕ
halved n = if is_negative n then 32768 + n / 2 else n / 2

-- yes is all ones, no is 0
abbrev pub flag : Bool → ℕ
flag true = 65535
flag false = 0
