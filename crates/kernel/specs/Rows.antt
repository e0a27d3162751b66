-- The table as code has it: each word's name, and whether it is immediate.
use Rattle.std.specs.Prelude.{ℕ, Bool, true, cond, ◌&&◌, List, [], ◌∷◌, length, nat_le, nat_lt}
use denote.Ref.{Bor}
use Rattle.kernel.specs.Table.{Row}

abbrev pub row_of : Bor (List ℕ) × Bool → Row
row_of r = record { name = r.0.now; flags = cond r.1 64 0 }

unfoldable pub rows_of : List (Bor (List ℕ) × Bool) → List Row
rows_of [] = []
rows_of (r ∷ rs) = row_of r ∷ rows_of rs

unfoldable pub all_below128 : List ℕ → Bool
all_below128 [] = true
all_below128 (b ∷ bs) = nat_lt b 128 && all_below128 bs

-- is each name 1 to 31 bytes below 128?
unfoldable pub are_rows : List (Bor (List ℕ) × Bool) → Bool
are_rows [] = true
are_rows (r ∷ rs) = (nat_le 1 (length r.0.now) && (nat_le (length r.0.now) 31 && all_below128 r.0.now)) && are_rows rs
