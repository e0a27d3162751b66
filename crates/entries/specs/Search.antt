-- Search: threads are walked down from a head, youngest entry first.
use Rattle.std.specs.Prelude.{ℕ, zero, suc, ◌+◌, Bool, true, false, ◌&&◌, List, length, ◌==◌, nat_le, nat_lt}
use Rattle.image.specs.Cells.{at, cell_at}
use Rattle.entries.specs.Entries.{head_at, spelled, first_at, is_named}

-- not there, a link out of order, or an entry
pub data Found : Type 0 where
  missing broken : Found
  hit : ℕ → Found

-- is a link in order: its entry at 258 or above, below the one before (at first DP), and whole below DP?
abbrev pub in_order : List ℕ → ℕ → ℕ → ℕ → Bool
in_order low dp before e = nat_le 258 e && nat_lt e before && nat_le (first_at low e + 2) dp

-- the youngest entry of this name from link e down; `fuel` is more than the links can be
unfoldable pub walk : ℕ → List ℕ → ℕ → List ℕ → ℕ → ℕ → Found
walk zero low dp name before e = broken
walk (suc fuel) low dp name before e =
    elim (e == 0) [
      | true ↦ missing
      | false ↦
          elim (in_order low dp before e) [
            | false ↦ broken
            | true ↦ elim (is_named low e name) [ true ↦ hit e | false ↦ walk fuel low dp name e (cell_at low e) ]
          ]
    ]

-- in one vocabulary
unfoldable pub search_in : List ℕ → ℕ → List ℕ → Found
search_in low voc name =
    let dp = length low in
    let held = spelled name in
    walk (suc dp) low dp held dp (cell_at low (head_at voc (at held 0)))
