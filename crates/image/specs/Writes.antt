-- What the writes leave. Each replaces as many bytes as it writes, from an address on.
use Rattle.std.specs.Prelude.{◌≡◌, ℕ, zero, suc, ◌+◌, ◌<◌, ◌≤◌, List, ◌++◌, length, take, drop, slice_index, slice_set}

-- the list with new bytes in the place of those from a on
unfoldable pub overwritten : ℕ → List ℕ → List ℕ → List ℕ
overwritten a new bytes = take a bytes ++ (new ++ drop (a + length new) bytes)

-- n bytes from one address on were moved to those from another on, one after the other, the lowest first
unfoldable pub moved_up : ℕ → ℕ → ℕ → List ℕ → List ℕ
moved_up zero from to bytes = bytes
moved_up (suc n) from to bytes = let before = moved_up n from to bytes in slice_set before (to + n) (slice_index before (from + n))

-- The same as a relation. Outside the target no byte changes. Each byte of the target is the byte of its source as
-- that stood then: the one written before where the source had been reached already, else the old one.
pub record Moved (n from to : ℕ) (old new : List ℕ) : Type 0 where
  pub size : length new ≡ length old
  pub below : (a : ℕ) → a < to → slice_index new a ≡ slice_index old a
  pub above : (a : ℕ) → to + n ≤ a → slice_index new a ≡ slice_index old a
  pub fresh : (i : ℕ) → i < n → from + i < to → slice_index new (to + i) ≡ slice_index old (from + i)
  pub behind : (i : ℕ) → i < n → to ≤ from → slice_index new (to + i) ≡ slice_index old (from + i)
  pub again : (i : ℕ) → i < n → from < to → to ≤ from + i → slice_index new (to + i) ≡ slice_index new (from + i)
