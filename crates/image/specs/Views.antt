-- The parts of the lent image that are not free, and what a write leaves of each.
use Rattle.std.specs.Prelude.{◌≡◌, ℕ, ◌+◌, ◌-◌, ◌<◌, ◌≤◌, List, ◌++◌, length, take, drop}
use Rattle.image.specs.Cells.{cell_at, zeros}
use Rattle.image.specs.Writes.{overwritten, moved_up}

-- the dictionary, up to DP; what lies below 256 is not the dictionary's and counts as zeros
unfoldable pub low_of : ℕ → List ℕ → List ℕ
low_of dp image = zeros 256 ++ drop 256 (take dp image)

-- the last line given, in 128 bytes
unfoldable pub line_of : List ℕ → List ℕ
line_of image = take 128 (drop 128 image)

-- what a word may fetch and store: from 32,768 up to HERE
unfoldable pub high_of : ℕ → List ℕ → List ℕ
high_of here image = take (here - 32768) (drop 32768 image)

-- a cell that lies in a view is read from the view
pub record SeenInViews (image : List ℕ) (a x : ℕ) : Type 0 where
  pub in_low : (dp : ℕ) → 256 ≤ a → a + 1 < dp → cell_at (low_of dp image) a ≡ x
  pub in_high : (here : ℕ) → 32768 ≤ a → a + 1 < here → cell_at (high_of here image) (a - 32768) ≡ x

-- New bytes from a on, seen in each view: a view that they miss is kept, one that holds them has them in their
-- place, and one that ends where they begin has grown by them.
pub record CarriedByViews (a : ℕ) (new old image : List ℕ) : Type 0 where
  pub low_kept : (dp : ℕ) → dp ≤ a → low_of dp image ≡ low_of dp old
  pub low_within : (dp : ℕ) → 256 ≤ a → a + length new ≤ dp → dp ≤ length old → low_of dp image ≡ overwritten a new (low_of dp old)
  pub low_grown : 256 ≤ a → low_of (a + length new) image ≡ low_of a old ++ new
  pub low_above : (dp : ℕ) → 256 ≤ dp → a + length new ≤ 256 → low_of dp image ≡ low_of dp old
  pub high_kept : (here : ℕ) → 32768 ≤ a → here ≤ a → high_of here image ≡ high_of here old
  pub high_within : (here : ℕ) → 32768 ≤ a → a + length new ≤ here → here ≤ length old → high_of here image ≡ overwritten (a - 32768) new (high_of here old)
  pub high_grown : 32768 ≤ a → high_of (a + length new) image ≡ high_of a old ++ new
  pub high_above : (here : ℕ) → a + length new ≤ 32768 → high_of here image ≡ high_of here old
  pub line_kept : 256 ≤ a → line_of image ≡ line_of old
  pub line_written : a ≡ 128 → length new ≡ 128 → line_of image ≡ new

-- n bytes moved up, seen in each view
pub record MovedInViews (n from to : ℕ) (old image : List ℕ) : Type 0 where
  pub low_kept : (dp : ℕ) → dp ≤ to → low_of dp image ≡ low_of dp old
  pub high_within : (here : ℕ) → 32768 ≤ from → from + n ≤ here → 32768 ≤ to → to + n ≤ here → here ≤ length old → high_of here image ≡ moved_up n (from - 32768) (to - 32768) (high_of here old)
  pub line_kept : 256 ≤ to → line_of image ≡ line_of old
