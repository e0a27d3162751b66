-- Laws of the bytes that are seen.
use Rattle.std.proofs.Common.{◌≡◌, ℕ, ◌+◌, ◌-◌, ◌<◌, ◌≤◌, max, List, length, get_or, take, drop, sym, ap, ◌∙◌, arith}
use Rattle.std.proofs.lemmas.List.{length-append, length-take, length-drop}
use Rattle.image.specs.Cells.{cell_at, zeros}
use Rattle.image.specs.Views.{low_of}
use Rattle.image.proofs.Laws.{get_or_low, cell_low}

-- how many there are
seen_size : (dp : ℕ) (xs : List ℕ) → length (low_of dp xs) ≡ 256 + (length (take dp xs) - 256)
unfolding low_of
seen_size dp xs = length-append (zeros 256) (drop 256 (take dp xs)) ∙ ap (λ n. 256 + n) (length-drop 256 (take dp xs))

pub length_seen : (dp : ℕ) (xs : List ℕ) → dp ≤ length xs → length (low_of dp xs) ≡ max 256 dp
length_seen dp xs h = let t = length-take dp xs in let s = seen_size dp xs in omega arith

-- one of them lies in the image
pub seen_at : (dp : ℕ) (xs low : List ℕ) (a : ℕ) → low_of dp xs ≡ low → 256 ≤ a → a < length low → (a < dp) × (a < length xs) × (get_or xs a 0 ≡ get_or low a 0)
seen_at dp xs low a e b h =
    let t = length-take dp xs in
    let s = seen_size dp xs in
    let l = ap length e in
    let d : a < dp = omega arith in
    (d, omega arith, sym (get_or_low dp xs a b d) ∙ ap (λ s. get_or s a 0) e)

-- a cell of them lies in the image
pub cell_within : (dp : ℕ) (xs low : List ℕ) (a : ℕ) → low_of dp xs ≡ low → 256 ≤ a → a + 1 < length low → a + 1 < length xs
cell_within dp xs low a e b h = (seen_at dp xs low (a + 1) e (omega arith) h).1

pub seen_cell : (dp : ℕ) (xs low : List ℕ) (a : ℕ) → low_of dp xs ≡ low → 256 ≤ a → a + 1 < length low → cell_at xs a ≡ cell_at low a
seen_cell dp xs low a e b h =
    sym (cell_low dp xs a b (seen_at dp xs low (a + 1) e (omega arith) h).0) ∙ ap (λ s. cell_at s a) e
