-- Laws of bytes and cells that are written.
use Rattle.std.proofs.Common.{◌≡◌, ℕ, ◌+◌, ◌/◌, ◌%◌, ◌<◌, ◌≤◌, ◌≢◌, ◌⊎◌, List, ◌++◌, length, set, ◌∙◌, inl, inr, arith, length-set}
use Rattle.std.proofs.lemmas.List.{get_or-set_same, get_or-set_other, get_or_append_left}
use Rattle.image.specs.Cells.{at, cell_at, set_cell, Bytes}

pub length-set_cell : (low : List ℕ) (a x : ℕ) → length (set_cell low a x) ≡ length low
unfolding set_cell
length-set_cell low a x = simp length-set

pub at_low : (low : List ℕ) (a x : ℕ) → a + 1 < length low → at (set_cell low a x) a ≡ x % 256
unfolding set_cell
at_low low a x h = get_or-set_other (set low a (x % 256)) (a + 1) a (x / 256) 0 (omega arith) ∙ get_or-set_same low a (x % 256) 0 (omega arith)

pub at_high : (low : List ℕ) (a x : ℕ) → a + 1 < length low → at (set_cell low a x) (a + 1) ≡ x / 256
unfolding set_cell
at_high low a x h = get_or-set_same (set low a (x % 256)) (a + 1) (x / 256) 0 (simp length-set h)

pub at_other : (low : List ℕ) (a x b : ℕ) → b ≢ a → b ≢ a + 1 → at (set_cell low a x) b ≡ at low b
unfolding set_cell
at_other low a x b p q = get_or-set_other (set low a (x % 256)) (a + 1) b (x / 256) 0 q ∙ get_or-set_other low a b (x % 256) 0 p

pub cell_same : (low : List ℕ) (a x : ℕ) → a + 1 < length low → cell_at (set_cell low a x) a ≡ x
unfolding cell_at
cell_same low a x h = omega (arith, at_low low a x h, at_high low a x h)

-- two cells apart
abbrev pub Apart : ℕ → ℕ → Type 0
Apart a b = (b + 2 ≤ a) ⊎ (a + 2 ≤ b)

pub cell_of_bytes : (low new : List ℕ) (a : ℕ) → at low a ≡ at new a → at low (a + 1) ≡ at new (a + 1) → cell_at low a ≡ cell_at new a
unfolding cell_at
cell_of_bytes low new a p q = omega arith

pub cell_other : (low : List ℕ) (a x b : ℕ) → Apart a b → cell_at (set_cell low a x) b ≡ cell_at low b
cell_other low a x b (inl h) = cell_of_bytes (set_cell low a x) low b (at_other low a x b (omega arith) (omega arith)) (at_other low a x (b + 1) (omega arith) (omega arith))
cell_other low a x b (inr h) = cell_of_bytes (set_cell low a x) low b (at_other low a x b (omega arith) (omega arith)) (at_other low a x (b + 1) (omega arith) (omega arith))

pub cell_left : (low new : List ℕ) (a : ℕ) → a + 1 < length low → cell_at (low ++ new) a ≡ cell_at low a
cell_left low new a h = cell_of_bytes (low ++ new) low a (get_or_append_left low new 0 a (omega arith)) (get_or_append_left low new 0 (a + 1) h)

-- a cell of bytes read back byte by byte
pub low_of_lem : (low : List ℕ) (a : ℕ) → Bytes low → cell_at low a % 256 ≡ at low a
unfolding cell_at
low_of_lem low a b = omega (arith, b a)

pub high_of_lem : (low : List ℕ) (a : ℕ) → Bytes low → cell_at low a / 256 ≡ at low (a + 1)
unfolding cell_at
high_of_lem low a b = omega (arith, b a)
