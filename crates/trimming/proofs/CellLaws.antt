-- Laws of cells that are written, and of single steps.
use Rattle.std.proofs.Common.{◌≡◌, ℕ, zero, suc, ◌+◌, ◌/◌, ◌%◌, ◌<◌, ◌≤◌, true, ◌≢◌, ◌⊎◌, List, length, set, refl, ◌∙◌, inl, inr, arith, length-set}
use Rattle.std.proofs.lemmas.List.{get_or-set_same, get_or-set_other}
use Rattle.std.proofs.lemmas.Bool.{lt-ltb, le-ltb}
use Rattle.image.specs.Cells.{at, cell_at, set_cell}
use Rattle.entries.specs.Entries.{first_at, name_length}
use Rattle.entries.proofs.Walks as walks
use Rattle.dictionary.specs.Trim.{fall, ordered}

pub length-set_cell : (low : List ℕ) (a x : ℕ) → length (set_cell low a x) ≡ length low
unfolding set_cell
length-set_cell low a x = simp length-set

pub at_low : (low : List ℕ) (a x : ℕ) → a + 1 < length low → at (set_cell low a x) a ≡ x % 256
unfolding set_cell
at_low low a x h = get_or-set_other (set low a (x % 256)) (a + 1) a (x / 256) 0 (omega arith) ∙ get_or-set_same low a (x % 256) 0 (omega arith)

pub at_high : (low : List ℕ) (a x : ℕ) → a + 1 < length low → at (set_cell low a x) (a + 1) ≡ x / 256
unfolding set_cell
at_high low a x h = get_or-set_same (set low a (x % 256)) (a + 1) (x / 256) 0 (simp length-set h)

pub at_other : (low : List ℕ) (a x b : ℕ) → b ≢ a → b ≢ a + 1 → at (set_cell low a x) b ≡ at low b
unfolding set_cell
at_other low a x b p q = get_or-set_other (set low a (x % 256)) (a + 1) b (x / 256) 0 q ∙ get_or-set_other low a b (x % 256) 0 p

pub cell_same : (low : List ℕ) (a x : ℕ) → a + 1 < length low → cell_at (set_cell low a x) a ≡ x
unfolding cell_at
cell_same low a x h = omega (arith, at_low low a x h, at_high low a x h)

-- two cells apart
abbrev pub Apart : ℕ → ℕ → Type 0
Apart a b = (b + 2 ≤ a) ⊎ (a + 2 ≤ b)

pub cell_of_bytes : (low new : List ℕ) (a : ℕ) → at low a ≡ at new a → at low (a + 1) ≡ at new (a + 1) → cell_at low a ≡ cell_at new a
unfolding cell_at
cell_of_bytes low new a p q = omega arith

pub cell_other : (low : List ℕ) (a x b : ℕ) → Apart a b → cell_at (set_cell low a x) b ≡ cell_at low b
cell_other low a x b (inl h) = cell_of_bytes (set_cell low a x) low b (at_other low a x b (omega arith) (omega arith)) (at_other low a x (b + 1) (omega arith) (omega arith))
cell_other low a x b (inr h) = cell_of_bytes (set_cell low a x) low b (at_other low a x b (omega arith) (omega arith)) (at_other low a x (b + 1) (omega arith) (omega arith))

pub fall_down : (n : ℕ) (low : List ℕ) (w h : ℕ) → h < w → fall n low w h ≡ h
unfolding fall
fall_down zero low w h l = refl
fall_down (suc n) low w h l = rw (lt-ltb h w l)

pub fall_step : (n : ℕ) (low : List ℕ) (w h : ℕ) → w ≤ h → fall (suc n) low w h ≡ fall n low w (cell_at low h)
unfolding fall
fall_step n low w h l = rw (le-ltb h w l)

-- what being in order says
pub in_parts : (low : List ℕ) (before e : ℕ) → ordered low before e ≡ true → (258 ≤ e) × (e < before) × (e + 7 + name_length low e ≤ length low)
unfolding first_at
in_parts low before e h = let p = walks.in_parts low (length low) before e h in (p.0, p.1, omega arith)
