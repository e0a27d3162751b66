-- The vocabularies that stay where w is forgotten.
use Rattle.std.specs.Prelude.{◌≡◌, ℕ, ◌+◌, ◌-◌, ◌*◌, ◌<◌, ◌≤◌, true, List, [], ◌∷◌, is_some}
use Rattle.image.specs.Cells.{cell_at}
use Rattle.dictionary.specs.Trim.{fell}

-- the heads k - 1 .. 0 of the vocabulary v can fall
abbrev pub Falls : List ℕ → ℕ → ℕ → ℕ → Type 0
Falls low w v k = (i : ℕ) → i < k → is_some (fell low w (cell_at low (v + 2 * i))) ≡ true

-- the vocabulary with the link k lies below the one before and below w's entry, and its heads can fall
pub record KeptAt (low : List ℕ) (w before k : ℕ) : Type 0 where
  pub above : 266 ≤ k
  pub below : k + 2 ≤ before
  pub under : k + 4 ≤ w
  pub can : Falls low w (k - 8) 4

-- so do all from the link k down, and these are they
pub data Kept (low : List ℕ) (w : ℕ) : ℕ → ℕ → List ℕ → Type 0 where
  none : {before k : ℕ} → k ≡ 0 → Kept low w before k []
  some : {before k : ℕ} {vs : List ℕ} → KeptAt low w before k → Kept low w (k - 8) (cell_at low k) vs → Kept low w before k ((k - 8) ∷ vs)
