-- Lines of a block: 64 bytes each; one of blanks alone is not used.
use Rattle.std.specs.Prelude.{◌≡◌, ℕ, zero, suc, ◌+◌, ◌*◌, ◌<◌, ◌≤◌, Bool, true, cond, ◌&&◌, List, [], ◌∷◌, length, take, drop, ◌==◌, ◌≢◌, slice_index}

unfoldable pub all_blank : List ℕ → Bool
all_blank [] = true
all_blank (b ∷ bs) = b == 32 && all_blank bs

-- line k of a block
abbrev pub line_at : ℕ → List ℕ → List ℕ
line_at k bytes = take 64 (drop (64 * k) bytes)

-- how many of the first n lines are used
unfoldable pub used_lines : ℕ → List ℕ → ℕ
used_lines zero bytes = 0
used_lines (suc n) bytes = used_lines n bytes + cond (all_blank (line_at n bytes)) 0 1

-- n bytes are left when the blanks at the end are cut off
pub record CutTo (bytes : List ℕ) (n : ℕ) : Type 0 where
  pub within : n ≤ length bytes
  pub blank : (k : ℕ) → n ≤ k → k < length bytes → slice_index bytes k ≡ 32
  pub last : (k : ℕ) → k + 1 ≡ n → slice_index bytes k ≢ 32
