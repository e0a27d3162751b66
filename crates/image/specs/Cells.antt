-- Bytes and cells in a list of bytes, where an address is an index. A cell lies low byte first.
use Rattle.std.specs.Prelude.{ℕ, ◌+◌, ◌*◌, ◌/◌, ◌%◌, ◌<◌, List, [], ◌∷◌, replicate, slice_index, slice_set}

abbrev pub at : List ℕ → ℕ → ℕ
at bytes a = slice_index bytes a

unfoldable pub cell_at : List ℕ → ℕ → ℕ
cell_at bytes a = slice_index bytes a + 256 * slice_index bytes (a + 1)

unfoldable pub cell : ℕ → List ℕ
cell x = x % 256 ∷ x / 256 ∷ []

unfoldable pub set_cell : List ℕ → ℕ → ℕ → List ℕ
set_cell bytes a x = slice_set (slice_set bytes a (x % 256)) (a + 1) (x / 256)

abbrev pub zeros : ℕ → List ℕ
zeros n = replicate n 0

-- every element is a byte
abbrev pub Bytes : List ℕ → Type 0
Bytes bytes = (a : ℕ) → slice_index bytes a < 256
