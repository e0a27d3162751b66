-- Two cells as four bytes.
use Rattle.std.proofs.Common.{◌≡◌, ℕ, ◌<◌, List, [], ◌∷◌, ◌++◌, get_or, ap, ◌∙◌, w16}
use Rattle.std.specs.Int.{to_le_bytes}
use Rattle.image.specs.Cells.{cell}
use Rattle.dictionary.proofs.Growing.{le_bytes_are_cell}

abbrev pub both : List ℕ → List ℕ → List ℕ
both b d = get_or b 0 0 ∷ get_or b 1 0 ∷ get_or d 0 0 ∷ get_or d 1 0 ∷ []

pub two_cells : (n a x : ℕ) (b d : List ℕ) → x < 65536 → n ≡ a → b ≡ to_le_bytes w16 n → d ≡ to_le_bytes w16 x → a < 65536 → both b d ≡ cell a ++ cell x
unfolding cell
two_cells n a x b d h p q e l =
    ap (λ (y : List ℕ). both y d) (q ∙ ap (to_le_bytes w16) p ∙ le_bytes_are_cell a l) ∙ ap (both (cell a)) (e ∙ le_bytes_are_cell x h)
