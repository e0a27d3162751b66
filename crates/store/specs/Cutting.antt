-- A text cut behind its first line, as the code goes through it.
use Rattle.std.specs.Prelude.{ℕ, cond, List, [], ◌∷◌, ◌==◌}

-- the bytes before the first byte 10
abbrev pub first_line : List ℕ → List ℕ
first_line [] = []
first_line (b ∷ text) = cond (b == 10) [] (b ∷ first_line text)

-- the bytes behind the first byte 10
abbrev pub behind_first : List ℕ → List ℕ
behind_first [] = []
behind_first (b ∷ text) = cond (b == 10) text (behind_first text)
