-- The words whose token pushes a cell, and the tokens that >BODY takes.
use Rattle.std.specs.Prelude.{ℕ, Bool, ◌&&◌, ◌||◌, List, ◌==◌}
use Rattle.image.specs.Cells.{cell_at}
use Rattle.steps.specs.Inside.{inside}
use Rattle.inner_words.specs.declared.tokens.PushingWord.{PushingWord}

abbrev pub pushing_code : PushingWord → ℕ
pushing_code PushingWord.Created = 202
pushing_code PushingWord.Constant = 203

-- where the cell that it pushes lies, from its token on
abbrev pub pushing_place : PushingWord → ℕ
pushing_place PushingWord.Created = 2
pushing_place PushingWord.Constant = 4

-- the token t of a word of code 202 or 205
abbrev pub made_by_create : List ℕ → ℕ → ℕ → Bool
made_by_create low dp t = inside t 4 dp && (cell_at low t == 202 || cell_at low t == 205)
