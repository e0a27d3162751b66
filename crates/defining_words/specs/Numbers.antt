-- The numbers of the words that define.
use Rattle.std.specs.Prelude.{ℕ}
use Rattle.defining_words.specs.declared.words.DefiningWord.{DefiningWord}

abbrev pub defining_number : DefiningWord → ℕ
defining_number DefiningWord.Colon = 64
defining_number DefiningWord.Create = 66
defining_number DefiningWord.Variable = 67
defining_number DefiningWord.Constant = 68
defining_number DefiningWord.Vocabulary = 69
