-- The number of each word in the kernel table, and what the words that type read.
use Rattle.std.specs.Prelude.{ℕ, Bool, List, if◌then◌else◌}
use Rattle.numbers.specs.Cells.{is_negative}
use Rattle.numbers.specs.Text.{signed_text, unsigned_text}
use Rattle.typing_words.specs.declared.words.TypingWord.{TypingWord}

abbrev pub typing_number : TypingWord → ℕ
typing_number TypingWord.Dot = 49
typing_number TypingWord.UDot = 50
typing_number TypingWord.Emit = 51
typing_number TypingWord.Type = 52
typing_number TypingWord.Cr = 53
typing_number TypingWord.Spaces = 54
typing_number TypingWord.Text = 105

-- how many bytes a signed count asks for
abbrev pub counted : ℕ → ℕ
counted n = if is_negative n then 0 else n

-- the word that types a signed number or an unsigned one, and what it types before the blank
abbrev pub number_word : Bool → ℕ
number_word signed = if signed then 49 else 50

abbrev pub number_text : Bool → ℕ → ℕ → List ℕ
number_text signed base x = if signed then signed_text base x else unsigned_text base x
