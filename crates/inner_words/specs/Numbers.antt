-- The number of each word in the kernel table, what is copied, and when a loop ends.
use Rattle.std.specs.Prelude.{ℕ, ◌+◌, Bool, nat_lt, if◌then◌else◌}
use Rattle.numbers.specs.Cells.{is_negative, magnitude}
use Rattle.inner_words.specs.declared.words.ReturnsWord.{ReturnsWord}
use Rattle.inner_words.specs.declared.words.InlineWord.{InlineWord}

abbrev pub returns_number : ReturnsWord → ℕ
returns_number ReturnsWord.Exit = 91
returns_number ReturnsWord.ToR = 92
returns_number ReturnsWord.RFrom = 93
returns_number ReturnsWord.RFetch = 94
returns_number ReturnsWord.Index = 95
returns_number ReturnsWord.OuterIndex = 96
returns_number ReturnsWord.Leave = 97

-- which return cell it copies, of R@, I and J
abbrev pub copied_place : ReturnsWord → ℕ
copied_place ReturnsWord.OuterIndex = 3
copied_place _ = 0

abbrev pub inline_number : InlineWord → ℕ
inline_number InlineWord.Literal = 98
inline_number InlineWord.Branch = 99
inline_number InlineWord.QuestionBranch = 100
inline_number InlineWord.Do = 101
inline_number InlineWord.Loop = 102
inline_number InlineWord.PlusLoop = 103

-- s is (index - limit) modulo 65,536; adding n ends the loop if s + n is above 65,535 or below 0
abbrev pub passes : ℕ → ℕ → Bool
passes s n = if is_negative n then nat_lt s (magnitude n) else nat_lt 65535 (s + n)
