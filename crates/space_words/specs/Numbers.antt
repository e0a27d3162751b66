-- The number of each word in the kernel table, and what a word may reach.
use Rattle.std.specs.Prelude.{ℕ, ◌+◌, Bool, ◌&&◌, ◌||◌, ◌==◌, nat_le}
use Rattle.space_words.specs.declared.words.AppendingWord.{AppendingWord}
use Rattle.space_words.specs.declared.words.MemoryWord.{MemoryWord}

abbrev pub memory_number : MemoryWord → ℕ
memory_number MemoryWord.Fetch = 34
memory_number MemoryWord.Store = 35
memory_number MemoryWord.PlusStore = 36
memory_number MemoryWord.CFetch = 37
memory_number MemoryWord.CStore = 38
memory_number MemoryWord.CMove = 39
memory_number MemoryWord.Fill = 40
memory_number MemoryWord.Decimal = 42
memory_number MemoryWord.Hex = 43

-- n bytes at a, with this HERE
abbrev pub reachable : ℕ → ℕ → ℕ → Bool
reachable a n here = n == 0 || (nat_le 32768 a && nat_le (a + n) here)

abbrev pub appending_number : AppendingWord → ℕ
appending_number AppendingWord.Comma = 47
appending_number AppendingWord.CComma = 48

-- how many bytes it appends
abbrev pub size_of : AppendingWord → ℕ
size_of AppendingWord.Comma = 2
size_of AppendingWord.CComma = 1
