-- What the words that leave a cell leave, and what the words of one cell and of two make of their cells, for the functions that compute it; the kernel table says the same.
use Rattle.std.specs.Prelude.{ℕ, ◌+◌, ◌-◌, ◌*◌, ◌==◌, bit_and, bit_or, bit_xor, nat_lt, if◌then◌else◌}
use Rattle.numbers.specs.Cells.{wrap, negated, minus, magnitude, less, halved, flag, is_negative}
use Rattle.data_words.specs.declared.words.LeavingWord.{LeavingWord}
use Rattle.data_words.specs.declared.words.UnaryWord.{UnaryWord}
use Rattle.data_words.specs.declared.words.BinaryWord.{BinaryWord}

-- at this depth, and with this HERE
abbrev pub left_by : LeavingWord → ℕ → ℕ → ℕ
left_by LeavingWord.Depth depth here = depth
left_by LeavingWord.Base depth here = 32768
left_by LeavingWord.Pad depth here = 32784
left_by LeavingWord.Here depth here = here

abbrev pub of_one : UnaryWord → ℕ → ℕ
of_one UnaryWord.OnePlus a = wrap (a + 1)
of_one UnaryWord.OneMinus a = minus a 1
of_one UnaryWord.TwoSlash a = halved a
of_one UnaryWord.Negate a = negated a
of_one UnaryWord.Abs a = magnitude a
of_one UnaryWord.Not a = 65535 - a
of_one UnaryWord.ZeroEqual a = flag (a == 0)
of_one UnaryWord.ZeroLess a = flag (is_negative a)

-- of two signed numbers
abbrev pub lesser : ℕ → ℕ → ℕ
lesser a b = if less b a then b else a

abbrev pub greater : ℕ → ℕ → ℕ
greater a b = if less a b then b else a

abbrev pub of_two : BinaryWord → ℕ → ℕ → ℕ
of_two BinaryWord.Plus a b = wrap (a + b)
of_two BinaryWord.Minus a b = minus a b
of_two BinaryWord.Times a b = wrap (a * b)
of_two BinaryWord.Min a b = lesser a b
of_two BinaryWord.Max a b = greater a b
of_two BinaryWord.And a b = bit_and a b
of_two BinaryWord.Or a b = bit_or a b
of_two BinaryWord.Xor a b = bit_xor a b
of_two BinaryWord.Equal a b = flag (a == b)
of_two BinaryWord.Less a b = flag (less a b)
of_two BinaryWord.Greater a b = flag (less b a)
of_two BinaryWord.UnsignedLess a b = flag (nat_lt a b)
