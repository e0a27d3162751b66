-- The number of each word in the kernel table.
use Rattle.std.specs.Prelude.{ℕ}
use Rattle.data_words.specs.declared.words.LeavingWord.{LeavingWord}
use Rattle.data_words.specs.declared.words.StackWord.{StackWord}
use Rattle.data_words.specs.declared.words.UnaryWord.{UnaryWord}
use Rattle.data_words.specs.declared.words.BinaryWord.{BinaryWord}
use Rattle.data_words.specs.declared.words.DivideWord.{DivideWord}

abbrev pub stack_number : StackWord → ℕ
stack_number StackWord.Dup = 1
stack_number StackWord.Drop = 2
stack_number StackWord.Swap = 3
stack_number StackWord.Over = 4
stack_number StackWord.Rot = 5
stack_number StackWord.QuestionDup = 6
stack_number StackWord.Pick = 8
stack_number StackWord.Roll = 9

abbrev pub leaving_number : LeavingWord → ℕ
leaving_number LeavingWord.Depth = 7
leaving_number LeavingWord.Base = 41
leaving_number LeavingWord.Pad = 44
leaving_number LeavingWord.Here = 45

abbrev pub binary_number : BinaryWord → ℕ
binary_number BinaryWord.Plus = 10
binary_number BinaryWord.Minus = 11
binary_number BinaryWord.Times = 12
binary_number BinaryWord.Min = 22
binary_number BinaryWord.Max = 23
binary_number BinaryWord.And = 24
binary_number BinaryWord.Or = 25
binary_number BinaryWord.Xor = 26
binary_number BinaryWord.Equal = 28
binary_number BinaryWord.Less = 29
binary_number BinaryWord.Greater = 30
binary_number BinaryWord.UnsignedLess = 33

abbrev pub divide_number : DivideWord → ℕ
divide_number DivideWord.Slash = 13
divide_number DivideWord.Mod = 14
divide_number DivideWord.SlashMod = 15
divide_number DivideWord.TimesSlash = 16

abbrev pub unary_number : UnaryWord → ℕ
unary_number UnaryWord.OnePlus = 17
unary_number UnaryWord.OneMinus = 18
unary_number UnaryWord.TwoSlash = 19
unary_number UnaryWord.Negate = 20
unary_number UnaryWord.Abs = 21
unary_number UnaryWord.Not = 27
unary_number UnaryWord.ZeroEqual = 31
unary_number UnaryWord.ZeroLess = 32
