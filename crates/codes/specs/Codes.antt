-- What each code number asks for: 1 to 105 are the kernel words, 201 to 205 the other kinds.
use Rattle.std.specs.Prelude.{◌≡◌, ◌==◌, ℕ, suc, Bool, false, true, ◌&&◌, ◌||◌, nat_le, List, [], ◌∷◌}
use Rattle.block_words.specs.Buffers.{block_number}
use Rattle.compiling_words.specs.Numbers.{compiling_number}
use Rattle.control_words.specs.Numbers.{control_number}
use Rattle.data_words.specs.Numbers.{stack_number, leaving_number, unary_number, binary_number, divide_number}
use Rattle.inner_words.specs.Numbers.{returns_number, inline_number}
use Rattle.space_words.specs.Numbers.{appending_number}
use Rattle.naming_words.specs.Numbers.{naming_number}
use Rattle.space_words.specs.Numbers.{memory_number}
use Rattle.typing_words.specs.Numbers.{typing_number}
use Rattle.codes.specs.declared.code.Code.{Code}
use Rattle.codes.specs.declared.code.Code.TheVariants.{Stack, Unary, Binary, Memory, Leaving, Returns, Inline, Colon, Created, Constant, Does, Seldom}
use Rattle.codes.specs.declared.code.SeldomWord.{SeldomWord}
use Rattle.codes.specs.declared.code.SeldomWord.TheVariants.{Divide, Appending, Allot, Typing, Block, Load, ToBody, Abort, Naming, Compiling, Control, Vocabulary, Execute, Unknown}

-- is it the code of a word?
abbrev pub is_known : ℕ → Bool
is_known n = (nat_le 1 n && nat_le n 105) || (nat_le 201 n && nat_le n 205)

-- the number of a word's code; 0 where there is no word
abbrev pub seldom_number : SeldomWord → ℕ
seldom_number (Divide w) = divide_number w
seldom_number (Appending w) = appending_number w
seldom_number Allot = 46
seldom_number (Typing w) = typing_number w
seldom_number (Block w) = block_number w
seldom_number Load = 58
seldom_number ToBody = 61
seldom_number Abort = 63
seldom_number (Naming w) = naming_number w
seldom_number (Compiling w) = compiling_number w
seldom_number (Control w) = control_number w
seldom_number Vocabulary = 204
seldom_number Execute = 59
seldom_number Unknown = 0

abbrev pub number_of : Code → ℕ
number_of (Stack w) = stack_number w
number_of (Unary w) = unary_number w
number_of (Binary w) = binary_number w
number_of (Memory w) = memory_number w
number_of (Leaving w) = leaving_number w
number_of (Returns w) = returns_number w
number_of (Inline w) = inline_number w
number_of Colon = 201
number_of Created = 202
number_of Constant = 203
number_of Does = 205
number_of (Seldom w) = seldom_number w

-- what the code of a word asks for, by its number
abbrev pub SeldomCoded : ℕ → SeldomWord → Type 0
SeldomCoded n Unknown = is_known n ≡ false
SeldomCoded n w = n ≡ seldom_number w

abbrev pub Coded : ℕ → Code → Type 0
Coded n (Seldom w) = SeldomCoded n w
Coded n c = n ≡ number_of c

-- the rows stand in the order of their numbers, from n on
abbrev pub rows_from : ℕ → List Code → Bool
rows_from n [] = true
rows_from n (c ∷ l) = number_of c == n && rows_from (suc n) l

abbrev pub Rows : List Code → Type 0
Rows l = rows_from 0 l ≡ true
