-- What each word acts: the kernel table, by group.
use Rattle.std.proofs.Common.{◌≡◌, ℕ, eqb, [], ◌∷◌, length, refl, if◌then◌else◌}
use Rattle.definition.specs.Machine.{Machine, here}
use Rattle.definition.specs.Asked.{Asked, After}
use Rattle.definition.specs.Kernel
use Rattle.definition.specs.Kernel.{CellsWord}
use Rattle.definition.specs.Words.{Argument, perform}
use Rattle.definition.specs.Stacks.{do_cells}
use Rattle.steps.specs.Does.{acts}
use Rattle.data_words.specs.declared.words.LeavingWord.{LeavingWord}
use Rattle.data_words.specs.declared.words.UnaryWord.{UnaryWord}
use Rattle.data_words.specs.declared.words.BinaryWord.{BinaryWord}
use Rattle.data_words.specs.Numbers.{leaving_number, unary_number, binary_number}
use Rattle.data_words.specs.Tables.{left_by, of_one, of_two}

-- the word of number n acts w
abbrev pub Acts : ℕ → CellsWord → Type 0
Acts n w = (again : ℕ → Machine → Asked After) (a : Argument) (m : Machine) → acts n again a m ≡ do_cells w m

pub leaving_acts : (w : LeavingWord) → Acts (leaving_number w) (Kernel.leaves (λ m. left_by w (length m.stacks.cells) (here m)))
unfolding perform
leaving_acts LeavingWord.Depth = λ again a m. refl
leaving_acts LeavingWord.Base = λ again a m. refl
leaving_acts LeavingWord.Pad = λ again a m. refl
leaving_acts LeavingWord.Here = λ again a m. refl

pub unary_acts : (w : UnaryWord) → Acts (unary_number w) (Kernel.one (λ x. of_one w x ∷ []))
unfolding perform
unary_acts UnaryWord.OnePlus = λ again a m. refl
unary_acts UnaryWord.OneMinus = λ again a m. refl
unary_acts UnaryWord.TwoSlash = λ again a m. refl
unary_acts UnaryWord.Negate = λ again a m. refl
unary_acts UnaryWord.Abs = λ again a m. refl
unary_acts UnaryWord.Not = λ again a m. refl
unary_acts UnaryWord.ZeroEqual = λ again a m. refl
unary_acts UnaryWord.ZeroLess = λ again a m. refl

pub binary_acts : (w : BinaryWord) → Acts (binary_number w) (Kernel.two (λ x y. of_two w x y ∷ []))
unfolding perform
binary_acts BinaryWord.Plus = λ again a m. refl
binary_acts BinaryWord.Minus = λ again a m. refl
binary_acts BinaryWord.Times = λ again a m. refl
binary_acts BinaryWord.Min = λ again a m. refl
binary_acts BinaryWord.Max = λ again a m. refl
binary_acts BinaryWord.And = λ again a m. refl
binary_acts BinaryWord.Or = λ again a m. refl
binary_acts BinaryWord.Xor = λ again a m. refl
binary_acts BinaryWord.Equal = λ again a m. refl
binary_acts BinaryWord.Less = λ again a m. refl
binary_acts BinaryWord.Greater = λ again a m. refl
binary_acts BinaryWord.UnsignedLess = λ again a m. refl

abbrev pub dup_word : CellsWord
dup_word = Kernel.one (λ a. a ∷ a ∷ [])

pub dup_acts : Acts 1 dup_word
unfolding perform
dup_acts again a m = refl

abbrev pub drop_word : CellsWord
drop_word = Kernel.one (λ a. [])

pub drop-acts : Acts 2 drop_word
unfolding perform
drop-acts again a m = refl

abbrev pub swap_word : CellsWord
swap_word = Kernel.two (λ a b. a ∷ b ∷ [])

pub swap_acts : Acts 3 swap_word
unfolding perform
swap_acts again a m = refl

abbrev pub over_word : CellsWord
over_word = Kernel.two (λ a b. a ∷ b ∷ a ∷ [])

pub over_acts : Acts 4 over_word
unfolding perform
over_acts again a m = refl

abbrev pub rot_word : CellsWord
rot_word = Kernel.three (λ a b c. a ∷ c ∷ b ∷ [])

pub rot_acts : Acts 5 rot_word
unfolding perform
rot_acts again a m = refl

abbrev pub question_dup_word : CellsWord
question_dup_word = Kernel.one (λ a. if eqb a 0 then a ∷ [] else a ∷ a ∷ [])

pub question_dup_acts : Acts 6 question_dup_word
unfolding perform
question_dup_acts again a m = refl

pub pick_acts : Acts 8 Kernel.pick
unfolding perform
pick_acts again a m = refl

pub roll_acts : Acts 9 Kernel.roll
unfolding perform
roll_acts again a m = refl

pub slash_acts : Acts 13 (Kernel.divide (λ d. d.quotient ∷ []))
unfolding perform
slash_acts again a m = refl

pub modulo_acts : Acts 14 (Kernel.divide (λ d. d.remainder ∷ []))
unfolding perform
modulo_acts again a m = refl

pub slash_mod_acts : Acts 15 (Kernel.divide (λ d. d.quotient ∷ d.remainder ∷ []))
unfolding perform
slash_mod_acts again a m = refl

pub times_slash_acts : Acts 16 Kernel.scale
unfolding perform
times_slash_acts again a m = refl
