-- The rows of the words, and what their questions tell.
use Rattle.std.proofs.Common.{◌≡◌, ℕ, zero, suc, ◌≤◌, Bool, true, false, not, eqb, [], ◌∷◌, Ok, sym, refl, subst, arith}
use Rattle.fault.specs.declared.Reason.TheVariants.{NoDefinition}
use Rattle.store.specs.Meaning.{Meaning}
use Rattle.definition.specs.declared.ranged.Registers.{Registers}
use Rattle.definition.specs.Machine.{Machine, with_compiling}
use Rattle.definition.specs.Asked.{Asked, refused, given, ask, ◌>>◌, After, quietly}
use Rattle.definition.specs.Kernel
use Rattle.definition.specs.Words.{Argument, perform}
use Rattle.steps.specs.Does.{seen, acts}
use Rattle.steps.specs.Asking.{StateAnswers}
use Rattle.steps.proofs.States.{Asking}
use Rattle.compiling_words.specs.declared.words.CompilingWord.{CompilingWord}
use Rattle.compiling_words.specs.Numbers.{compiling_number, asks_of, switch_number}

pub compiling_rows : (w : CompilingWord) → Asking (compiling_number w) (asks_of w)
compiling_rows CompilingWord.Semicolon = record { kernel = refl; takes = refl; asks = refl }
compiling_rows CompilingWord.Definitions = record { kernel = refl; takes = refl; asks = refl }
compiling_rows CompilingWord.Immediate = record { kernel = refl; takes = refl; asks = refl }
compiling_rows CompilingWord.LeftBracket = record { kernel = refl; takes = refl; asks = refl }
compiling_rows CompilingWord.RightBracket = record { kernel = refl; takes = refl; asks = refl }
compiling_rows CompilingWord.Literal = record { kernel = refl; takes = refl; asks = refl }
compiling_rows CompilingWord.Compile = record { kernel = refl; takes = refl; asks = refl }
compiling_rows CompilingWord.Does = record { kernel = refl; takes = refl; asks = refl }
compiling_rows CompilingWord.SemicolonCode = record { kernel = refl; takes = refl; asks = refl }

pub switch_acts : (b : Bool) (again : ℕ → Machine → Asked After) (a : Argument) (m : Machine) → acts (switch_number b) again a m ≡ quietly (with_compiling b m)
unfolding perform
switch_acts true again a m = refl
switch_acts false again a m = refl

Given : Asked (Unit {0}) → Type 0
Given (refused why m) = ⊥
Given (given u) = Unit {0}

answered : Asked (Unit {0})
answered = given tt

not_none : (o : ℕ) (m : Machine) → (ask m NoDefinition (not (eqb o 0)) >> answered) ≡ answered → 1 ≤ o
unfolding Given answered
not_none zero m e = absurd (subst Given (sym e) tt)
not_none (suc o) m e = omega arith

pub is_open : (r : Registers) → StateAnswers (Kernel.has_open ∷ []) r (Ok tt) → 1 ≤ r.shared.names.opened
unfolding answered
is_open r h = let none : Meaning = record { count = 0; writable = false; blocks = [] } in not_none r.shared.names.opened (seen r [] [] [] [] none) (h [] [] [] [] none)
