-- The marks as a stack.
use Rattle.std.proofs.Common.{◌≡◌, ℕ, zero, suc, ◌<◌, ◌≤◌, Bool, true, false, ◌&&◌, eqb, List, [], ◌∷◌, length, get_or, sym, refl, ap, ◌∙◌, arith}
use Rattle.std.proofs.lemmas.List.{get_or_past}
use denote.Enum.Bare.{sameb}
use Rattle.definition.specs.contracts.registers.Kind.{the_type}
use Rattle.definition.specs.declared.registers.Kind.{Kind}
use Rattle.definition.specs.declared.registers.Kind.TheVariants.{If, Begin, While, Do}
use Rattle.definition.specs.declared.registers.Mark.{Mark}
use Rattle.definition.specs.Compile.{kind_number, mark, are_marks}
use Rattle.control_words.specs.Structures.{address_at, is_mark}

same_kind : (j k : Kind) → sameb the_type j k ≡ eqb (kind_number k) (kind_number j)
same_kind If If = refl
same_kind If Begin = refl
same_kind If While = refl
same_kind If Do = refl
same_kind Begin If = refl
same_kind Begin Begin = refl
same_kind Begin While = refl
same_kind Begin Do = refl
same_kind While If = refl
same_kind While Begin = refl
same_kind While While = refl
same_kind While Do = refl
same_kind Do If = refl
same_kind Do Begin = refl
same_kind Do While = refl
same_kind Do Do = refl

and_true : (b : Bool) → (b && true) ≡ b
and_true true = refl
and_true false = refl

-- the k-th of a list that has so many
pub mark_there : (k : ℕ) (kind : Kind) (ms : List Mark) (x : Mark) → k < length ms → ((z : Mark) → x ≡ get_or ms k z) → sameb the_type x.kind kind ≡ is_mark k kind ms
mark_there k kind [] x l p = absurd (omega (arith, l))
mark_there zero kind (y ∷ ms) x l p = same_kind x.kind kind ∙ ap (λ (z : Mark). eqb (kind_number kind) (kind_number z.kind)) (p y) ∙ sym (and_true (eqb (kind_number kind) (kind_number y.kind)))
mark_there (suc k) kind (y ∷ ms) x l p = mark_there k kind ms x (omega (arith, l)) p

pub mark_past : (k : ℕ) (kind : Kind) (ms : List Mark) → length ms ≤ k → is_mark k kind ms ≡ false
mark_past zero kind [] l = refl
mark_past (suc k) kind [] l = refl
mark_past zero kind (y ∷ ms) l = absurd (omega (arith, l))
mark_past (suc k) kind (y ∷ ms) l = mark_past k kind ms (omega (arith, l))

pub address_past : (k : ℕ) (ms : List Mark) → length ms ≤ k → 0 ≡ address_at k ms
address_past k ms l = sym (ap (λ (z : Mark). z.address) (get_or_past ms k (mark If 0) l))

pub two_marks : (j k : Kind) (ms : List Mark) → (is_mark 0 j ms && is_mark 1 k ms) ≡ are_marks (j ∷ k ∷ []) ms
two_marks j k [] = refl
two_marks j k (x ∷ ms) = ap (λ b. b && are_marks (k ∷ []) ms) (and_true (eqb (kind_number j) (kind_number x.kind)))
