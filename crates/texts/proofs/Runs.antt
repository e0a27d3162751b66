-- Runs of bytes.
use Rattle.std.proofs.Common.{◌≡◌, ℕ, suc, ◌+◌, Bool, true, false, cond, not, List, [], ◌∷◌, drop, refl, ap, ◌∙◌, arith}
use Rattle.std.specs.List.{prefix_len}
use Rattle.definition.specs.Text.{separates, gap, word_length}
use Rattle.texts.specs.Texts.{other}

-- the separators that come first, and the other bytes
pub gap_is : (xs : List ℕ) → gap xs ≡ prefix_len separates xs
gap_is [] = refl
gap_is (x ∷ xs) =
    let e = gap_is xs in
    elim (separates x) as (λ v. (elim v as (λ _. ℕ) [ true ↦ suc (gap xs) | false ↦ 0 ]) ≡ cond v (1 + prefix_len separates xs) 0) [ true ↦ omega arith | false ↦ refl ]

pub word_is : (xs : List ℕ) → word_length xs ≡ prefix_len other xs
word_is [] = refl
word_is (x ∷ xs) =
    let e = word_is xs in
    elim (separates x) as (λ v. (elim v as (λ _. ℕ) [ true ↦ 0 | false ↦ suc (word_length xs) ]) ≡ cond (not v) (1 + prefix_len other xs) 0) [ true ↦ refl | false ↦ omega arith ]

-- the run that comes first in the rest of a text
pub run_in : (p : ℕ → Bool) (n f g : ℕ) (rest xs ys : List ℕ) → n ≡ prefix_len p rest → rest ≡ drop f xs → f ≡ g → xs ≡ ys → n ≡ prefix_len p (drop g ys)
run_in p n f g rest xs ys e d a b = e ∙ ap (prefix_len p) (d ∙ ap (λ z. drop z xs) a ∙ ap (drop g) b)

-- where it ends in the text
pub run_ends : (p : ℕ → Bool) (f n : ℕ) (rest xs : List ℕ) → n ≡ prefix_len p rest → rest ≡ drop f xs → f + n ≡ f + prefix_len p (drop f xs)
run_ends p f n rest xs e d = ap (λ z. f + z) (e ∙ ap (prefix_len p) d)
