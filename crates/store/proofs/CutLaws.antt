-- Laws of a text cut behind its first line.
use Rattle.std.proofs.Common.{◌≡◌, ℕ, suc, ◌+◌, ◌-◌, ◌≤◌, true, false, cond, not, eqb, List, [], ◌∷◌, length, take, drop, Some, None, Option, MatchOption, sym, refl, ap, ◌∙◌, ⊎_elim, arith}
use Rattle.std.specs.List.{position, position_or_len}
use Rattle.std.proofs.lemmas.List.{drop_all, take_rest, take_all}
use Rattle.std.proofs.lemmas.Bool.Decides.{leb_tells}
use Rattle.store.specs.Cutting.{behind_first, first_line}

take-line : (text : List ℕ) → take (length (first_line text)) text ≡ first_line text
take-line [] = refl
take-line (b ∷ text) =
    elim (eqb b 10) as (λ e. take (length (cond e [] (b ∷ first_line text))) (b ∷ text) ≡ cond e [] (b ∷ first_line text))
    [ true ↦ refl | false ↦ ap (λ t. b ∷ t) (take-line text) ]

drop-line : (text : List ℕ) → drop (suc (length (first_line text))) text ≡ behind_first text
drop-line [] = refl
drop-line (b ∷ text) =
    elim (eqb b 10) as (λ e. drop (length (cond e [] (b ∷ first_line text))) text ≡ cond e text (behind_first text))
    [ true ↦ refl | false ↦ drop-line text ]

-- the line ends where the first byte 10 is, or with the text
line_end : (text : List ℕ) → position_or_len (λ b. eqb b 10) text ≡ length (first_line text)
line_end [] = refl
line_end (b ∷ text) =
    let i = line_end text in
    elim (eqb b 10) as (λ e. cond (not e) (1 + position_or_len (λ b. eqb b 10) text) 0 ≡ length (cond e [] (b ∷ first_line text)))
    [ true ↦ refl | false ↦ omega arith ]

end_tells : (text : List ℕ) (r : Option ℕ) → r ≡ position (λ b. eqb b 10) text → MatchOption r (length text ≤ length (first_line text)) (λ n. n ≡ length (first_line text))
end_tells text r e =
    let k = position_or_len (λ b. eqb b 10) text in
    ⊎_elim
    (λ y. rw (e, y.0) (line_end text))
    (λ y. rw (e, y.0) (omega (arith, y.1, line_end text)))
    (leb_tells (suc k) (length text))

module _ (text : List ℕ) (n : ℕ) (e : Some n ≡ position (λ b. eqb b 10) text) where
  pub first_to : take n text ≡ first_line text
  first_to = rw (end_tells text (Some n) e) (take-line text)

  pub behind_from : take (length text - (n + 1)) (drop (n + 1) text) ≡ behind_first text
  behind_from =
      let m : n + 1 ≡ suc (length (first_line text)) = omega (arith, end_tells text (Some n) e) in
      take_rest text (n + 1) ∙ ap (λ i. drop i text) m ∙ drop-line text

module _ (text : List ℕ) (e : None ≡ position (λ b. eqb b 10) text) where
  pub all_first : text ≡ first_line text
  all_first = sym (take_all (length (first_line text)) text (end_tells text None e)) ∙ take-line text

  pub none_behind : ◌≡◌ {A = List ℕ} [] (behind_first text)
  none_behind = sym (drop_all (suc (length (first_line text))) text (omega (arith, end_tells text None e))) ∙ drop-line text
