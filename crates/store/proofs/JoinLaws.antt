-- The lines of a text, joined again, are the text, and no other lines are.
use Rattle.std.proofs.Common.{◌≡◌, ℕ, zero, suc, ◌-◌, ◌<◌, true, false, cond, eqb, List, [], ◌∷◌, ◌++◌, length, get_or, sym, refl, ap, ◌∙◌, arith}
use Rattle.std.proofs.lemmas.Bool.{cond-false, eqb-true, eqb-false, ne_eqb}
use Rattle.store.specs.Texts.{before, lines_of}
use Rattle.store.specs.Lines.{LinesAreTheText, Unbroken, ended, missing_end}
use Rattle.store.proofs.LineLaws.{lines_step}

-- a byte other than 10 before the first line breaks none
before_unbroken : (b : ℕ) (lines : List (List ℕ)) → (b ≡ 10 → ⊥) → Unbroken lines → Unbroken (before b lines)
before_unbroken b [] n u zero zero h l e = n e
before_unbroken b [] n u zero (suc i) h l e = absurd (omega arith)
before_unbroken b [] n u (suc k) i h l e = absurd (omega arith)
before_unbroken b (line ∷ lines) n u zero zero h l e = n e
before_unbroken b (line ∷ lines) n u zero (suc i) h l e = u zero i (omega arith) (omega arith) e
before_unbroken b (line ∷ lines) n u (suc k) i h l e = u (suc k) i h l e

empty_unbroken : (lines : List (List ℕ)) → Unbroken lines → Unbroken ([] ∷ lines)
empty_unbroken lines u zero i h l e = absurd (omega arith)
empty_unbroken lines u (suc k) i h l e = u k i (omega arith) l e

lines_unbroken : (text : List ℕ) → Unbroken (lines_of text)
unfolding lines_of
lines_unbroken [] = λ k i h. absurd (omega arith)
lines_unbroken (b ∷ text) =
    let u = lines_unbroken text in
    elim (eqb b 10) as (λ t. eqb b 10 ≡ t → Unbroken (cond t ([] ∷ lines_of text) (before b (lines_of text))))
    [ true ↦ (λ t. empty_unbroken (lines_of text) u) | false ↦ (λ t. before_unbroken b (lines_of text) (eqb-false b 10 t) u) ] refl

-- a text's end lacks what the end of its rest lacks
missing_rest : (b d : ℕ) (text : List ℕ) → missing_end (b ∷ (d ∷ text)) ≡ missing_end (d ∷ text)
missing_rest b d text =
    let s : suc (suc (length text)) - 1 ≡ suc (suc (length text) - 1) = omega arith in
    ap (λ n. cond (eqb (get_or (b ∷ (d ∷ text)) n 10) 10) [] (10 ∷ [])) s

lines_ended : (text : List ℕ) → ended (lines_of text) ≡ text ++ missing_end text
unfolding lines_of
lines_ended [] = refl
lines_ended (b ∷ []) =
    elim (eqb b 10) as (λ t. eqb b 10 ≡ t → ended (cond t ([] ∷ []) ((b ∷ []) ∷ [])) ≡ b ∷ cond t [] (10 ∷ []))
    [ true ↦ (λ t. ap (λ d. d ∷ []) (sym (eqb-true b 10 t))) | false ↦ (λ t. refl) ] refl
lines_ended (b ∷ (d ∷ text)) =
    let rest : List ℕ = d ∷ text in
    let i : ended (lines_of rest) ≡ rest ++ missing_end rest = lines_ended (d ∷ text) in
    let step = lines_step rest (omega arith) in
    let m = missing_rest b d text in
    elim (eqb b 10) as (λ t. eqb b 10 ≡ t → ended (cond t ([] ∷ lines_of rest) (before b (lines_of rest))) ≡ b ∷ (rest ++ missing_end (b ∷ rest))) [
      | true ↦ (λ t. ap (λ c. c ∷ ended (lines_of rest)) (sym (eqb-true b 10 t)) ∙ ap (λ l. b ∷ l) (i ∙ ap (λ l. rest ++ l) (sym m)))
      | false ↦ (λ t.
          ap (λ l. ended (before b l)) step ∙ ap (λ l. b ∷ ended l) (sym step) ∙ ap (λ l. b ∷ l) (i ∙ ap (λ l. rest ++ l) (sym m)))
    ] refl

-- a line that holds no 10 is cut off at the 10 behind it
cut_line : (line text : List ℕ) → ((i : ℕ) → i < length line → get_or line i 0 ≡ 10 → ⊥) → lines_of (line ++ 10 ∷ text) ≡ line ∷ lines_of text
unfolding lines_of
cut_line [] text u = refl
cut_line (b ∷ line) text u =
    let n : eqb b 10 ≡ false = ne_eqb b 10 (u zero (omega arith)) in
    let i : lines_of (line ++ 10 ∷ text) ≡ line ∷ lines_of text = cut_line line text (λ i l. u (suc i) (omega arith)) in
    cond-false (eqb b 10) ([] ∷ lines_of (line ++ 10 ∷ text)) (before b (lines_of (line ++ 10 ∷ text))) n ∙ ap (before b) i

lines_back : (lines : List (List ℕ)) → Unbroken lines → lines_of (ended lines) ≡ lines
unfolding lines_of
lines_back [] u = refl
lines_back (line ∷ lines) u =
    cut_line line (ended lines) (λ i l. u zero i (omega arith) l) ∙ ap (λ l. line ∷ l) (lines_back lines (λ k i h l. u (suc k) i (omega arith) l))

pub lines_are_the_text : (text : List ℕ) → LinesAreTheText text
lines_are_the_text text = (
  record { unbroken = lines_unbroken text; whole = lines_ended text },
  λ lines r.
      sym (lines_back lines r.unbroken) ∙ ap lines_of (r.whole ∙ sym (lines_ended text)) ∙ lines_back (lines_of text) (lines_unbroken text),
)
