-- Laws of the lines of a text, taken one by one from its front.
use Rattle.std.proofs.Common.{◌≡◌, ℕ, suc, ◌<◌, ◌≤◌, true, false, cond, ◌&&◌, eqb, leb, ltb, List, [], ◌∷◌, length, get_or, Option, refl, ap, ⊎_elim, ltb-false, ltb-true, arith}
use Rattle.std.proofs.lemmas.List.{get_or_past, nil_from_length}
use Rattle.std.proofs.lemmas.List.Sums.{fails_before_first, passes_at_first}
use Rattle.std.proofs.lemmas.Bool.{cases_lt}
use Rattle.std.proofs.lemmas.Bool.Decides.{leb_tells}
use Rattle.std.specs.List.{list_all, position, position_or_len}
use Rattle.store.specs.Lines.{FirstLongLine}
use Rattle.store.specs.Texts.{all_fit, before, lines_of}
use Rattle.store.specs.Cutting.{behind_first, first_line}

-- a text that is not empty is its first line, then the lines behind it
pub lines_step : (text : List ℕ) → 0 < length text → lines_of text ≡ first_line text ∷ lines_of (behind_first text)
unfolding lines_of
lines_step [] h = absurd (omega arith)
lines_step (b ∷ []) h =
    elim (eqb b 10) as (λ e. cond e ([] ∷ []) ((b ∷ []) ∷ []) ≡ cond e [] (b ∷ []) ∷ lines_of (cond e [] []))
    [ true ↦ refl | false ↦ refl ]
lines_step (b ∷ (d ∷ text)) h =
    let i : lines_of (d ∷ text) ≡ first_line (d ∷ text) ∷ lines_of (behind_first (d ∷ text)) = lines_step (d ∷ text) (omega arith) in
    elim (eqb b 10) as (λ e. cond e ([] ∷ lines_of (d ∷ text)) (before b (lines_of (d ∷ text))) ≡ cond e [] (b ∷ first_line (d ∷ text)) ∷ lines_of (cond e (d ∷ text) (behind_first (d ∷ text))))
    [ true ↦ refl | false ↦ ap (before b) i ]

-- no lines are left of an empty text
pub lines_none : (rest : List ℕ) → length rest ≡ 0 → lines_of rest ≡ []
unfolding lines_of
lines_none rest h = ap lines_of (nil_from_length rest h)

-- a text has no more lines than bytes
before_few : (b : ℕ) (lines : List (List ℕ)) → length (before b lines) ≤ suc (length lines)
before_few b [] = omega arith
before_few b (line ∷ lines) = omega arith

pub few_lines : (text : List ℕ) → length (lines_of text) ≤ length text
unfolding lines_of
few_lines [] = omega arith
few_lines (b ∷ text) =
    let i = few_lines text in
    elim (eqb b 10) as (λ e. length (cond e ([] ∷ lines_of text) (before b (lines_of text))) ≤ suc (length text))
    [ true ↦ omega arith | false ↦ omega (arith, before_few b (lines_of text)) ]

-- each line fits where each line up to the last does
all_short : (lines : List (List ℕ)) (p : ℕ) → length lines ≤ p → ((k : ℕ) → k < p → length (get_or lines k []) ≤ 64) → (k : ℕ) → length (get_or lines k []) ≤ 64
all_short lines p h short k =
    ⊎_elim (λ l. short k l) (λ l. let e : length (get_or lines k []) ≡ 0 = ap length (get_or_past lines k [] (omega arith)) in omega arith) (cases_lt k p)

-- the first line that is too long, by the first place at which the test passes
pub first_long : (text : List ℕ) (r : Option ℕ) → r ≡ position (λ line. ltb 64 (length line)) (lines_of text) → FirstLongLine text r
first_long text r e =
    let lines = lines_of text in
    let p = λ (line : List ℕ). ltb 64 (length line) in
    let k = position_or_len p lines in
    let short : (j : ℕ) → j < k → length (get_or lines j []) ≤ 64 = λ j h. ltb-false 64 (length (get_or lines j [])) (fails_before_first p lines j [] h) in
    ⊎_elim
    (λ y. rw (e, y.0) (y.1, ltb-true 64 (length (get_or lines k [])) (passes_at_first p lines [] y.1), short))
    (λ y. rw (e, y.0) (all_short lines k (omega (arith, y.1)) short))
    (leb_tells (suc k) (length lines))

-- each line fits where the test passes on all
pub fits_all : (lines : List (List ℕ)) → list_all (λ line. leb (length line) 64) lines ≡ all_fit lines
fits_all [] = refl
fits_all (line ∷ lines) = ap (λ b. leb (length line) 64 && b) (fits_all lines)
