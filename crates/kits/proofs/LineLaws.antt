-- Laws of blank and used lines.
use Rattle.std.proofs.Common.{◌≡◌, ℕ, zero, suc, ◌+◌, ◌*◌, ◌<◌, true, false, cond, not, ◌&&◌, eqb, ltb, List, [], ◌∷◌, length, get_or, take, drop, sym, refl, ap, ◌∙◌, arith, eq-eqb}
use Rattle.std.proofs.lemmas.Bool.Decides.{nat_tests}
use Rattle.std.proofs.lemmas.List.{drop-drop}
use Rattle.std.proofs.lemmas.List.Sums.{sum_by-cons}
use Rattle.std.specs.Simd.{first_chunks}
use Rattle.std.specs.List.{count_by}
use Rattle.kits.specs.Listing.{all_blank, line_at, used_lines, CutTo}

all_blank_lem : (bytes : List ℕ) → ((k : ℕ) → k < length bytes → get_or bytes k 0 ≡ 32) → all_blank bytes ≡ true
unfolding all_blank
all_blank_lem [] h = refl
all_blank_lem (b ∷ bs) h =
    let first : eqb b 32 ≡ true = eq-eqb b 32 (h 0 (omega arith)) in
    rw first (all_blank_lem bs (λ k l. h (suc k) (omega arith)))

one_not_blank : (bytes : List ℕ) (k : ℕ) → k < length bytes → (get_or bytes k 0 ≡ 32 → ⊥) → all_blank bytes ≡ false
unfolding all_blank
one_not_blank [] k l n = absurd (omega arith)
one_not_blank (b ∷ bs) zero l n = let e : eqb b 32 ≡ false = grind (arith, nat_tests) in rw e
one_not_blank (b ∷ bs) (suc k) l n =
    let r = one_not_blank bs k (omega arith) n in
    elim (eqb b 32) as (λ v. v && all_blank bs ≡ false) [ true ↦ r | false ↦ refl ]

pub used_if_cut : (bytes : List ℕ) (n : ℕ) → CutTo bytes n → ltb 0 n ≡ not (all_blank bytes)
used_if_cut bytes zero h = sym (ap not (all_blank_lem bytes (λ k l. h.blank k (omega arith) l)))
used_if_cut bytes (suc n) h =
    let r = one_not_blank bytes n (omega (arith, h.within)) (h.last n (omega arith)) in
    let t : ltb 0 (suc n) ≡ true = grind (arith, nat_tests) in
    t ∙ sym (ap not r)

-- how many lines are used, from the first on
used_front : (n : ℕ) (bytes : List ℕ) → used_lines (suc n) bytes ≡ cond (all_blank (take 64 bytes)) 0 1 + used_lines n (drop 64 bytes)
unfolding used_lines
used_front zero bytes = omega arith
used_front (suc n) bytes =
    let e : 64 * suc n ≡ 64 + 64 * n = omega arith in
    let line : line_at (suc n) bytes ≡ line_at n (drop 64 bytes) = ap (λ k. take 64 (drop k bytes)) e ∙ ap (take 64) (sym (drop-drop (64 * n) 64 bytes)) in
    rw line (omega (arith, used_front n bytes))

pub used_of_lines : (n : ℕ) (bytes : List ℕ) → count_by (λ line. not (all_blank line)) (first_chunks 64 n bytes) ≡ used_lines n bytes
unfolding used_lines
used_of_lines zero bytes = refl
used_of_lines (suc n) bytes =
    let line : ◌≡◌ {A = ℕ} (cond (not (all_blank (take 64 bytes))) 1 0) (cond (all_blank (take 64 bytes)) 0 1) =
    elim (all_blank (take 64 bytes)) as (λ v. ◌≡◌ {A = ℕ} (cond (not v) 1 0) (cond v 0 1)) [ true ↦ refl | false ↦ refl ] in
    sum_by-cons (λ line. cond (not (all_blank line)) 1 0) (take 64 bytes) (first_chunks 64 n (drop 64 bytes))
    ∙ omega (arith, line, used_of_lines n (drop 64 bytes), used_front n bytes)
