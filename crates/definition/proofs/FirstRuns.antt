-- The word taken is the first run of bytes above 32 at or behind >IN.
use Rattle.std.proofs.Common.{◌≡◌, ℕ, zero, suc, ◌+◌, ◌-◌, ◌<◌, ◌≤◌, min, Bool, true, false, leb, ◌⊎◌, List, [], ◌∷◌, length, get_or, take, drop, refl, ap, ◌∙◌, subst, inl, inr, add-zero, arith, length-drop, get_or-drop, drop-drop}
use Rattle.std.proofs.lemmas.Bool.{cases_Bool, cases_lt, leb-true, leb-false}
use Rattle.definition.specs.Machine.{offset}
use Rattle.definition.specs.Text.{text_of, gap, word_length}
use Rattle.definition.specs.Laws.{FirstRun, WordTaken}

-- a separator comes first, or another byte
abbrev First : ℕ → List ℕ → Type 0
First b bs =
    ((b ≤ 32) × (gap (b ∷ bs) ≡ suc (gap bs)) × (word_length (b ∷ bs) ≡ 0))
    ⊎ ((32 < b) × (gap (b ∷ bs) ≡ 0) × (word_length (b ∷ bs) ≡ suc (word_length bs)))

first : (b : ℕ) (bs : List ℕ) → First b bs
first b bs =
    let g : Bool → ℕ = λ t. elim t [ true ↦ suc (gap bs) | false ↦ 0 ] in
    let w : Bool → ℕ = λ t. elim t [ true ↦ 0 | false ↦ suc (word_length bs) ] in
    elim (cases_Bool (leb b 32)) [
      | inl e ↦ inl (leb-true b 32 e, ap g e, ap w e)
      | inr e ↦ inr (leb-false b 32 e, ap g e, ap w e)
    ]

gap_in : (xs : List ℕ) → gap xs ≤ length xs
gap_in [] = omega arith
gap_in (b ∷ bs) = elim (first b bs) [ inl e ↦ omega (arith, e.1, gap_in bs) | inr e ↦ omega (arith, e.1) ]

gap_skips : (xs : List ℕ) (k : ℕ) → k < gap xs → get_or xs k 0 ≤ 32
gap_skips [] k h = omega arith
gap_skips (b ∷ bs) zero h = elim (first b bs) [ inl e ↦ e.0 | inr e ↦ absurd (omega (arith, e.1)) ]
gap_skips (b ∷ bs) (suc k) h =
    elim (first b bs) [ inl e ↦ gap_skips bs k (omega (arith, e.1)) | inr e ↦ absurd (omega (arith, e.1)) ]

gap_ends : (xs : List ℕ) → gap xs < length xs → 32 < get_or xs (gap xs) 0
gap_ends [] h = omega arith
gap_ends (b ∷ bs) h =
    elim (first b bs) [ inl e ↦ rw e.1 (gap_ends bs (omega (arith, e.1))) | inr e ↦ rw e.1 e.0 ]

word_in : (xs : List ℕ) → word_length xs ≤ length xs
word_in [] = omega arith
word_in (b ∷ bs) = elim (first b bs) [ inl e ↦ omega (arith, e.2) | inr e ↦ omega (arith, e.2, word_in bs) ]

word_above : (xs : List ℕ) (k : ℕ) → k < word_length xs → 32 < get_or xs k 0
word_above [] k h = omega arith
word_above (b ∷ bs) zero h = elim (first b bs) [ inl e ↦ absurd (omega (arith, e.2)) | inr e ↦ e.0 ]
word_above (b ∷ bs) (suc k) h =
    elim (first b bs) [ inl e ↦ absurd (omega (arith, e.2)) | inr e ↦ word_above bs k (omega (arith, e.2)) ]

word_ends : (xs : List ℕ) → word_length xs < length xs → get_or xs (word_length xs) 0 ≤ 32
word_ends [] h = omega arith
word_ends (b ∷ bs) h =
    elim (first b bs) [ inl e ↦ rw e.2 e.0 | inr e ↦ rw e.2 (word_ends bs (omega (arith, e.2))) ]

-- where no byte above 32 comes first, none comes at all or a separator does
word_none : (xs : List ℕ) → 0 < length xs → 32 < get_or xs 0 0 → 0 < word_length xs
word_none [] h l = omega arith
word_none (b ∷ bs) h l = elim (first b bs) [ inl e ↦ absurd (omega (arith, e.0)) | inr e ↦ omega (arith, e.2) ]

-- a byte of the text behind >IN, and behind the gap
module _ (text : List ℕ) (from : ℕ) where
  abbrev rest : List ℕ
  rest = drop from text

  abbrev word : List ℕ
  word = drop (gap rest) rest

  rest_at : (k : ℕ) → from ≤ k → get_or rest (k - from) 0 ≡ get_or text k 0
  rest_at k h = get_or-drop from text (k - from) 0 ∙ ap (λ z. get_or text z 0) (omega arith)

  word_at : (k : ℕ) → from + gap rest ≤ k → get_or word (k - (from + gap rest)) 0 ≡ get_or text k 0
  word_at k h =
      let e : gap rest + (k - (from + gap rest)) ≡ k - from = omega arith in
      get_or-drop (gap rest) rest (k - (from + gap rest)) 0 ∙ ap (λ z. get_or rest z 0) e ∙ rest_at k (omega arith)

  length_word : length word ≡ length text - (from + gap rest)
  length_word = simp length-drop (omega arith)

  -- with no word, the gap goes to the end
  no_word : word_length word ≡ 0 → length rest ≤ gap rest
  no_word e =
      elim (cases_lt (gap rest) (length rest)) [
        | inr h ↦ h
        | inl h ↦
            let c : 32 < get_or word 0 0 = rw get_or-drop (rw add-zero (gap_ends rest h)) in
            let n : 0 < length word = simp length-drop (omega (arith, length-drop from text)) in
            absurd (omega (arith, word_none word n c))
      ]

  first_run : FirstRun text from (from + gap rest) (word_length word) (min (length text) (from + gap rest + word_length word + 1))
  first_run = record {
    onward = omega arith;
    skipped = λ k h l. subst (λ b. b ≤ 32) (rest_at k h) (gap_skips rest (k - from) (omega arith));
    above = λ k h l. subst (λ b. 32 < b) (word_at k h) (word_above word (k - (from + gap rest)) (omega arith));
    inside = λ h. omega (arith, word_in word, length_word);
    ended = λ h. subst (λ b. b ≤ 32) (word_at (from + gap rest + word_length word) (omega arith)) (subst (λ z. get_or word z 0 ≤ 32) (omega arith) (word_ends word (omega (arith, length_word))));
    none = λ e k h l. subst (λ b. b ≤ 32) (rest_at k h) (gap_skips rest (k - from) (omega (arith, no_word e, length-drop from text)));
    behind_one = λ h. omega arith;
    at_end = λ h. omega arith;
  }

pub word_taken : WordTaken
word_taken m = record {
  run = first_run (text_of m) (offset m);
  bytes = ap (take (word_length (word (text_of m) (offset m)))) (drop-drop (gap (rest (text_of m) (offset m))) (offset m) (text_of m));
  others = refl;
}
