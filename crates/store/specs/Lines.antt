-- What the lines of a text are, in words that do not follow how they are cut.
use Rattle.std.specs.Prelude.{◌≡◌, ℕ, ◌-◌, ◌<◌, ◌≤◌, cond, List, [], ◌∷◌, ◌++◌, length, Option, MatchOption, ◌==◌, ◌≢◌, slice_index, slice_index_or}
use Rattle.store.specs.Texts.{lines_of}

-- the lines with a byte 10 behind each
abbrev pub ended : List (List ℕ) → List ℕ
ended [] = []
ended (line ∷ lines) = line ++ 10 ∷ ended lines

-- the byte 10 that a text lacks at its end: none where it is empty or its last byte is 10
abbrev pub missing_end : List ℕ → List ℕ
missing_end text = cond ((slice_index_or text (length text - 1) 10) == 10) [] (10 ∷ [])

-- no line holds a byte 10
abbrev pub Unbroken : List (List ℕ) → Type 0
Unbroken lines = (k i : ℕ) → k < length lines → i < length (slice_index_or lines k []) → slice_index (slice_index_or lines k []) i ≢ 10

-- the lines hold no byte 10, and with one behind each they are the text, ended
pub record LinesOfText (text : List ℕ) (lines : List (List ℕ)) : Type 0 where
  pub unbroken : Unbroken lines
  pub whole : ended lines ≡ text ++ missing_end text

-- the lines of a text are these, and no others are
abbrev pub LinesAreTheText : List ℕ → Type 0
LinesAreTheText text = LinesOfText text (lines_of text) × ((lines : List (List ℕ)) → LinesOfText text lines → lines ≡ lines_of text)

-- the first line above 64 bytes, by its place from 0
abbrev pub FirstLongLine : List ℕ → Option ℕ → Type 0
FirstLongLine text r =
    let lines = lines_of text in
    MatchOption r ((k : ℕ) → length (slice_index_or lines k []) ≤ 64)
    (λ i. (i < length lines) × (64 < length (slice_index_or lines i [])) × ((k : ℕ) → k < i → length (slice_index_or lines k []) ≤ 64))
