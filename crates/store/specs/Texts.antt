-- What a text card means: a card over lines of text.
use Rattle.std.specs.Prelude.{◌≡◌, ℕ, ◌+◌, ◌-◌, ◌*◌, ◌/◌, ◌<◌, Bool, true, false, cond, ◌&&◌, List, [], ◌∷◌, ◌++◌, length, take, drop, replicate, ◌==◌, nat_le, slice_index_or}
use Rattle.store.specs.Meaning.{Meaning, block}
use Rattle.store.specs.Cards.{card_of}

-- a byte before the first line belongs to that line, and is a line where there is none.
abbrev pub before : ℕ → List (List ℕ) → List (List ℕ)
before b [] = (b ∷ []) ∷ []
before b (line ∷ lines) = (b ∷ line) ∷ lines

-- the lines of a text: each ends at a byte 10, the last at it or at the end of the text
unfoldable pub lines_of : List ℕ → List (List ℕ)
lines_of [] = []
lines_of (b ∷ text) = cond (b == 10) ([] ∷ lines_of text) (before b (lines_of text))

-- the bytes, with blanks behind them to n bytes
abbrev pub padded : ℕ → List ℕ → List ℕ
padded n bytes = bytes ++ replicate (n - length bytes) 32

-- the lines one behind the other, 64 bytes each
abbrev pub laid_out : List (List ℕ) → List ℕ
laid_out [] = []
laid_out (line ∷ lines) = padded 64 line ++ laid_out lines

-- how many blocks so many lines take, sixteen a block
abbrev pub blocks_for : ℕ → ℕ
blocks_for lines = (lines + 15) / 16

-- is each line at most 64 bytes?
abbrev pub all_fit : List (List ℕ) → Bool
all_fit [] = true
all_fit (line ∷ lines) = nat_le (length line) 64 && all_fit lines

-- Are its lines at most 64 bytes, in at most 65,535 blocks?
abbrev pub is_text_card : List ℕ → Bool
is_text_card text = all_fit (lines_of text) && nat_le (blocks_for (length (lines_of text))) 65535

-- how many blocks a text has; none where the answer is no
abbrev pub text_blocks : List ℕ → ℕ
text_blocks text = cond (is_text_card text) (blocks_for (length (lines_of text))) 0

-- its blocks are the lines laid out and padded to whole blocks; it is not writable
abbrev pub text_card : List ℕ → Meaning
text_card text = card_of false (text_blocks text) (padded (1024 * blocks_for (length (lines_of text))) (laid_out (lines_of text)))

-- line k of block b is line 16 · b + k of the text, padded with blanks; blanks where there is no such line
abbrev pub LinesInBlocks : List ℕ → Type 0
LinesInBlocks text =
    (b k : ℕ) → b < (text_card text).count → k < 16
    → take 64 (drop (64 * k) (block (text_card text) b)) ≡ padded 64 (slice_index_or (lines_of text) (16 * b + k) [])
