-- Where the text lies in the image, and what is taken from it.
use Rattle.std.specs.Prelude.{◌≡◌, ℕ, ◌+◌, ◌≤◌, Bool, true, false, cond, not, List, take, drop, ◌==◌}
use Rattle.store.specs.Meaning.{Meaning}
use Rattle.definition.specs.declared.registers.Mark.{Mark}
use Rattle.definition.specs.declared.registers.LastWord.{LastWord}
use Rattle.definition.specs.declared.registers.Seat.{Seat}
use Rattle.definition.specs.declared.ranged.Registers.{Registers}
use Rattle.definition.specs.Text.{separates, next_word, no_word_left}
use Rattle.steps.specs.Does.{seen}

-- the line at 128 while BLK is 0, else the block buffer at 33,024
abbrev pub text_start : Seat → ℕ
text_start t = cond (t.source.position.blk == 0) 128 33024

abbrev pub text_length : Seat → ℕ
text_length t = cond (t.source.position.blk == 0) t.source.length 1024

abbrev pub text_in : Seat → List ℕ → List ℕ
text_in t image = take (text_length t) (drop (text_start t) image)

-- the bytes of the last word, which lies in the text
abbrev pub word_in : Seat → List ℕ → List ℕ
word_in t image = take t.source.word.length (drop t.source.word.start (text_in t image))

abbrev pub WordInside : Seat → Type 0
WordInside t = t.source.word.start + t.source.word.length ≤ text_length t

-- a byte of a word
abbrev pub other : ℕ → Bool
other b = not (separates b)

-- another byte than b
abbrev pub differs : ℕ → ℕ → Bool
differs b x = not (x == b)

-- text goes on at >IN, and w was the last word
abbrev pub read_to : ℕ → LastWord → Seat → Seat
read_to n w t = record { order = t.order; flow = t.flow; depths = t.depths; source = record { length = t.source.length; position = record { blk = t.source.position.blk; offset = n }; word = w }; loads = t.loads }

-- Each speaks of the machine in registers and image, whatever the stacks and the store hold.

-- w is where the next word lies
abbrev pub NextIs : Registers → List ℕ → LastWord → Type 0
NextIs r i w = (c t : List ℕ) (k : List Mark) (s : Meaning) → (next_word (seen r i c t k s)).machine.text.source.word ≡ w

-- none was left
abbrev pub NoneLeft : Registers → List ℕ → Registers → Type 0
NoneLeft r i r' = (r' ≡ r) × ((c t : List ℕ) (k : List Mark) (s : Meaning) → no_word_left (seen r i c t k s) ≡ true)

-- a word was left and was taken: these bytes of the text
abbrev pub TookWord : Registers → List ℕ → List ℕ → Registers → Type 0
TookWord r i word r' = WordInside r'.seat × (word ≡ word_in r'.seat i) × ((c t : List ℕ) (k : List Mark) (s : Meaning) → (no_word_left (seen r i c t k s) ≡ false) × (next_word (seen r i c t k s) ≡ record { machine = seen r' i c t k s; bytes = word_in r'.seat i }))
