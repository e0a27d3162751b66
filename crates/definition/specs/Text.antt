-- Words and strings taken from the text.
use Rattle.std.specs.Prelude.{ℕ, suc, ◌+◌, min, Bool, true, false, ◌&&◌, List, [], ◌∷◌, length, take, drop, Some, None, Option, ◌==◌, nat_le, nat_lt, if◌then◌else◌}
use Rattle.fault.specs.declared.Reason.TheVariants.{NothingFollows, BadName, BrokenLink, NotFound}
use Rattle.entries.specs.Search.{Found, missing, broken, hit}
use Rattle.definition.specs.Machine.{Machine, blk, offset, reading_on}
use Rattle.definition.specs.Asked.{Asked, refused, given, ask, ◌>>◌}

-- the block buffer, at 33,024
abbrev pub buffer_of : Machine → List ℕ
buffer_of m = take 1024 (drop 256 m.high)

-- the line if BLK is 0, else the buffer
abbrev pub text_of : Machine → List ℕ
text_of m = if blk m == 0 then take m.text.source.length m.text.line else buffer_of m

-- bytes 0 to 32 separate words
abbrev pub separates : ℕ → Bool
separates b = nat_le b 32

-- how many separators come first, and how many other bytes
abbrev pub gap : List ℕ → ℕ
gap [] = 0
gap (b ∷ bs) = elim (separates b) [ true ↦ suc (gap bs) | false ↦ 0 ]

abbrev pub word_length : List ℕ → ℕ
word_length [] = 0
word_length (b ∷ bs) = elim (separates b) [ true ↦ 0 | false ↦ suc (word_length bs) ]

pub record Taken : Type 0 where
  pub machine : Machine
  pub bytes : List ℕ

-- the next word, and >IN behind the one byte that ends it; there are no bytes where no word is left
abbrev pub next_word : Machine → Taken
next_word m =
    let rest = drop (offset m) (text_of m) in
    let start = offset m + gap rest in
    let word = drop (gap rest) rest in
    let end = min (length (text_of m)) (start + word_length word + 1) in
    record { machine = reading_on end (record { start = start; length = word_length word }) m; bytes = take (word_length word) word }

abbrev pub no_word_left : Machine → Bool
no_word_left m = length (next_word m).bytes == 0

abbrev pub all_within : ℕ → ℕ → List ℕ → Bool
all_within l h [] = true
all_within l h (b ∷ bs) = nat_le l b && nat_le b h && all_within l h bs

-- 1 to 31 bytes from 33 to 126
abbrev pub is_name : List ℕ → Bool
is_name bs = nat_le 1 (length bs) && nat_le (length bs) 31 && all_within 33 126 bs

-- a word that must be a name
abbrev pub take_name : Machine → Asked Taken
take_name m = do
  let t = next_word m
  ask m NothingFollows (nat_lt 0 (length t.bytes))
  ask t.machine BadName (is_name t.bytes)
  given t

-- the bytes before the first b, if it follows
abbrev pub before : ℕ → List ℕ → Option (List ℕ)
before b [] = None
before b (x ∷ xs) = elim (x == b) [ true ↦ Some [] | false ↦ elim (before b xs) [ None ↦ None | Some ys ↦ Some (x ∷ ys) ] ]

-- the text up to the next b, at most n bytes, and >IN behind that b
abbrev pub take_to : ℕ → ℕ → Machine → Asked Taken
take_to b n m =
    elim (before b (take (suc n) (drop (offset m) (text_of m)))) [
      | None ↦ refused NothingFollows m
      | Some bs ↦ given (record { machine = reading_on (offset m + length bs + 1) m.text.source.word m; bytes = bs })
    ]

-- a search may meet a link out of order
abbrev pub ask_found : Machine → Found → Asked (Option ℕ)
ask_found m missing = given None
ask_found m broken = refused BrokenLink m
ask_found m (hit e) = given (Some e)

abbrev pub ask_there : {A : Type 0} → Machine → Option A → Asked A
ask_there m None = refused NotFound m
ask_there m (Some e) = given e
