-- One step: the first of four rules that applies.
use Rattle.std.specs.Prelude.{ℕ, Bool, true, false, not, ◌&&◌, List, [], ◌∷◌, Some, None, Option, ◌==◌, if◌then◌else◌}
use Rattle.fault.specs.declared.Reason.{Reason}
use Rattle.fault.specs.declared.Reason.TheVariants.{BadName, BadToken}
use Rattle.image.specs.Cells.{cell}
use Rattle.entries.specs.Entries.{token_of, is_immediate}
use Rattle.dictionary.specs.Search.{searched}
use Rattle.definition.specs.declared.registers.Position.{Position}
use Rattle.definition.specs.Machine.{Machine, ip, blk, reading, dict_of}
use Rattle.definition.specs.Asked.{Asked, refused, given, ask, ◌>>=◌, ◌>>◌, After, quietly}
use Rattle.definition.specs.Text.{Taken, next_word, no_word_left, is_name, ask_found, ask_there}
use Rattle.numbers.specs.Text.{number_in}
use Rattle.definition.specs.Stacks.{replaced}
use Rattle.definition.specs.Space.{base}
use Rattle.definition.specs.Blocks.{is_held, brought}
use Rattle.definition.specs.Compile.{appends, literal_of}
use Rattle.definition.specs.Flow.{has_inline, inline, past}
use Rattle.definition.specs.Words.{execute}

-- the kind of word taken: a token, immediate or plain, or a number
pub data Word : Type 0 where
  immediate plain number : ℕ → Word

abbrev found_word : ℕ → Machine → Word
found_word e m =
    if is_immediate m.low e then immediate (token_of m.low e) else plain (token_of m.low e)

abbrev pub word_of : List ℕ → Option ℕ → Machine → Asked Word
word_of bytes (Some e) m = given (found_word e m)
word_of bytes None m = do
  n ← ask_there m (number_in (base m) bytes)
  given (number n)

-- what happens depends on the compiling flag and on the word
abbrev pub acted : Bool → Word → Machine → Asked After
acted false (immediate t) m = execute t m
acted false (plain t) m = execute t m
acted false (number n) m = replaced 0 (n ∷ []) m
acted true (immediate t) m = execute t m
acted true (plain t) m = appends (cell t) m
acted true (number n) m = appends (literal_of n) m

abbrev pub interpreted : Taken → Asked After
interpreted t = do
  let m = t.machine
  ask m BadName (is_name t.bytes)
  found ← ask_found m (searched (dict_of m) t.bytes)
  word ← word_of t.bytes found m
  acted m.flow.compiling word m

-- a step goes on, having typed bytes and with its news; or it finishes the line; or it faults, with the machine as the question found it
pub data Outcome : Type 0 where
  went : After → Outcome
  finished : Machine → Outcome
  failed : Reason → Machine → Outcome

abbrev pub outcome : Asked After → Outcome
outcome (refused why m) = failed why m
outcome (given a) = went a

-- 1. IP is 0, BLK is not 0, block BLK is not held
abbrev pub needs_block : Machine → Bool
needs_block m = not (blk m == 0) && not (is_held (blk m) m)

abbrev pub bringing : Machine → Asked After
bringing m = do
  m' ← brought (blk m) m
  quietly m'

-- 2. IP is 0 and no word is left: a load ends and its caller goes on, or the line is finished
abbrev pub ended : List Position → Machine → Outcome
ended [] m = finished m
ended (l ∷ ls) m = outcome (quietly (reading l m.text.source.word ls m))

-- 3. IP is 0: a word is taken, if neither 1 nor 2 applies
abbrev pub from_text : Machine → Outcome
from_text m =
    if needs_block m then outcome (bringing m)
    else (if no_word_left m then ended m.text.loads m
    else outcome (interpreted (next_word m)))

-- 4. IP is not 0: the token at IP is taken, 2 added to IP, and the token executed
abbrev pub from_tokens : Machine → Asked After
from_tokens m = do
  ask m BadToken (has_inline m)
  execute (inline m) (past m)

unfoldable pub step : Machine → Outcome
step m = if ip m == 0 then from_text m else outcome (from_tokens m)
