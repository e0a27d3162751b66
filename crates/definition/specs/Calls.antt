-- The calls. An idle machine accepts line, lookup and peek; a busy one run and abort.
use Rattle.std.specs.Prelude.{ℕ, zero, suc, ◌-◌, Bool, true, false, ◌&&◌, List, [], ◌∷◌, ◌++◌, length, Some, None, Option, ◌==◌, nat_le}
use Rattle.fault.specs.declared.Fault.{Fault}
use Rattle.fault.specs.declared.Reason.TheVariants.{WrongLength, LineTooLong, BadLookupName}
use Rattle.fault.specs.Numbers.{fault_of}
use Rattle.image.specs.Cells.{zeros}
use Rattle.dictionary.specs.Search.{searched}
use Rattle.definition.specs.declared.registers.Source.{Source}
use Rattle.definition.specs.Ranges.{line_start}
use Rattle.definition.specs.Machine.{Machine, told, with_text, dict_of}
use Rattle.definition.specs.Asked.{Asked, refused, given, ask, ◌>>◌}
use Rattle.definition.specs.Text.{is_name, ask_found}
use Rattle.definition.specs.Run
use Rattle.definition.specs.Run.{End, Report, cleared}

pub data Call : Type 0 where
  line : List ℕ → Call
  run : (budget space : ℕ) → Call
  abort : Call
  lookup : List ℕ → Call
  peek : ℕ → Call

pub data Reply : Type 0 where
  accepted : Reply
  ran : End → List ℕ → ℕ → Reply
  found : Option ℕ → Reply
  declined : Fault → Reply

-- what a call answers, whether the machine is then busy, and the machine
pub record Called : Type 0 where
  pub reply : Reply
  pub busy : Bool
  pub machine : Machine

-- Each call is lent an image of 65,536 bytes, two stacks of 128 cells and one of 32 marks; else it is declined and changes nothing.
abbrev pub right_lengths : ℕ → ℕ → ℕ → ℕ → Bool
right_lengths image cells returns marks = image == 65536 && cells == 128 && returns == 128 && marks == 32

abbrev pub wrong_lengths : Machine → Reply
wrong_lengths m = declined (fault_of WrongLength (told m))

-- does a busy machine accept it?
abbrev pub for_busy : Call → Bool
for_busy (line text) = false
for_busy (run budget space) = true
for_busy abort = true
for_busy (lookup name) = false
for_busy (peek k) = false

-- the line lies at 128, with zeros behind its last byte; before its first word, place and length are 0
abbrev pub lined : List ℕ → Machine → Machine
lined text m =
    let s : Source = record { length = length text; position = line_start; word = record { start = 0; length = 0 } } in
    with_text (record { line = text ++ zeros (128 - length text); source = s; loads = m.text.loads }) m

abbrev pub line_asked : List ℕ → Machine → Asked Machine
line_asked text m = do
  ask m LineTooLong (nat_le (length text) 128)
  given (lined text m)

-- an entry, or nothing if the search order lacks the name
unfoldable pub lookup_asked : List ℕ → Machine → Asked (Option ℕ)
lookup_asked name m = do
  ask m BadLookupName (is_name name)
  ask_found m (searched (dict_of m) name)

-- the k-th data cell, 0 the top, or nothing
abbrev nth_of : List ℕ → ℕ → Option ℕ
nth_of [] k = None
nth_of (x ∷ xs) zero = Some x
nth_of (x ∷ xs) (suc k) = nth_of xs k

abbrev pub peeked : ℕ → Machine → Option ℕ
peeked k m = nth_of m.stacks.cells k

-- a run that stopped leaves the machine busy
abbrev is_stopped : End → Bool
is_stopped Run.finished = false
is_stopped Run.stopped = true
is_stopped (Run.faulted f) = false

abbrev pub after_line : Asked Machine → Called
after_line (refused why m) = record { reply = declined (fault_of why (told m)); busy = false; machine = m }
after_line (given m) = record { reply = accepted; busy = true; machine = m }

abbrev after_run : Report → Called
after_run r = record { reply = ran r.end r.typed r.steps; busy = is_stopped r.end; machine = r.machine }

abbrev pub after_lookup : Machine → Asked (Option ℕ) → Called
after_lookup m (refused why m') = record { reply = declined (fault_of why (told m')); busy = false; machine = m }
after_lookup m (given e) = record { reply = found e; busy = false; machine = m }

unfoldable pub called : Call → Machine → Called
called (line text) m = after_line (line_asked text m)
called (run budget space) m = after_run (Run.run budget space m)
called abort m = record { reply = accepted; busy = false; machine = cleared m }
called (lookup name) m = after_lookup m (lookup_asked name m)
called (peek k) m = record { reply = found (peeked k m); busy = false; machine = m }
