-- Lines typed after boot, and what they do.
use Rattle.std.specs.Prelude.{◌≡◌, true, List, [], ◌∷◌, map, ℕ, codes, replicate}
use Prim.Native.String.{String}
use Rattle.fault.specs.Numbers.{number_of}
use Rattle.store.specs.Meaning.{Meaning}
use Rattle.image.specs.Cells.{zeros}
use Rattle.definition.specs.Machine.{Machine, dp, here}
use Rattle.definition.specs.Boot.{boot}
use Rattle.definition.specs.Run
use Rattle.definition.specs.Run.{End, Report, run}
use Rattle.definition.specs.Calls.{lined}

-- a memory card of 16 zero blocks
abbrev pub card : Meaning
card = record { count = 16; writable = true; blocks = replicate 16 (zeros 1024) }

-- how a line ends: a fault by its number
pub data Ends : Type 0 where
  finished stopped : Ends
  fault : ℕ → Ends

abbrev end_of : End → Ends
end_of Run.finished = finished
end_of Run.stopped = stopped
end_of (Run.faulted f) = fault (number_of f.reason)

-- what is seen of a line: how it ends, what it types, its steps, and DP and HERE behind it
pub record Seen : Type 0 where
  pub end : Ends
  pub typed : List ℕ
  pub steps : ℕ
  pub dp_after : ℕ
  pub here_after : ℕ

abbrev seen : Report → Seen
seen r = record { end = end_of r.end; typed = r.typed; steps = r.steps; dp_after = dp r.machine; here_after = here r.machine }

pub record Line : Type 0 where
  pub text : String
  pub sees : Seen

abbrev line : String → Ends → String → ℕ → ℕ → ℕ → Line
line t e o n d h = record { text = t; sees = record { end = e; typed = codes o; steps = n; dp_after = d; here_after = h } }

-- after boot DP is 1,618 and HERE 34,048
abbrev pub lines : List Line
lines =
    line "2 3 + ." finished "5 " 5 1618 34048 ∷
    line "-7 2 /MOD . ." finished "-4 1 " 6 1618 34048 ∷
    line "-32768 -1 /" (fault 17) "" 3 1618 34048 ∷
    line "65535 ." finished "-1 " 3 1618 34048 ∷
    line ": SQ DUP * ; 4 SQ ." finished "16 " 11 1635 34048 ∷
    line ": V -3 0 DO I . -1 +LOOP ; V" finished "0 -1 -2 -3 " 31 1654 34048 ∷
    line "VARIABLE X FORGET X" finished "" 3 1618 34048 ∷
    line "31487 ALLOT" finished "" 3 1618 65535 ∷
    []

-- on a machine, with budget and typing space to spare
unfoldable pub seen_on : Machine → Line → Seen
seen_on m l = seen (run 1000 1000 (lined (codes l.text) m))

-- each line does what it should
abbrev pub LinesStand : Type 0
LinesStand = map (seen_on (boot card)) lines ≡ map (λ l. l.sees) lines
