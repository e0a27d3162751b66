-- Where text goes on.
use Rattle.std.specs.Prelude.{◌≡◌, ℕ, Bool, true, false, not, ◌&&◌, List, ◌==◌, nat_lt}
use Rattle.store.specs.Meaning.{Meaning}
use Rattle.definition.specs.declared.registers.Mark.{Mark}
use Rattle.definition.specs.declared.registers.Loads.{Loads}
use Rattle.definition.specs.declared.registers.Position.{Position}
use Rattle.definition.specs.declared.registers.Seat.{Seat}
use Rattle.definition.specs.declared.ranged.Registers.{Registers}
use Rattle.definition.specs.Asked.{quietly}
use Rattle.definition.specs.Step.{finished, outcome, ended}
use Rattle.steps.specs.Does.{seen}

-- LOAD takes a block that is not 0, while fewer than eight loads are open
abbrev pub loadable : ℕ → ℕ → Bool
loadable blk count = not (blk == 0) && nat_lt count 8

-- text goes on at p, with these loads
abbrev pub from : Position → Loads → Seat → Seat
from p l t = record {
  order = t.order;
  flow = t.flow;
  depths = t.depths;
  source = record { length = t.source.length; position = p; word = t.source.word };
  loads = l;
}

-- No word was left: the innermost load ended, or there was none, and nothing changed.
abbrev pub EndsLoad : Registers → Bool → Registers → Type 0
EndsLoad r true r' =
    (i c t : List ℕ) (k : List Mark) (s : Meaning) → ended (seen r i c t k s).text.loads (seen r i c t k s) ≡ outcome (quietly (seen r' i c t k s))
EndsLoad r false r' =
    ((i c t : List ℕ) (k : List Mark) (s : Meaning) → ended (seen r i c t k s).text.loads (seen r i c t k s) ≡ finished (seen r i c t k s)) × (r' ≡ r)
