use Rattle.std.proofs.Common.{◌≡◌, ℕ, List, Ok}
use Rattle.store.specs.Meaning.{Meaning}
use Rattle.definition.specs.declared.registers.Mark.{Mark}
use Rattle.definition.specs.Words.{execute}
use Rattle.steps.specs.Does.{seen}
use Rattle.executing.specs.Tokens.{IsFound, Released}
use Rattle.executing.proofs.tokens.through_execute.Given as goal

-- executing the first token comes to executing the one found so far
abbrev pub invariant-execute : goal.invariant-execute
invariant-execute l =
    Released l.initial.registers l.registers × IsFound l.registers l.image l.found.token (Ok l.found)
    × ((e : List ℕ) (k : List Mark) (s : Meaning) → execute l.initial.token (seen l.initial.registers l.image l.cells e k s) ≡ execute l.found.token (seen l.registers l.image l.cells e k s))

abbrev pub decreases-execute : goal.decreases-execute
decreases-execute l = l.registers.seat.depths.cells
