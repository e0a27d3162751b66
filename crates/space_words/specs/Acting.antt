-- Which words of the table act alike.
use Rattle.std.specs.Prelude.{◌≡◌, ℕ}
use Rattle.definition.specs.Machine.{Machine}
use Rattle.definition.specs.Asked.{Asked, After}
use Rattle.definition.specs.Kernel.{SpaceWord}
use Rattle.definition.specs.Words.{Argument}
use Rattle.definition.specs.Space.{do_space}
use Rattle.steps.specs.Does.{acts}

-- the word of number v acts w
abbrev pub Acts : ℕ → SpaceWord → Type 0
Acts v w = (again : ℕ → Machine → Asked After) (a : Argument) (m : Machine) → acts v again a m ≡ do_space w m
