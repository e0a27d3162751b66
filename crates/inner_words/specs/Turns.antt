-- One turn of a loop.
use Rattle.std.specs.Prelude.{ℕ, ◌+◌, [], ◌∷◌, if◌then◌else◌}
use Rattle.definition.specs.Machine.{Machine}
use Rattle.definition.specs.Stacks.{nth_return, popped_returns, pushed_returns, go_to}
use Rattle.definition.specs.Flow.{past}
use Rattle.numbers.specs.Cells.{wrap, minus}
use Rattle.inner_words.specs.Numbers.{passes}

-- the loop ends, or goes round with n added to the index
abbrev pub turned : ℕ → ℕ → Machine → Machine
turned n start m =
    if passes (minus (nth_return 0 m) (nth_return 1 m)) n then past (popped_returns 3 m)
    else go_to start (pushed_returns (wrap (nth_return 0 m + n) ∷ []) (popped_returns 1 m))
