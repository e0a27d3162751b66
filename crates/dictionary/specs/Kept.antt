-- What stays if the open entry is given up.
use Rattle.std.specs.Prelude.{ℕ, ◌-◌, cond, ◌==◌}

-- where the dictionary then ends: at the open entry's beginning, or at DP if none is open
abbrev pub kept_end : ℕ → ℕ → ℕ
kept_end dp opened = cond (opened == 0) dp (opened - 2)
