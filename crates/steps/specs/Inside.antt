-- What lies in the dictionary.
use Rattle.std.specs.Prelude.{ℕ, ◌+◌, Bool, ◌&&◌, nat_le}

-- n bytes at a, with this DP
abbrev pub inside : ℕ → ℕ → ℕ → Bool
inside a n dp = nat_le 256 a && nat_le (a + n) dp
