-- The end of data space.
use Rattle.std.specs.Prelude.{ℕ}
use Rattle.definition.specs.declared.registers.Shared.{Shared}

-- HERE is h
abbrev pub with_here : ℕ → Shared → Shared
with_here h s = record { ends = record { dp = s.ends.dp; here = h }; names = s.names; buffer = s.buffer }
