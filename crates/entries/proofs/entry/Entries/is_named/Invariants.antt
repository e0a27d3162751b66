use Rattle.std.proofs.Common.{◌≡◌, ◌+◌, drop}
use Rattle.entries.specs.Entries.{bytes_are, is_named, spelled}
use Rattle.entries.proofs.entry.Entries.is_named.Given as goal

abbrev pub invariant-loop-i : goal.invariant-loop-i
invariant-loop-i l = is_named l.self l.entry (spelled l.name) ≡ bytes_are l.self (l.entry + 3 + l.i) (drop l.i (spelled l.name))
