use Rattle.std.proofs.Common.{◌≡◌, ◌+◌, take}
use Rattle.entries.specs.Entries.{spelled}
use Rattle.dictionary.specs.Dict.{appended}
use Rattle.dictionary.specs.Lent.{Outside, dict_of}
use Rattle.dictionary.proofs.registers.Dictionary.put_name.Given as goal

abbrev pub invariant-loop-i : goal.invariant-loop-i
invariant-loop-i l = (dict_of l.self l.image ≡ appended (take l.i (spelled l.name)) (dict_of l.initial.self l.initial.image))
    × ((l.self.ends.dp ≡ l.initial.self.ends.dp + l.i) × Outside l.initial.image l.image)
