use Rattle.numbers.proofs.Reading.{Left}
use Rattle.numbers.proofs.read_digits.Given as goal

-- what is left to read is worth the whole
abbrev pub invariant-loop-byte : goal.invariant-loop-byte
invariant-loop-byte l = Left l.base l.text l.value l.byte-index
