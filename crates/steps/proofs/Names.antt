-- A name taken from the text.
use Rattle.std.proofs.Common.{◌≡◌, ℕ, Bool, true, false, ltb, length, sym, ap, arith}
use Rattle.fault.specs.declared.Reason.TheVariants.{NothingFollows, BadName}
use Rattle.definition.specs.Machine.{Machine, dict_of}
use Rattle.definition.specs.Asked.{given, ask, ◌>>◌}
use Rattle.definition.specs.Text.{Taken, next_word, is_name, take_name}

-- it leaves the dictionary
pub same_dict : (m : Machine) (t : Taken) → take_name m ≡ given t → dict_of t.machine ≡ dict_of m
same_dict m t h = at (ltb 0 (length (next_word m).bytes)) (is_name (next_word m).bytes) h
  where
    at : (b c : Bool) → (ask m NothingFollows b >> (ask (next_word m).machine BadName c >> given (next_word m))) ≡ given t → dict_of t.machine ≡ dict_of m
    at false c e = let z : ◌≡◌ {A = ℕ} 0 1 = cc in absurd (omega arith)
    at true false e = let z : ◌≡◌ {A = ℕ} 0 1 = cc in absurd (omega arith)
    at true true e = let z : next_word m ≡ t = cc in ap (λ (y : Taken). dict_of y.machine) (sym z)
