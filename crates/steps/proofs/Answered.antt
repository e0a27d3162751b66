-- A question of dictionary space, answered.
use Rattle.std.proofs.Common.{◌≡◌, Bool, true, false, sym, refl, ap, subst}
use Rattle.fault.specs.declared.Fault.{Fault}
use Rattle.fault.specs.declared.Reason.TheVariants.{DictionaryFull}
use Rattle.definition.specs.Machine.{Machine, told}
use Rattle.definition.specs.Asked.{Asked, refused, given, ask, ◌>>◌, After, quietly}
use Rattle.definition.specs.Run.{cleared}
use Rattle.steps.specs.Does.{IsRefused}

Refused : Asked After → Type 0
Refused (refused why m) = Unit {0}
Refused (given a) = ⊥

left_by : Asked After → Machine → Machine
left_by (refused why m) d = d
left_by (given a) d = a.machine

-- a yes, and what is left
pub spaced : (b : Bool) (m m' m1 : Machine) → (ask m DictionaryFull b >> quietly m') ≡ quietly m1 → (b ≡ true) × (m1 ≡ m')
unfolding Refused left_by
spaced true m m' m1 e = (refl, sym (ap (λ x. left_by x m) e))
spaced false m m' m1 e = absurd (subst Refused e tt)

-- a no, whatever was to follow
pub full_stays : (b : Bool) (m m' : Machine) (y : Asked After) (e : Fault) → IsRefused (ask m DictionaryFull b >> quietly m') e m → IsRefused (ask m DictionaryFull b >> y) e m
full_stays true m m' y e h = absurd h
full_stays false m m' y e h = h

-- a no of a machine of which a fault tells and leaves the same
pub full_like : (b : Bool) (m m' n : Machine) (y : Asked After) (e : Fault) → told n ≡ told m → cleared n ≡ cleared m → IsRefused (ask m DictionaryFull b >> quietly m') e m → IsRefused (ask n DictionaryFull b >> y) e m
full_like true m m' n y e p q h = absurd h
full_like false m m' n y e p q h = (rw p h.0, q)
