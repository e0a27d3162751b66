-- Changes of the dictionary that need space.
use Rattle.std.specs.Prelude.{ℕ, List, Result}
use Rattle.fault.specs.declared.Fault.{Fault}
use Rattle.fault.specs.declared.Reason.TheVariants.{DictionaryFull}
use Rattle.store.specs.Meaning.{Meaning}
use Rattle.dictionary.specs.Dict.{Dict}
use Rattle.definition.specs.declared.registers.Mark.{Mark}
use Rattle.definition.specs.declared.ranged.Registers.{Registers}
use Rattle.definition.specs.Machine.{Machine, changed}
use Rattle.definition.specs.Asked.{Asked, ask, ◌>>◌, After, quietly}
use Rattle.definition.specs.Define.{fits}
use Rattle.steps.specs.Does.{seen, Does}

-- the dictionary is changed by f, if n bytes have space
abbrev pub in_space : ℕ → (Dict → Dict) → Machine → Asked After
in_space n f m = ask m DictionaryFull (fits n m) >> quietly (changed f m)

-- so it was, whatever the stacks and the store hold
abbrev pub InSpace : ℕ → (Dict → Dict) → Registers → List ℕ → Result (Unit {0}) Fault → Registers → List ℕ → Type 0
InSpace n f r i o r' i' = (c t : List ℕ) (k : List Mark) (s : Meaning) → Does (in_space n f) (seen r i c t k s) o (seen r' i' c t k s)
