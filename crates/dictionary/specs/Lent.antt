-- The dictionary in an image that is lent: its bytes up to DP, and its registers. What lies at DP and above is free.
use Rattle.std.specs.Prelude.{◌≡◌, ℕ, ◌+◌, cond, List, length, take, drop, Ok, Err, Result, nat_le}
use Rattle.fault.specs.declared.Fault.{Fault}
use Rattle.fault.specs.declared.Place.{Place}
use Rattle.fault.specs.declared.Reason.TheVariants.{DictionaryFull}
use Rattle.fault.specs.Numbers.{fault_of}
use Rattle.image.specs.Views.{low_of}
use Rattle.dictionary.specs.declared.registers.Ends.{Ends}
use Rattle.dictionary.specs.declared.registers.Names.{Names}
use Rattle.dictionary.specs.declared.registers.SearchOrder.{SearchOrder}
use Rattle.dictionary.specs.declared.registers.Dictionary.{Dictionary}
use Rattle.dictionary.specs.Dict.{Dict, dp}

abbrev pub dict_in : Ends → Names → SearchOrder → List ℕ → Dict
dict_in e n o image =
    record { low = low_of e.dp image; here = e.here; newest = n.newest; voc_link = n.voclink; context = o.context; current = o.current; opened = n.opened }

abbrev pub dict_of : Dictionary → List ℕ → Dict
dict_of r image = dict_in r.ends r.names r.order image

-- registers that change the dictionary of whatever image is lent
abbrev pub Changed : (Dict → Dict) → Dictionary → Dictionary → Type 0
Changed f d e = (image : List ℕ) → length image ≡ 65536 → dict_of e image ≡ f (dict_of d image)

-- nothing below 256 and nothing from 32,768 on is changed
pub record Outside (old new : List ℕ) : Type 0 where
  pub below : take 256 new ≡ take 256 old
  pub above : drop 32768 new ≡ drop 32768 old

-- the change to E, if n bytes more have space below 32,768; else 20
abbrev pub with_room : ℕ → Place → Dict → Dict → Result Dict Fault
with_room n told D E = cond (nat_le (dp D + n) 32768) (Ok E) (Err (fault_of DictionaryFull told))

-- a call on D that was to come to `due` answered r and left E: a refusal leaves D
abbrev pub Did : Result Dict Fault → Dict → Result (Unit {0}) Fault → Dict → Type 0
Did due D (Ok u) E = due ≡ Ok E
Did due D (Err f) E = (due ≡ Err f) × (E ≡ D)
