-- What a card with a write-protect switch means, whatever card is inside.
use Rattle.std.specs.Prelude.{Bool, ◌&&◌, not}
use Rattle.store.specs.Meaning.{Meaning, Sound}

-- the same blocks; writable when the card is and the switch is off
abbrev pub switched : Bool → Meaning → Meaning
switched locked m = record { count = m.count; writable = m.writable && not locked; blocks = m.blocks }

-- the switch changes no block, so what is sound inside is sound outside
pub switched_sound : (locked : Bool) (m : Meaning) → Sound m → Sound (switched locked m)
switched_sound locked m s = record { few = s.few; counted = s.counted; whole = s.whole }
