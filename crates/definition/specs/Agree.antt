-- Two machines agree in all but what is free, register by register and address by address.
use Rattle.std.specs.Prelude.{◌≡◌, ℕ, ◌<◌, false, slice_index, slice_index_or}
use Rattle.store.specs.Meaning.{Meaning}
use Rattle.dictionary.specs.Lent.{dict_in}
use Rattle.definition.specs.declared.ranged.Registers.{Registers}
use Rattle.definition.specs.declared.registers.Kind.TheVariants.{If}
use Rattle.definition.specs.declared.registers.Mark.{Mark}
use Rattle.definition.specs.Ranges.{load_at}
use Rattle.definition.specs.Machine.{dict_of}
use Rattle.definition.specs.View.{Lent, Whole, is_free, view_of}

abbrev pub no_mark : Mark
no_mark = record { kind = If; address = 0 }

pub record Agree (r : Registers) (l : Lent) (r' : Registers) (l' : Lent) : Type 0 where
  pub shared : r.shared ≡ r'.shared
  pub order : r.seat.order ≡ r'.seat.order
  pub flow : r.seat.flow ≡ r'.seat.flow
  pub depths : r.seat.depths ≡ r'.seat.depths
  pub source : r.seat.source ≡ r'.seat.source
  pub open_loads : r.seat.loads.count ≡ r'.seat.loads.count
  pub loads : (k : ℕ) → k < r.seat.loads.count → load_at r.seat.loads k ≡ load_at r'.seat.loads k
  pub bytes : (a : ℕ) → a < 65536 → is_free r.shared a ≡ false → slice_index l.image a ≡ slice_index l'.image a
  pub cells : (k : ℕ) → k < r.seat.depths.cells → slice_index l.cells k ≡ slice_index l'.cells k
  pub returns : (k : ℕ) → k < r.seat.depths.returns → slice_index l.returns k ≡ slice_index l'.returns k
  pub marks : (k : ℕ) → k < r.seat.depths.marks → slice_index_or l.marks k no_mark ≡ slice_index_or l'.marks k no_mark

-- the dictionary of the view is the one that the dictionary's own registers make of the image
abbrev pub ViewDictionary : Type 0
ViewDictionary =
    (r : Registers) (l : Lent) (s : Meaning) → Whole l → dict_of (view_of r.shared r.seat l s) ≡ dict_in r.shared.ends r.shared.names r.seat.order l.image

-- machines agree and have equal stores exactly if their views are equal
pub record SameView (r : Registers) (l : Lent) (s : Meaning) (r' : Registers) (l' : Lent) (s' : Meaning) : Type 0 where
  pub seen : Agree r l r' l' → s ≡ s' → view_of r.shared r.seat l s ≡ view_of r'.shared r'.seat l' s'
  pub agree : view_of r.shared r.seat l s ≡ view_of r'.shared r'.seat l' s' → Agree r l r' l'
  pub store : view_of r.shared r.seat l s ≡ view_of r'.shared r'.seat l' s' → s ≡ s'

abbrev pub AgreeIsEqualViews : Type 0
AgreeIsEqualViews =
    (r : Registers) (l : Lent) (s : Meaning) (r' : Registers) (l' : Lent) (s' : Meaning) → Whole l → Whole l' → SameView r l s r' l' s'
