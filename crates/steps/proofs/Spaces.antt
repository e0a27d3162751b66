-- A call on the dictionary that asks for space, as a change of the machine.
use Rattle.std.proofs.Common.{◌≡◌, ℕ, ◌+◌, Bool, true, false, cond, leb, List, length, Ok, Err, sym, refl, ap, ◌∙◌, arith}
use Rattle.fault.specs.declared.Fault.{Fault}
use Rattle.fault.specs.declared.Place.{Place}
use Rattle.fault.specs.declared.Reason.TheVariants.{DictionaryFull}
use Rattle.fault.specs.Numbers.{fault_of}
use Rattle.store.specs.Meaning.{Meaning}
use Rattle.image.specs.Views.{low_of}
use Rattle.image.proofs.Laws.{length_low}
use Rattle.dictionary.specs.declared.registers.Dictionary.{Dictionary}
use Rattle.dictionary.specs.declared.registers.Ends.{Ends}
use Rattle.dictionary.specs.Dict.{Dict, with_low}
use Rattle.dictionary.specs.Lent as lent
use Rattle.dictionary.specs.Lent.{Outside, Did, with_room}
use Rattle.definition.specs.declared.registers.Mark.{Mark}
use Rattle.definition.specs.declared.ranged.Registers.{Registers}
use Rattle.definition.specs.Machine.{changed}
use Rattle.definition.specs.Asked.{ask, ◌>>◌, quietly}
use Rattle.steps.specs.Seats.{told_by}
use Rattle.steps.specs.Does.{seen}
use Rattle.steps.proofs.Exits.{refused_at}
use Rattle.steps.specs.Parts.{share_of, seat_with}
use Rattle.steps.proofs.Changing.{ReadOff, PutBack, dict_seen, changed_view}
use Rattle.steps.specs.Spaces.{in_space, InSpace}

no_room : (b : Bool) (D : Dict) (y e : Fault) → cond b (Ok D) (Err y) ≡ Err e → (b ≡ false) × (e ≡ y)
no_room true D y e h = let z : ◌≡◌ {A = ℕ} 0 1 = cc in absurd (omega arith)
no_room false D y e h = (refl, cc)

has_room : (b : Bool) (D E : Dict) (y : Fault) → cond b (Ok D) (Err y) ≡ Ok E → (b ≡ true) × (E ≡ D)
has_room true D E y h = (refl, cc)
has_room false D E y h = let z : ◌≡◌ {A = ℕ} 0 1 = cc in absurd (omega arith)

module _ (r : Registers) (i i' : List ℕ) (d d' : Dictionary) (li : length i ≡ 65536) (li' : length i' ≡ 65536) (p : ReadOff r d) (o : Outside i i') where
  -- the dictionary before and behind
  abbrev D : Dict
  D = lent.dict_of d i

  abbrev E : Dict
  E = lent.dict_of d' i'

  -- nothing that is not free was changed
  same_end : E ≡ D → d.ends.dp ≡ d'.ends.dp
  same_end h =
      let l : length (low_of d.ends.dp i) ≡ d.ends.dp = length_low d.ends.dp i (omega (arith, d.dp_low)) (omega (arith, d.dp_high)) in
      let l' : length (low_of d'.ends.dp i') ≡ d'.ends.dp = length_low d'.ends.dp i' (omega (arith, d'.dp_low)) (omega (arith, d'.dp_high)) in
      sym l ∙ ap (λ (x : Dict). length x.low) (sym h) ∙ l'

  read_back : PutBack r r d
  read_back = record {
    shared = ap (λ y. share_of y r.shared.names r.shared) (sym p.ends) ∙ ap (λ y. share_of d.ends y r.shared) (sym p.names);
    seat = ap (λ y. seat_with y r.seat) (sym p.order);
  }

  pub same_view : E ≡ D → (c t : List ℕ) (k : List Mark) (s : Meaning) → seen r i' c t k s ≡ seen r i c t k s
  same_view h c t k s =
      let e : lent.dict_of d i' ≡ D = ap (λ y. with_low y D) (ap (λ y. low_of y i') (same_end h) ∙ ap (λ (x : Dict). x.low) h) in
      changed_view r r d d i i' (λ x. x) li p read_back e o c t k s (ap (λ (y : Ends). y.here) p.ends)

  module _ (n : ℕ) (f : Dict → Dict) (told : Place) (q : told ≡ told_by r.seat) where
    fits_is : (b : Bool) → leb (length D.low + n) 32768 ≡ b → (c t : List ℕ) (k : List Mark) (s : Meaning) → leb (length (seen r i c t k s).low + n) 32768 ≡ b
    fits_is b h c t k s = ap (λ (x : Dict). leb (length x.low + n) 32768) (dict_seen r d i c t k s li p) ∙ h

    pub full : (e : Fault) → Did (with_room n told D (f D)) D (Err e) E → InSpace n f r i (Err e) r i'
    full e h = λ c t k s.
        let a = no_room (leb (length D.low + n) 32768) (f D) (fault_of DictionaryFull told) e h.0 in
        let m = seen r i c t k s in
        rw (same_view h.1 c t k s) (refused_at (in_space n f) m e DictionaryFull (ap (λ b. ask m DictionaryFull b >> quietly (changed f m)) (fits_is false a.0 c t k s)) (a.1 ∙ ap (fault_of DictionaryFull) q))

    pub done : (r' : Registers) → Did (with_room n told D (f D)) D (Ok tt) E → PutBack r r' d' → ((x : Dict) → (f x).here ≡ x.here) → InSpace n f r i (Ok tt) r' i'
    done r' h b z = λ c t k s.
        let a = has_room (leb (length D.low + n) 32768) (f D) E (fault_of DictionaryFull told) h in
        let m = seen r i c t k s in
        ap (λ b. ask m DictionaryFull b >> quietly (changed f m)) (fits_is true a.0 c t k s)
        ∙ ap quietly (sym (changed_view r r' d d' i i' f li p b a.1 o c t k s (ap (λ (x : Dict). x.here) a.1 ∙ z D ∙ ap (λ (y : Ends). y.here) p.ends)))
