-- How the definition comes to the end of a vocabulary.
use Rattle.std.proofs.Common.{◌≡◌, ℕ, ◌+◌, Bool, true, false, ◌&&◌, List, length, Ok, Err, Result, sym, refl, ap, ◌∙◌}
use Rattle.fault.specs.declared.Fault.{Fault}
use Rattle.fault.specs.declared.Place.{Place}
use Rattle.fault.specs.declared.Reason.TheVariants.{BrokenLink, BadToken}
use Rattle.fault.specs.Numbers.{fault_of}
use Rattle.store.specs.Meaning.{Meaning}
use Rattle.dictionary.specs.declared.registers.Dictionary.{Dictionary}
use Rattle.dictionary.specs.Dict.{Dict, with_context}
use Rattle.dictionary.specs.Trim.{is_chain, on_chain}
use Rattle.dictionary.specs.Lent as lent
use Rattle.dictionary.specs.Seeks.{stays, sought}
use Rattle.definition.specs.declared.registers.Mark.{Mark}
use Rattle.definition.specs.declared.ranged.Registers.{Registers}
use Rattle.definition.specs.Machine.{Machine, told, dict_of, changed}
use Rattle.definition.specs.Asked.{refused, quietly}
use Rattle.definition.specs.Words.{other_word}
use Rattle.definition.specs.Flow.{in_dictionary}
use Rattle.steps.specs.Inside.{inside}
use Rattle.steps.proofs.Dictionary.{inside_is}
use Rattle.steps.specs.Seats.{told_by}
use Rattle.steps.specs.Does.{seen, Does}
use Rattle.steps.proofs.Exits.{refused_at}
use Rattle.steps.proofs.Changing.{ReadOff, PutBack, dict_seen, changed_view}

same_fault : (f g : Fault) → ◌≡◌ {A = Result Dict Fault} (Err f) (Err g) → f ≡ g
same_fault f g e = cc

same_dict : (D E : Dict) → ◌≡◌ {A = Result Dict Fault} (Ok D) (Ok E) → D ≡ E
same_dict D E e = cc

no_ok : (D : Dict) (f : Fault) → ◌≡◌ {A = Result Dict Fault} (Err f) (Ok D) → ⊥
no_ok D f e = let z : ◌≡◌ {A = ℕ} 0 1 = cc in omega (Rattle.std.proofs.Common.arith, z)

no_err : (D : Dict) (f : Fault) → ◌≡◌ {A = Result Dict Fault} (Ok D) (Err f) → ⊥
no_err D f e = no_ok D f (sym e)

-- the definition's questions
far : (t : ℕ) (m : Machine) → in_dictionary t 14 m ≡ false → other_word 204 t m ≡ refused BadToken m
far t m h = rw h

broken : (t : ℕ) (m : Machine) → in_dictionary t 14 m ≡ true → is_chain (dict_of m) ≡ false → other_word 204 t m ≡ refused BrokenLink m
broken t m h k = rw (h, k)

other : (t : ℕ) (m : Machine) → in_dictionary t 14 m ≡ true → is_chain (dict_of m) ≡ true → (on_chain (t + 4) (dict_of m) && stays (t + 4) (dict_of m)) ≡ false → other_word 204 t m ≡ refused BadToken m
other t m h k l = rw (h, k, l)

found : (t : ℕ) (m : Machine) → in_dictionary t 14 m ≡ true → is_chain (dict_of m) ≡ true → (on_chain (t + 4) (dict_of m) && stays (t + 4) (dict_of m)) ≡ true → other_word 204 t m ≡ quietly (changed (with_context (t + 4)) m)
found t m h k l = rw (h, k, l)

-- what the dictionary answers
sought_broken : (v : ℕ) (p : Place) (D : Dict) → is_chain D ≡ false → sought v p D ≡ Err (fault_of BrokenLink p)
sought_broken v p D h = rw h

sought_other : (v : ℕ) (p : Place) (D : Dict) → is_chain D ≡ true → (on_chain v D && stays v D) ≡ false → sought v p D ≡ Err (fault_of BadToken p)
sought_other v p D h k = rw (h, k)

sought_found : (v : ℕ) (p : Place) (D : Dict) → is_chain D ≡ true → (on_chain v D && stays v D) ≡ true → sought v p D ≡ Ok (with_context v D)
sought_found v p D h k = rw (h, k)

module _ (t : ℕ) (m : Machine) (h : in_dictionary t 14 m ≡ true) where
  pub seek_refused : (f : Fault) → sought (t + 4) (told m) (dict_of m) ≡ Err f → Does (other_word 204 t) m (Err f) m
  seek_refused f e = go (is_chain (dict_of m)) (on_chain (t + 4) (dict_of m) && stays (t + 4) (dict_of m)) refl refl
    where
      go : (b c : Bool) → is_chain (dict_of m) ≡ b → (on_chain (t + 4) (dict_of m) && stays (t + 4) (dict_of m)) ≡ c → Does (other_word 204 t) m (Err f) m
      go false c p q = refused_at (other_word 204 t) m f BrokenLink (broken t m h p) (same_fault f _ (sym e ∙ sought_broken (t + 4) (told m) (dict_of m) p))
      go true false p q = refused_at (other_word 204 t) m f BadToken (other t m h p q) (same_fault f _ (sym e ∙ sought_other (t + 4) (told m) (dict_of m) p q))
      go true true p q = absurd (no_err _ f (sym (sought_found (t + 4) (told m) (dict_of m) p q) ∙ e))

  pub seek_found : (E : Dict) → sought (t + 4) (told m) (dict_of m) ≡ Ok E → (other_word 204 t m ≡ quietly (changed (with_context (t + 4)) m)) × (E ≡ with_context (t + 4) (dict_of m))
  seek_found E e = go (is_chain (dict_of m)) (on_chain (t + 4) (dict_of m) && stays (t + 4) (dict_of m)) refl refl
    where
      go : (b c : Bool) → is_chain (dict_of m) ≡ b → (on_chain (t + 4) (dict_of m) && stays (t + 4) (dict_of m)) ≡ c → (other_word 204 t m ≡ quietly (changed (with_context (t + 4)) m)) × (E ≡ with_context (t + 4) (dict_of m))
      go false c p q = absurd (no_ok E _ (sym (sought_broken (t + 4) (told m) (dict_of m) p) ∙ e))
      go true false p q = absurd (no_ok E _ (sym (sought_other (t + 4) (told m) (dict_of m) p q) ∙ e))
      go true true p q = (found t m h p q, same_dict E _ (sym e ∙ sought_found (t + 4) (told m) (dict_of m) p q))

pub vocabulary_far : (r : Registers) (i : List ℕ) → length i ≡ 65536 → (t : ℕ) (e : Fault) → inside t 14 r.shared.ends.dp ≡ false → e ≡ fault_of BadToken (told_by r.seat) → (c s : List ℕ) (k : List Mark) (w : Meaning) → Does (other_word 204 t) (seen r i c s k w) (Err e) (seen r i c s k w)
vocabulary_far r i l t e h p c s k w = refused_at (other_word 204 t) (seen r i c s k w) e BadToken (far t (seen r i c s k w) (inside_is r i l c s k w t 14 false h)) p

module _ (r : Registers) (d : Dictionary) (i : List ℕ) (li : length i ≡ 65536) (ro : ReadOff r d) (t v : ℕ) (pv : v ≡ t + 4) (p : Place) (pt : p ≡ told_by r.seat) (h : inside t 14 r.shared.ends.dp ≡ true) where
  at_seen : (c s : List ℕ) (k : List Mark) (w : Meaning) (due : Result Dict Fault) → sought v p (lent.dict_of d i) ≡ due → sought (t + 4) (told (seen r i c s k w)) (dict_of (seen r i c s k w)) ≡ due
  at_seen c s k w due e = ap (λ y. sought (t + 4) y (dict_of (seen r i c s k w))) (sym pt) ∙ ap (sought (t + 4) p) (dict_seen r d i c s k w li ro) ∙ ap (λ y. sought y p (lent.dict_of d i)) (sym pv) ∙ e

  pub vocabulary_refused : (d' : Dictionary) (f : Fault) → lent.Did (sought v p (lent.dict_of d i)) (lent.dict_of d i) (Err f) (lent.dict_of d' i) → (c s : List ℕ) (k : List Mark) (w : Meaning) → Does (other_word 204 t) (seen r i c s k w) (Err f) (seen r i c s k w)
  vocabulary_refused d' f e c s k w = seek_refused t (seen r i c s k w) (inside_is r i li c s k w t 14 true h) f (at_seen c s k w (Err f) e.0)

  pub vocabulary_done : (d' : Dictionary) (r' : Registers) → lent.Did (sought v p (lent.dict_of d i)) (lent.dict_of d i) (Ok tt) (lent.dict_of d' i) → PutBack r r' d' → (c s : List ℕ) (k : List Mark) (w : Meaning) → Does (other_word 204 t) (seen r i c s k w) (Ok tt) (seen r' i c s k w)
  vocabulary_done d' r' e q c s k w =
      let m = seen r i c s k w in
      let y = seek_found t m (inside_is r i li c s k w t 14 true h) (lent.dict_of d' i) (at_seen c s k w (Ok (lent.dict_of d' i)) e) in
      let D = dict_seen r d i c s k w li ro in
      let x : lent.dict_of d' i ≡ with_context (t + 4) (lent.dict_of d i) = y.1 ∙ ap (with_context (t + 4)) D in
      let g : d'.ends.here ≡ r.shared.ends.here = ap (λ (z : Dict). z.here) x ∙ ap (λ (z : Rattle.dictionary.specs.declared.registers.Ends.Ends). z.here) ro.ends in
      y.0 ∙ ap quietly (sym (changed_view r r' d d' i i (with_context (t + 4)) li ro q x (record { below = refl; above = refl }) c s k w g))
