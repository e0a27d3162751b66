-- The ends of FORGET.
use Rattle.std.proofs.Common.{◌≡◌, ℕ, ◌-◌, ◌≤◌, Bool, true, false, cond, ◌&&◌, leb, List, [], ◌∷◌, length, take, Ok, Err, sym, refl, ap, ◌∙◌, subst, arith}
use Rattle.std.proofs.lemmas.Bool.Decides.{nat_tests}
use Rattle.fault.specs.declared.Fault.{Fault}
use Rattle.fault.specs.declared.Place.{Place}
use Rattle.fault.specs.declared.Reason.TheVariants.{BadToken, BelowFence}
use Rattle.fault.specs.Numbers.{fault_of}
use Rattle.entries.specs.Entries.{body_of}
use Rattle.dictionary.specs.declared.registers.Dictionary.{Dictionary}
use Rattle.dictionary.specs.declared.registers.Ends.{Ends}
use Rattle.dictionary.specs.Dict.{Dict}
use Rattle.dictionary.specs.Lent as lent
use Rattle.dictionary.specs.Lent.{Outside, Did}
use Rattle.dictionary.specs.Trim.{forgotten}
use Rattle.trimming.specs.Asks.{in_order_for, trimmed_at}
use Rattle.definition.specs.declared.ranged.Registers.{Registers}
use Rattle.definition.specs.Machine.{Machine, told, dict_of, with_high, changed}
use Rattle.definition.specs.Asked.{Asked, ask, ◌>>◌, After, forgot, telling}
use Rattle.definition.specs.Boot.{fence}
use Rattle.definition.specs.Kernel
use Rattle.definition.specs.Words.{perform}
use Rattle.steps.specs.Seats.{told_by}
use Rattle.steps.specs.Does.{seen, IsRefused, FromText}
use Rattle.steps.proofs.Changing.{ReadOff, PutBack, dict_seen, cut_view}
use Rattle.steps.proofs.Spaces.{same_view}
use Rattle.steps.specs.Asking.{Took, StateAnswers}
use Rattle.steps.proofs.Words.{acted}

-- the answer of the two questions and of what follows
refused_by : (a b : Bool) (D : Dict) (p : Place) (e : Fault) (m : Machine) (x : Asked After) → cond a (cond b (Ok D) (Err (fault_of BelowFence p))) (Err (fault_of BadToken p)) ≡ Err e → p ≡ told m → IsRefused (ask m BadToken a >> (ask m BelowFence b >> x)) e m
refused_by true true D p e m x h q = let z : ◌≡◌ {A = ℕ} 0 1 = cc in absurd (omega arith)
refused_by true false D p e m x h q = let y : e ≡ fault_of BelowFence p = cc in (y ∙ ap (fault_of BelowFence) q, refl)
refused_by false b D p e m x h q = let y : e ≡ fault_of BadToken p = cc in (y ∙ ap (fault_of BadToken) q, refl)

done_by : (a b : Bool) (D E : Dict) (y z : Fault) → cond a (cond b (Ok D) (Err y)) (Err z) ≡ Ok E → (a ≡ true) × (b ≡ true) × (E ≡ D)
done_by true true D E y z h = (refl, refl, cc)
done_by true false D E y z h = let u : ◌≡◌ {A = ℕ} 0 1 = cc in absurd (omega arith)
done_by false b D E y z h = let u : ◌≡◌ {A = ℕ} 0 1 = cc in absurd (omega arith)

abbrev can_go_back : ℕ → Dict → Bool
can_go_back w D = leb 34048 (body_of D.low w) && leb (body_of D.low w) D.here

body_short : (w : ℕ) (D : Dict) → can_go_back w D ≡ true → body_of D.low w ≤ D.here
body_short w D h = at (leb 34048 (body_of D.low w)) h
  where
    at : (a : Bool) → (a && leb (body_of D.low w) D.here) ≡ true → body_of D.low w ≤ D.here
    at true e = grind (arith, nat_tests)
    at false e = let u : ◌≡◌ {A = ℕ} 0 1 = cc in absurd (omega arith)

here_of : (w : ℕ) (D : Dict) → (forgotten w D).here ≡ body_of D.low w
unfolding forgotten
here_of w D = refl

-- what is asked for where the registers are read off
pub asked_for : (w v : ℕ) (r : Registers) (i : List ℕ) (d : Dictionary) → ReadOff r d → v ≡ fence → in_order_for fence w (lent.dict_in r.shared.ends r.shared.names r.seat.order i) ≡ true → in_order_for v w (lent.dict_of d i) ≡ true
asked_for w v r i d p q h =
    ap (λ b. in_order_for b w (lent.dict_of d i)) q
    ∙ ap (λ b. in_order_for fence w (lent.dict_in b d.names d.order i)) p.ends ∙ ap (λ b. in_order_for fence w (lent.dict_in r.shared.ends b d.order i)) p.names ∙ ap (λ b. in_order_for fence w (lent.dict_in r.shared.ends r.shared.names b i)) p.order
    ∙ h

module _ (r r1 : Registers) (i name : List ℕ) (w : ℕ) (h : Took Kernel.a_forgettable r i name w r1) (a : StateAnswers (Kernel.none_open ∷ Kernel.ip_zero ∷ []) r1 (Ok tt)) (i' : List ℕ) (d d' : Dictionary) (li : length i ≡ 65536) (li' : length i' ≡ 65536) (p : ReadOff r1 d) (o : Outside i i') (v : ℕ) (u : v ≡ fence) (at : Place) (q : at ≡ told_by r1.seat) where
  abbrev D : Dict
  D = lent.dict_of d i

  abbrev E : Dict
  E = lent.dict_of d' i'

  -- what FORGET acts, by its dictionary
  abbrev acts_on : Dict → Machine → Asked After
  acts_on x m = ask m BadToken (can_go_back w x) >> (ask m BelowFence (leb fence w) >> telling (forgot w) (with_high (take (body_of x.low w - 32768) m.high) (changed (forgotten w) m)))

  pub not_forgotten : (e : Fault) → Did (trimmed_at v w at D) D (Err e) E → (c : List ℕ) → FromText 72 r i c (Err e) r1 i' c
  unfolding perform
  not_forgotten e g c =
      let g' : trimmed_at fence w at D ≡ Err e = ap (λ b. trimmed_at b w at D) (sym u) ∙ g.0 in
      acted 72 r i c r1 name w h (Err e) r1 i' c a
      (λ again t k s.
      let m = seen r1 i c t k s in
      let P : Dict → Type 0 = λ x. IsRefused (acts_on x m) e m in
      let Q : Machine → Type 0 = λ m'. IsRefused (acts_on (dict_of m) m) e m' in
      subst Q (sym (same_view r1 i i' d d' li li' p o g.1 c t k s))
      (subst P (sym (dict_seen r1 d i c t k s li p)) (refused_by (can_go_back w D) (leb fence w) (forgotten w D) at e m (telling (forgot w) (with_high (take (body_of D.low w - 32768) m.high) (changed (forgotten w) m))) g' q)))

  pub forgotten_lem : (r2 : Registers) → Did (trimmed_at v w at D) D (Ok tt) E → PutBack r1 r2 d' → (c : List ℕ) → FromText 72 r i c (Ok tt) r2 i' c
  unfolding perform
  forgotten_lem r2 g b c =
      let g' : trimmed_at fence w at D ≡ Ok E = ap (λ x. trimmed_at x w at D) (sym u) ∙ g in
      let e = done_by (can_go_back w D) (leb fence w) (forgotten w D) E (fault_of BelowFence at) (fault_of BadToken at) g' in
      let n : d'.ends.here ≡ body_of D.low w = ap (λ (x : Dict). x.here) e.2 ∙ here_of w D in
      let y : r1.shared.ends.here ≡ D.here = ap (λ (x : Ends). x.here) (sym p.ends) in
      let l : d'.ends.here ≤ r1.shared.ends.here = omega (arith, body_short w D e.0) in
      acted 72 r i c r1 name w h (Ok tt) r2 i' c a
      (λ again t k s.
      let m = seen r1 i c t k s in
      let z = dict_seen r1 d i c t k s li p in
      let x : with_high (take (body_of m.low w - 32768) m.high) (changed (forgotten w) m) ≡ seen r2 i' c t k s =
      ap (λ (j : Dict). with_high (take (body_of j.low w - 32768) m.high) (changed (forgotten w) m)) z ∙ ap (λ j. with_high (take (j - 32768) m.high) (changed (forgotten w) m)) (sym n)
      ∙ sym (cut_view r1 r2 d d' i i' (forgotten w) li p b e.2 o c t k s l) in (
        record { machine = seen r2 i' c t k s; typed = []; news = forgot w },
        ap (λ j. ask m BadToken j >> (ask m BelowFence (leb fence w) >> telling (forgot w) (with_high (take (body_of m.low w - 32768) m.high) (changed (forgotten w) m)))) (ap (can_go_back w) z ∙ e.0)
            ∙ ap (λ j. ask m BelowFence j >> telling (forgot w) (with_high (take (body_of m.low w - 32768) m.high) (changed (forgotten w) m))) e.1
            ∙ ap (telling (forgot w)) x,
        refl,
        refl,
      ))
