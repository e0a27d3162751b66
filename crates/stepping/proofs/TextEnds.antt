-- The ends of reading the text.
use Rattle.std.proofs.Common.{◌≡◌, ℕ, Bool, true, false, not, ◌&&◌, eqb, List, [], Some, None, Ok, Err, Option, Result, sym, refl, ap, ◌∙◌, subst}
use Rattle.std.proofs.lemmas.Bool.{eqb-true}
use Rattle.fault.specs.declared.Fault.{Fault}
use Rattle.store.specs.Meaning.{Meaning}
use Rattle.definition.specs.declared.registers.Mark.{Mark}
use Rattle.definition.specs.declared.ranged.Registers.{Registers}
use Rattle.definition.specs.Machine.{Machine, ip, with_ip}
use Rattle.definition.specs.Asked.{Asked, refused, given, ◌>>=◌, After, no_news, quietly}
use Rattle.definition.specs.Text.{Taken, next_word, no_word_left}
use Rattle.definition.specs.Blocks.{brought}
use Rattle.definition.specs.Step
use Rattle.definition.specs.Step.{Outcome, outcome, needs_block, bringing, ended, interpreted, from_text}
use Rattle.steps.specs.Does.{seen, IsRefused}
use Rattle.texts.specs.Texts.{word_in, NoneLeft, TookWord}
use Rattle.block_words.specs.Reading.{EndsLoad}
use Rattle.block_words.specs.Buffers.{holding, Brings}
use Rattle.stepping.specs.declared.next.Next.{Next}
use Rattle.stepping.specs.declared.next.Next.TheVariants as next
use Rattle.stepping.specs.Steps.{with_source, GoesBack, Leads, Interprets, ReadsText}

-- the first of the three that applies
text_brings : (m : Machine) → needs_block m ≡ true → from_text m ≡ outcome (bringing m)
text_brings m h = rw h refl

text_ends : (m : Machine) → needs_block m ≡ false → no_word_left m ≡ true → from_text m ≡ ended m.text.loads m
text_ends m h g = rw (h, g) refl

text_word : (m : Machine) → needs_block m ≡ false → no_word_left m ≡ false → from_text m ≡ outcome (interpreted (next_word m))
text_word m h g = rw (h, g) refl

held_is : (o : Option ℕ) (n : ℕ) → (elim o [ None ↦ false | Some k ↦ eqb k n ]) ≡ holding o n
held_is None n = refl
held_is (Some k) n = refl

-- a refusal before the text acts
refused_first : {A : Type 0} (x : Asked A) (g : A → Asked After) (y : Outcome) (m m' : Machine) (e : Fault) → IsRefused x e m' → y ≡ outcome (x >>= g) → Leads y m (Err e) m'
refused_first (refused why n) g y m m' e h p = (why, n, p, h.0, sym h.1)
refused_first (given a) g y m m' e h p = absurd h

-- what leads on from a word leads on from the text before it
goes_on : (m m1 m' : Machine) → with_ip (ip m) (with_source m.text.source m1) ≡ m → GoesBack m1 m' → GoesBack m m'
goes_on m m1 m' p h = ap (λ y. with_ip (ip m) (with_source m.text.source y)) h ∙ p

leads_on : (x y : Outcome) (m m1 m' : Machine) (o : Result Next Fault) → x ≡ y → with_ip (ip m) (with_source m.text.source m1) ≡ m → Leads y m1 o m' → Leads x m o m'
leads_on x y m m1 m' (Ok (next.Execute t)) p q h = (p ∙ h.0, goes_on m m1 m' q h.1)
leads_on x y m m1 m' (Ok next.Went) p q h = (h.0, p ∙ h.1, h.2, h.3)
leads_on x y m m1 m' (Ok next.Finished) p q h = p ∙ h
leads_on x y m m1 m' (Err e) p q h = (h.0, h.1, p ∙ h.2, h.3, h.4)

pub held_back : (n : ℕ) (b : Bool) → (n ≡ 0 → ⊥) → b ≡ (not (eqb n 0) && b)
held_back n b h = go (eqb n 0) refl
  where
    go : (e : Bool) → eqb n 0 ≡ e → b ≡ (not e && b)
    go true p = absurd (h (eqb-true n 0 p))
    go false p = refl

pub none_to_hold : (n : ℕ) (b : Bool) → n ≡ 0 → not (eqb n 0) ≡ (not (eqb n 0) && b)
none_to_hold n b h = rw h refl

pub lacking : (r : Registers) (h : Bool) (i c t : List ℕ) (k : List Mark) (s : Meaning) → h ≡ holding r.shared.buffer.held r.seat.source.position.blk → (not (eqb r.seat.source.position.blk 0) && not h) ≡ needs_block (seen r i c t k s)
lacking r h i c t k s p = ap (λ y. not (eqb r.seat.source.position.blk 0) && not y) (p ∙ sym (held_is r.shared.buffer.held r.seat.source.position.blk))

module _ (r : Registers) (i c : List ℕ) (s : Meaning) where
  abbrev Missing : Type 0
  Missing = (t : List ℕ) (k : List Mark) → needs_block (seen r i c t k s) ≡ true

  abbrev Ready : Type 0
  Ready = (t : List ℕ) (k : List Mark) → needs_block (seen r i c t k s) ≡ false

  pub brings : (r' : Registers) (i' : List ℕ) (s' : Meaning) → Missing → Brings (brought r.seat.source.position.blk) r i s (Ok tt) r' i' s' → ReadsText r i c s (Ok next.Went) r' i' c s'
  brings r' i' s' h b t k =
      let m = seen r i c t k s in
      (record { machine = seen r' i' c t k s'; typed = []; news = no_news }, text_brings m (h t k) ∙ ap (λ (y : Asked Machine). outcome (y >>= λ m'. quietly m')) (b c t k), refl, refl)

  pub brings_not : (e : Fault) (r' : Registers) (i' : List ℕ) (s' : Meaning) → Missing → Brings (brought r.seat.source.position.blk) r i s (Err e) r' i' s' → ReadsText r i c s (Err e) r' i' c s'
  brings_not e r' i' s' h b t k =
      let m = seen r i c t k s in
      refused_first (brought r.seat.source.position.blk m) (λ m'. quietly m') (from_text m) m (seen r' i' c t k s') e (b c t k) (text_brings m (h t k))

  pub load_ends : (r1 r' : Registers) → Ready → NoneLeft r i r1 → EndsLoad r1 true r' → ReadsText r i c s (Ok next.Went) r' i c s
  load_ends r1 r' h g d t k =
      let m = seen r i c t k s in
      let e : ended m.text.loads m ≡ outcome (quietly (seen r' i c t k s)) = subst (λ (y : Registers). ended (seen y i c t k s).text.loads (seen y i c t k s) ≡ outcome (quietly (seen r' i c t k s))) g.0 (d i c t k s) in
      (record { machine = seen r' i c t k s; typed = []; news = no_news }, text_ends m (h t k) (g.1 c t k s) ∙ e, refl, refl)

  pub line_ends : (r1 r' : Registers) → Ready → NoneLeft r i r1 → EndsLoad r1 false r' → ReadsText r i c s (Ok next.Finished) r' i c s
  line_ends r1 r' h g d t k =
      let m = seen r i c t k s in
      let e : ended m.text.loads m ≡ Step.finished m = subst (λ (y : Registers). ended (seen y i c t k s).text.loads (seen y i c t k s) ≡ Step.finished (seen y i c t k s)) g.0 (d.0 i c t k s) in
      text_ends m (h t k) (g.1 c t k s) ∙ e ∙ ap (λ (y : Registers). Step.finished (seen y i c t k s)) (sym (d.1 ∙ g.0))

  pub word_taken : (r1 : Registers) (word : List ℕ) → Ready → TookWord r i word r1 → (o : Result Next Fault) (r' : Registers) (i' c' : List ℕ) → Interprets r1 i c o r' i' c' → ReadsText r i c s o r' i' c' s
  word_taken r1 word h g o r' i' c' d t k =
      let m = seen r i c t k s in
      let m1 = seen r1 i c t k s in
      let e = (g.2 c t k s).1 in
      leads_on (from_text m) (outcome (interpreted (record { machine = m1; bytes = word_in r1.seat i }))) m m1 (seen r' i' c' t k s) o
      (text_word m (h t k) (g.2 c t k s).0 ∙ ap (λ (y : Taken). outcome (interpreted y)) e)
      (ap (λ (y : Taken). with_ip (ip m) (with_source m.text.source y.machine)) (sym e))
      (d t k s)
