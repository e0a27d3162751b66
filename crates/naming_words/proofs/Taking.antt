-- The word that FORGET finds.
use Rattle.std.proofs.Common.{◌≡◌, ℕ, Bool, true, false, cond, ◌&&◌, ◌||◌, ltb, List, length, Some, None, Ok, Err, Option, sym, refl, ap, ◌∙◌, arith, if◌then◌else◌}
use Rattle.fault.specs.declared.Fault.{Fault}
use Rattle.fault.specs.declared.Place.{Place}
use Rattle.fault.specs.declared.Reason.TheVariants.{BrokenLink, NotFound}
use Rattle.fault.specs.Numbers.{fault_of}
use Rattle.store.specs.Meaning.{Meaning}
use Rattle.entries.specs.Search.{Found, missing, broken, hit, search_in}
use Rattle.entries.specs.Threads.{answered}
use Rattle.entries.proofs.Walks.{in_from, first_above}
use Rattle.dictionary.specs.declared.registers.Dictionary.{Dictionary}
use Rattle.dictionary.specs.Dict.{Dict}
use Rattle.dictionary.specs.Lent as lent
use Rattle.dictionary.specs.Trim.{ordered, can_forget}
use Rattle.dictionary.proofs.Orders.{answer_some, answer_none, answer_broken}
use Rattle.trimming.specs.Asks.{in_order_for, orders_asked}
use Rattle.definition.specs.declared.registers.Mark.{Mark}
use Rattle.definition.specs.declared.ranged.Registers.{Registers}
use Rattle.definition.specs.Machine.{dict_of}
use Rattle.definition.specs.Asked.{Asked, given, ask, ◌>>=◌, ◌>>◌}
use Rattle.definition.specs.Boot.{fence}
use Rattle.definition.specs.Kernel
use Rattle.definition.specs.Text.{Taken, take_name, ask_found, ask_there}
use Rattle.definition.specs.Words.{Argument, argument, taken}
use Rattle.steps.specs.Seats.{told_by}
use Rattle.steps.specs.Does.{seen}
use Rattle.steps.proofs.Changing.{ReadOff, dict_seen}
use Rattle.texts.specs.declared.name.Name.{Name}
use Rattle.texts.specs.Names.{name_of, TookName}
use Rattle.texts.proofs.Entering.{whole_in}
use Rattle.steps.proofs.Names.{same_dict}
use Rattle.steps.proofs.Words.{refuses_on}
use Rattle.naming_words.specs.Forgettable.{TookForgettable}

-- the question on what is walked, and the rest of the questions, once the name was taken
abbrev asked : Dict → Taken → ℕ → Asked Argument
asked D t w = ask t.machine BrokenLink (if ltb w fence then true else can_forget w D) >> given (argument t w)

abbrev there : Dict → Taken → Option ℕ → Asked Argument
there D t o = ask_there t.machine o >>= asked D t

abbrev found : Dict → Taken → Asked Argument
found D t = ask_found t.machine (search_in D.low D.current t.bytes) >>= there D t

either : (a b : Bool) → (if a then true else b) ≡ (a || b)
either true b = refl
either false b = refl

-- what is asked of an entry that is in order
in_order_by : (a b c : Bool) → a ≡ true → (b || c) ≡ (a && (b || c))
in_order_by true b c h = refl
in_order_by false b c h = let z : ◌≡◌ {A = ℕ} 0 1 = cc in absurd (omega arith)

orders_no : (b : Bool) (y e : Fault) → Err e ≡ cond b (Ok (tt {0})) (Err y) → (b ≡ false) × (e ≡ y)
orders_no true y e h = let z : ◌≡◌ {A = ℕ} 0 1 = cc in absurd (omega arith)
orders_no false y e h = (refl, cc)

orders_yes : (b : Bool) (y : Fault) → Ok (tt {0}) ≡ cond b (Ok (tt {0})) (Err y) → b ≡ true
orders_yes true y h = refl
orders_yes false y h = let z : ◌≡◌ {A = ℕ} 0 1 = cc in absurd (omega arith)

module _ (r r' : Registers) (i : List ℕ) where
  pub no_name : (e : Fault) → TookName r i (Err e) r' → TookForgettable r i (Err e) r'
  unfolding taken
  no_name e h = λ c t k s. refuses_on (take_name (seen r i c t k s)) (found (dict_of (seen r i c t k s))) e (seen r' i c t k s) (h c t k s)

  module _ (li : length i ≡ 65536) (n : Name) (w : List ℕ) (h : TookName r i (Ok n) r') (q : w ≡ name_of n) (d : Dictionary) (ro : ReadOff r' d) (p : Place) (z : p ≡ told_by r'.seat) where
    abbrev D : Dict
    D = lent.dict_of d i

    abbrev looked : Found
    looked = search_in D.low D.current w

    abbrev was : List ℕ → List ℕ → List Mark → Meaning → Taken
    was c t k s = record { machine = seen r' i c t k s; bytes = w }

    named : (c t : List ℕ) (k : List Mark) (s : Meaning) → taken Kernel.a_forgettable (seen r i c t k s) ≡ found D (was c t k s)
    unfolding taken
    named c t k s =
        ap (λ y. y >>= found (dict_of (seen r i c t k s))) (h c t k s)
        ∙ ap (λ (y : List ℕ). found (dict_of (seen r i c t k s)) (record { machine = seen r' i c t k s; bytes = y })) (sym q)
        ∙ ap (λ (x : Dict). found x (was c t k s)) (sym (same_dict (seen r i c t k s) _ (h c t k s)) ∙ dict_seen r' d i c t k s li ro)

    pub broken_thread : (e : Fault) → Err e ≡ answered p looked → TookForgettable r i (Err e) r'
    broken_thread e f = λ c t k s.
        let m = seen r' i c t k s in
        let b : looked ≡ broken = answer_broken p looked e f in
        let y : Err e ≡ answered p broken = f ∙ ap (answered p) b in
        let x : e ≡ fault_of BrokenLink p = cc in
        rw (named c t k s ∙ ap (λ (u : Found). ask_found m u >>= there D (was c t k s)) b) (x ∙ ap (fault_of BrokenLink) z, refl)

    pub not_found : (o : Option ℕ) (e : Fault) → o ≡ None → Ok o ≡ answered p looked → e ≡ fault_of NotFound (told_by r'.seat) → TookForgettable r i (Err e) r'
    not_found o e g f x = λ c t k s.
        let b : looked ≡ missing = answer_none p looked (ap Ok (sym g) ∙ f) in
        rw (named c t k s ∙ ap (λ (u : Found). ask_found (seen r' i c t k s) u >>= there D (was c t k s)) b) (x, refl)

    module _ (o : Option ℕ) (x : ℕ) (g : o ≡ Some x) (f : Ok o ≡ answered p looked) where
      hits : looked ≡ hit x
      hits = answer_some p looked x (ap Ok (sym g) ∙ f)

      lies : ordered D.low (length D.low) x ≡ true
      lies =
          let a = whole_in D.low D.current w x hits in
          let b = first_above D.low x in
          in_from D.low (length D.low) (length D.low) x a.0 (omega (arith, a.1)) a.1

      at_entry : (b : Bool) → in_order_for fence x D ≡ b → (c t : List ℕ) (k : List Mark) (s : Meaning) → taken Kernel.a_forgettable (seen r i c t k s) ≡ (ask (seen r' i c t k s) BrokenLink b >> given (argument (was c t k s) x))
      at_entry b e c t k s =
          named c t k s ∙ ap (λ (u : Found). ask_found (seen r' i c t k s) u >>= there D (was c t k s)) hits
          ∙ ap (λ u. ask (seen r' i c t k s) BrokenLink u >> given (argument (was c t k s) x)) (either (ltb x fence) (can_forget x D) ∙ in_order_by (ordered D.low (length D.low) x) (ltb x fence) (can_forget x D) lies ∙ e)

      pub not_in_order : (v : ℕ) (e : Fault) → v ≡ fence → Err e ≡ orders_asked v x p D → TookForgettable r i (Err e) r'
      not_in_order v e u y = λ c t k s.
          let a = orders_no (in_order_for fence x D) (fault_of BrokenLink p) e (y ∙ ap (λ b. orders_asked b x p D) u) in
          rw (at_entry false a.0 c t k s) (a.1 ∙ ap (fault_of BrokenLink) z, refl)

      pub forgettable : (v : ℕ) → v ≡ fence → Ok tt ≡ orders_asked v x p D → TookForgettable r i (Ok x) r'
      forgettable v u y =
          let a = orders_yes (in_order_for fence x D) (fault_of BrokenLink p) (y ∙ ap (λ b. orders_asked b x p D) u) in
          let E : in_order_for fence x (lent.dict_in r'.shared.ends r'.shared.names r'.seat.order i) ≡ true =
          sym (ap (λ b. in_order_for fence x (lent.dict_in b d.names d.order i)) ro.ends ∙ ap (λ b. in_order_for fence x (lent.dict_in r'.shared.ends b d.order i)) ro.names ∙ ap (λ b. in_order_for fence x (lent.dict_in r'.shared.ends r'.shared.names b i)) ro.order) ∙ a in
          (E, (w, λ c t k s. at_entry true a c t k s))
