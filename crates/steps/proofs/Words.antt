-- What a kernel word does from its text on, by its parts: what it takes, what it asks of the state, what it acts.
use Rattle.std.proofs.Common.{◌≡◌, ℕ, List, [], Ok, Err, Result, sym, refl, ap, ◌∙◌, subst}
use Rattle.fault.specs.declared.Fault.{Fault}
use Rattle.store.specs.Meaning.{Meaning}
use Rattle.definition.specs.declared.registers.Mark.{Mark}
use Rattle.definition.specs.declared.ranged.Registers.{Registers}
use Rattle.definition.specs.Machine.{Machine}
use Rattle.definition.specs.Asked.{Asked, refused, given, ◌>>=◌, ◌>>◌, After, no_news}
use Rattle.definition.specs.Words.{Argument, taken, all_asked, perform, do_kernel, row_of}
use Rattle.steps.specs.Does.{seen, acts, Does, Did, IsRefused, FromText}
use Rattle.steps.specs.Asking.{Took, NotTaken, StateAnswers, NotReady}

-- a refusal stays one, whatever was to follow
pub refuses_on : {A B : Type 0} (x : Asked A) (g : A → Asked B) (e : Fault) (m : Machine) → IsRefused x e m → IsRefused (x >>= g) e m
refuses_on (refused why m') g e m h = h
refuses_on (given a) g e m h = absurd h

-- also that of two things in turn
refuses_both : {A B C : Type 0} (x : Asked A) (f : A → Asked B) (g : A → B → Asked C) (e : Fault) (m : Machine) → IsRefused (x >>= f) e m → IsRefused (x >>= λ a. f a >>= g a) e m
refuses_both (refused why m') f g e m h = h
refuses_both (given a) f g e m h = refuses_on (f a) (g a) e m h

-- what a call did
pub did_by : (f : Machine → Asked After) (m m' : Machine) (o : Result (Unit {0}) Fault) → Does f m o m' → Did (f m) o m'
did_by f m m' (Ok u) p = (record { machine = m'; typed = []; news = no_news }, p, refl, refl)
did_by f m m' (Err e) h = subst (λ y. IsRefused (f m) e y) (sym h.1) h.0

abbrev rest : ℕ → (ℕ → Machine → Asked After) → Argument → Asked After
rest n again a = all_asked (row_of n).asks a.machine >> perform again (row_of n).action a a.machine

module _ (n : ℕ) (r : Registers) (i c : List ℕ) where
  pub no_text : (r' : Registers) (e : Fault) → NotTaken (row_of n).takes r i e r' → FromText n r i c (Err e) r' i c
  unfolding do_kernel
  no_text r' e h = λ again t k s. refuses_on (taken (row_of n).takes (seen r i c t k s)) (rest n again) e (seen r' i c t k s) (h c t k s)

  pub not_ready : (r' : Registers) (e : Fault) → NotReady (row_of n).takes (row_of n).asks r i e r' → FromText n r i c (Err e) r' i c
  unfolding do_kernel
  not_ready r' e h = λ again t k s.
      refuses_both (taken (row_of n).takes (seen r i c t k s)) (λ a. all_asked (row_of n).asks a.machine) (λ a _. perform again (row_of n).action a a.machine) e (seen r' i c t k s) (h c t k s)

  module _ (r' : Registers) (bs : List ℕ) (x : ℕ) (h : Took (row_of n).takes r i bs x r') where
    abbrev was : List ℕ → List Mark → Meaning → Argument
    was t k s = record { machine = seen r' i c t k s; bytes = bs; entry = x }

    taken_is : (again : ℕ → Machine → Asked After) (t : List ℕ) (k : List Mark) (s : Meaning) → do_kernel again (row_of n) (seen r i c t k s) ≡ rest n again (was t k s)
    unfolding do_kernel
    taken_is again t k s = ap (λ y. y >>= rest n again) (h c t k s)

    pub no_state : (e : Fault) → StateAnswers (row_of n).asks r' (Err e) → FromText n r i c (Err e) r' i c
    no_state e g = λ again t k s.
        subst (λ (y : Asked After). IsRefused y e (seen r' i c t k s)) (sym (taken_is again t k s))
        (refuses_on (all_asked (row_of n).asks (seen r' i c t k s)) (λ _. perform again (row_of n).action (was t k s) (seen r' i c t k s)) e (seen r' i c t k s) (g i c t k s))

    pub acted : (o : Result (Unit {0}) Fault) (r2 : Registers) (i' c' : List ℕ) → StateAnswers (row_of n).asks r' (Ok tt) → ((again : ℕ → Machine → Asked After) (t : List ℕ) (k : List Mark) (s : Meaning) → Did (acts n again (was t k s) (seen r' i c t k s)) o (seen r2 i' c' t k s)) → FromText n r i c o r2 i' c'
    acted o r2 i' c' g d = λ again t k s.
        subst (λ (y : Asked After). Did y o (seen r2 i' c' t k s))
        (sym (taken_is again t k s ∙ ap (λ (y : Asked (Unit {0})). y >>= λ _. perform again (row_of n).action (was t k s) (seen r' i c t k s)) (g i c t k s))) (d again t k s)
