-- The ends of a step.
use Rattle.std.proofs.Common.{◌≡◌, ℕ, Bool, true, false, eqb, List, [], Ok, Err, Result, sym, refl, ap, ◌∙◌, subst, arith}
use Rattle.std.proofs.lemmas.Bool.{eqb-true, false≢true}
use Rattle.std.specs.Result.{is_err}
use Rattle.fault.specs.declared.Fault.{Fault}
use Rattle.store.specs.Meaning.{Meaning}
use Rattle.definition.specs.declared.registers.Mark.{Mark}
use Rattle.definition.specs.declared.ranged.Registers.{Registers}
use Rattle.definition.specs.Machine.{Machine, ip, with_ip}
use Rattle.definition.specs.Words.{execute}
use Rattle.definition.specs.Step.{Outcome, outcome, from_text, from_tokens, step}
use Rattle.definition.specs.Run.{cleared}
use Rattle.steps.specs.declared.progress.Progress.{Progress}
use Rattle.steps.specs.declared.progress.Progress.TheVariants.{Went, Full, Finished}
use Rattle.steps.specs.Does.{seen}
use Rattle.codes.specs.Performs.{Memory, memory, held, Acts}
use Rattle.codes.proofs.Lifting.{grows_nothing}
use Rattle.stepping.specs.declared.next.Next.{Next}
use Rattle.stepping.specs.declared.next.Next.TheVariants as next
use Rattle.stepping.specs.Steps.{Steps, Tries, with_source, Leads, ReadsText, TakesToken, Starts}
use Rattle.stepping.proofs.WordEnds.{refused_leads}

by_text : (m : Machine) → eqb (ip m) 0 ≡ true → step m ≡ from_text m
unfolding step
by_text m h = rw h refl

by_token : (m : Machine) → eqb (ip m) 0 ≡ false → step m ≡ outcome (from_tokens m)
unfolding step
by_token m h = rw h refl

is_zero : (n : ℕ) → n ≡ 0 → eqb n 0 ≡ true
is_zero n h = rw h refl

not_zero : (n : ℕ) → (n ≡ 0 → ⊥) → eqb n 0 ≡ false
not_zero n h = go (eqb n 0) refl
  where
    go : (e : Bool) → eqb n 0 ≡ e → e ≡ false
    go true p = absurd (h (eqb-true n 0 p))
    go false p = refl

leads_as : (x y : Outcome) (m m' : Machine) (o : Result Next Fault) → x ≡ y → Leads y m o m' → Leads x m o m'
leads_as x y m m' o p h = subst (λ z. Leads z m o m') (sym p) h

module _ (r : Registers) (i c : List ℕ) (s : Meaning) where
  pub starts_text : r.seat.flow.ip ≡ 0 → (o : Result Next Fault) (r' : Registers) (i' c' : List ℕ) (s' : Meaning) → ReadsText r i c s o r' i' c' s' → Starts r i c s o r' i' c' s'
  starts_text h o r' i' c' s' d t k = let m = seen r i c t k s in leads_as (step m) (from_text m) m (seen r' i' c' t k s') o (by_text m (is_zero r.seat.flow.ip h)) (d t k)

  pub starts_token : (r.seat.flow.ip ≡ 0 → ⊥) → (x : ℕ) (r' : Registers) → TakesToken r i (Ok x) r' → Starts r i c s (Ok (next.Execute x)) r' i c s
  starts_token h x r' d t k = let m = seen r i c t k s in (by_token m (not_zero r.seat.flow.ip h) ∙ ap outcome (d c t k s).0, (d c t k s).1)

  pub token_refused : (r.seat.flow.ip ≡ 0 → ⊥) → (e : Fault) (r' : Registers) → TakesToken r i (Err e) r' → Starts r i c s (Err e) r' i c s
  token_refused h e r' d t k =
      let m = seen r i c t k s in
      let m' = seen r' i c t k s in
      leads_as (step m) (outcome (from_tokens m)) m m' (Err e) (by_token m (not_zero r.seat.flow.ip h)) (refused_leads (from_tokens m) m m' e (d c t k s))

-- a step that executes no token
module _ (r r' : Registers) (i c i' c' : List ℕ) (s s' : Meaning) (t : List ℕ) (k : List Mark) (out : List ℕ) (n : ℕ) where
  pub tries_went : Starts r i c s (Ok next.Went) r' i' c' s' → Tries r (memory i c t k out n s) (Ok Went) r' (memory i' c' t k out n s')
  tries_went d = let h = d t k in record { new = []; output = grows_nothing out n; came = (h.0, h.1, h.2, h.3, omega arith) }

  pub tries_finished : Starts r i c s (Ok next.Finished) r' i' c' s' → Tries r (memory i c t k out n s) (Ok Finished) r' (memory i' c' t k out n s')
  tries_finished d = record { new = []; output = grows_nothing out n; came = (d t k, refl) }

  pub tries_refused : (e : Fault) → Starts r i c s (Err e) r' i' c' s' → Tries r (memory i c t k out n s) (Err e) r' (memory i' c' t k out n s')
  tries_refused e d = let h = d t k in record { new = []; output = grows_nothing out n; came = (h.0, h.1, h.2, h.3, h.4, refl) }

  -- one that executes a token
  module _ (x : ℕ) (d : Starts r i c s (Ok (next.Execute x)) r' i' c' s') (r2 : Registers) (l2 : Memory) where
    pub executes_refused : (e : Fault) → Acts (execute x) r' (memory i' c' t k out n s') (Err e) r2 l2 → Tries r (memory i c t k out n s) (Err e) r2 l2
    executes_refused e a =
        let m = seen r i c t k s in
        let h = leads_as (step m) (outcome (execute x (seen r' i' c' t k s'))) m (held r2 l2) (Err e) (d t k).0 (refused_leads (execute x (seen r' i' c' t k s')) m (held r2 l2) e a.did.0) in
        record { new = a.new; output = a.output; came = (h.0, h.1, h.2, h.3, h.4, a.did.1) }

    pub executes_on : (o : Progress) → (o ≡ Full → ⊥) → Acts (execute x) r' (memory i' c' t k out n s') (Ok o) r2 l2 → Tries r (memory i c t k out n s) (Ok o) r2 l2
    executes_on Went f a = record { new = a.new; output = a.output; came = (a.did.0, (d t k).0 ∙ ap outcome a.did.1, a.did.2, a.did.3, a.did.4) }
    executes_on Full f a = absurd (f refl)
    executes_on Finished f a = absurd a.did

    pub executes_full : (r3 : Registers) → held r3 l2 ≡ with_ip r.seat.flow.ip (with_source r.seat.source (held r2 l2)) → Acts (execute x) r' (memory i' c' t k out n s') (Ok Full) r2 l2 → Tries r (memory i c t k out n s) (Ok Full) r3 l2
    executes_full r3 v a = record {
      new = a.new;
      output = a.output;
      came = (a.did.0, (d t k).0 ∙ ap outcome a.did.1, a.did.2, v ∙ ap (λ y. with_ip r.seat.flow.ip (with_source r.seat.source y)) a.did.3 ∙ (d t k).1, a.did.4);
    }

-- where it is refused it leaves what a fault leaves; else it left that already
module _ (r r' : Registers) (l l' : Memory) where
  pub stepped : (o : Progress) → Tries r l (Ok o) r' l' → Steps r l (Ok o) r' l'
  stepped Went a = record { new = a.new; output = a.output; came = a.came }
  stepped Full a = record { new = a.new; output = a.output; came = a.came }
  stepped Finished a = record { new = a.new; output = a.output; came = a.came }

  pub step_cleared : (r2 : Registers) (e : Fault) → held r2 l' ≡ cleared (held r' l') → Tries r l (Err e) r' l' → Steps r l (Err e) r2 l'
  step_cleared r2 e v a = record { new = a.new; output = a.output; came = (a.came.0, a.came.1, a.came.2, a.came.3, v ∙ a.came.4, a.came.5) }

pub step_ends : (r r' r2 : Registers) (l l' : Memory) (o : Result Progress Fault) → is_err o ≡ true → held r2 l' ≡ cleared (held r' l') → Tries r l o r' l' → Steps r l o r2 l'
step_ends r r' r2 l l' (Ok o) h v a = absurd (false≢true h)
step_ends r r' r2 l l' (Err e) h v a = step_cleared r r' l l' r2 e v a

pub step_ends_well : (r r' : Registers) (l l' : Memory) (o : Result Progress Fault) → is_err o ≡ false → Tries r l o r' l' → Steps r l o r' l'
step_ends_well r r' l l' (Ok o) h a = stepped r r' l l' o a
step_ends_well r r' l l' (Err e) h a = absurd (false≢true (sym h))
