-- Words that take nothing from the text: what their rows ask of the state, and then what they act.
use Rattle.std.proofs.Common.{◌≡◌, ℕ, true, ◌&&◌, leb, List, [], Err, Result, sym, ap, ◌∙◌, subst}
use Rattle.fault.specs.declared.Fault.{Fault}
use Rattle.definition.specs.Machine.{Machine}
use Rattle.definition.specs.Asked.{Asked, given, ◌>>=◌, ◌>>◌, After}
use Rattle.definition.specs.Kernel
use Rattle.definition.specs.Kernel.{Asks}
use Rattle.definition.specs.Words.{Argument, taken, all_asked, perform, do_kernel, row_of}
use Rattle.steps.specs.declared.progress.Progress.{Progress}
use Rattle.steps.specs.Does.{acts, does, IsRefused, Does, Did, DidType}
use Rattle.steps.proofs.Words.{refuses_on, did_by}

-- a row that takes nothing from the text, and asks these of the state
pub record Asking (code : ℕ) (qs : List Asks) : Type 0 where
  pub kernel : (leb 1 code && leb code 105) ≡ true
  pub takes : (row_of code).takes ≡ Kernel.nothing
  pub asks : (row_of code).asks ≡ qs

abbrev pub bare : Machine → Argument
bare m = record { machine = m; bytes = []; entry = 0 }

row_asked : (again : ℕ → Machine → Asked After) (r : Kernel.Row) (m : Machine) (qs : List Asks) → r.takes ≡ Kernel.nothing → r.asks ≡ qs → do_kernel again r m ≡ (all_asked qs m >> perform again r.action (bare m) m)
unfolding do_kernel taken
row_asked again r m qs p q =
    ap (λ z. taken z m >>= λ a. all_asked r.asks a.machine >> perform again r.action a a.machine) p
    ∙ ap (λ z. all_asked z m >> perform again r.action (bare m) m) q

module _ (n : ℕ) (qs : List Asks) (a : Asking n qs) (again : ℕ → Machine → Asked After) (m : Machine) where
  pub asked_first : does n again m ≡ (all_asked qs m >> acts n again (bare m) m)
  asked_first = row_asked again (row_of n) m qs a.takes a.asks

  pub refused_so : (e : Fault) → IsRefused (all_asked qs m) e m → Did (does n again m) (Err e) m
  refused_so e h = subst (λ (y : Asked After). IsRefused y e m) (sym asked_first) (refuses_on (all_asked qs m) (λ _. acts n again (bare m) m) e m h)

  acts_then : all_asked qs m ≡ given tt → does n again m ≡ acts n again (bare m) m
  acts_then h = asked_first ∙ ap (λ (y : Asked (Unit {0})). y >> acts n again (bare m) m) h

  pub done_so : (o : Result (Unit {0}) Fault) (m' : Machine) → all_asked qs m ≡ given tt → Does (acts n again (bare m)) m o m' → Did (does n again m) o m'
  done_so o m' h d = subst (λ (y : Asked After). Did y o m') (sym (acts_then h)) (did_by (acts n again (bare m)) m m' o d)

  pub typed_so : (space : ℕ) (o : Result Progress Fault) (m' : Machine) (new : List ℕ) → all_asked qs m ≡ given tt → DidType (acts n again (bare m) m) m space o m' new → DidType (does n again m) m space o m' new
  typed_so space o m' new h d = subst (λ (y : Asked After). DidType y m space o m' new) (sym (acts_then h)) d
