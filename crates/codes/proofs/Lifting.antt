-- From what a group of words promises to what executing by code promises.
use Rattle.std.proofs.Common.{◌≡◌, ℕ, ◌-◌, Bool, true, false, ◌&&◌, leb, List, [], length, take, Ok, Err, Result, sym, refl, ◌∙◌, subst, arith, if◌then◌else◌}
use Rattle.std.proofs.lemmas.List.{append-nil}
use Rattle.std.proofs.lemmas.Bool as Tests
use Rattle.fault.specs.declared.Fault.{Fault}
use Rattle.store.specs.Meaning.{Meaning}
use Rattle.definition.specs.declared.registers.Mark.{Mark}
use Rattle.definition.specs.declared.ranged.Registers.{Registers}
use Rattle.definition.specs.Machine.{Machine}
use Rattle.definition.specs.Asked.{Asked, After}
use Rattle.definition.specs.Words.{do_kernel, row_of, other_word}
use Rattle.steps.specs.Does.{seen, acts, does, Did, DidType, Grows}
use Rattle.steps.proofs.States.{Asking, bare, asked_first}
use Rattle.codes.specs.Performs.{coded, went_by, Acts}

types_nothing : (x : Asked After) (m m' : Machine) (space : ℕ) (o : Result (Unit {0}) Fault) → Did x o m' → DidType x m space (went_by o) m' []
types_nothing x m m' space (Ok u) h = (h.0, h.1, h.2, h.3, omega arith)
types_nothing x m m' space (Err e) h = (h, refl)

pub grows_nothing : (out : List ℕ) (n : ℕ) → Grows out n [] out n
grows_nothing out n = (omega arith, sym (append-nil (take n out)))

pub quiet : (f : Machine → Asked After) (r r' : Registers) (i c t i' c' t' : List ℕ) (k k' : List Mark) (s s' : Meaning) (out : List ℕ) (n : ℕ) (o : Result (Unit {0}) Fault) → Did (f (seen r i c t k s)) o (seen r' i' c' t' k' s') → Acts f r (record { image = i; cells = c; returns = t; marks = k; out = out; typed = n; store = s }) (went_by o) r' (record { image = i'; cells = c'; returns = t'; marks = k'; out = out; typed = n; store = s' })
quiet f r r' i c t i' c' t' k k' s s' out n o h = record {
  new = [];
  output = grows_nothing out n;
  did = types_nothing (f (seen r i c t k s)) (seen r i c t k s) (seen r' i' c' t' k' s') (length out - n) o h;
}

if_true : {A : Type 0} (b : Bool) (x y : A) → b ≡ true → (if b then x else y) ≡ x
if_true true x y p = refl
if_true false x y p = absurd (Tests.false≢true p)

pub if_false : {A : Type 0} (b : Bool) (x y : A) → b ≡ false → (if b then x else y) ≡ y
if_false false x y p = refl
if_false true x y p = absurd (Tests.false≢true (sym p))

pub kernel_does : (again : ℕ → Machine → Asked After) (code t : ℕ) (m : Machine) → (leb 1 code && leb code 105) ≡ true → coded again code t m ≡ does code again m
kernel_does again code t m p = if_true (leb 1 code && leb code 105) (do_kernel again (row_of code) m) (other_word code t m) p

-- words that ask nothing of the state
pub plain_acts : (code t : ℕ) → Asking code [] → (m : Machine) → (again : ℕ → Machine → Asked After) → coded again code t m ≡ acts code again (bare m) m
plain_acts code t a m again = kernel_does again code t m a.kernel ∙ asked_first code [] a again m

pub plain_did : (code t : ℕ) → Asking code [] → (again : ℕ → Machine → Asked After) (m m' : Machine) (o : Result (Unit {0}) Fault) → Did (acts code again (bare m) m) o m' → Did (coded again code t m) o m'
plain_did code t a again m m' o h = subst (λ y. Did y o m') (sym (plain_acts code t a m again)) h
