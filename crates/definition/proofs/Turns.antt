-- A run as a relation, and a run cut in two.
use Rattle.std.proofs.Common.{◌≡◌, ℕ, zero, suc, ◌+◌, ◌-◌, ◌≤◌, Bool, true, false, leb, List, [], ◌++◌, length, sym, refl, ap, ◌∙◌, subst, append_assoc, append-nil, add-zero, add_assoc, suc-add, zero-add, arith, length-append}
use Rattle.std.proofs.lemmas.Bool.{leb-true, leb-false}
use Rattle.std.proofs.lemmas.Bool.Decides.{nat_tests}
use Rattle.fault.specs.Numbers.{fault_of}
use Rattle.definition.specs.Machine.{Machine, told}
use Rattle.definition.specs.Asked.{After}
use Rattle.definition.specs.Step
use Rattle.definition.specs.Step.{Outcome, step}
use Rattle.definition.specs.Run.{End, Report, report, finished, stopped, faulted, cleared, run_from, run}
use Rattle.definition.specs.Laws.{Steps, Ending, spent, full, done, fault, Ran, RunOutcome, RunOnly, RunCut}

-- one turn of a run, by what the step does

abbrev turn : ℕ → ℕ → List ℕ → ℕ → Machine → Outcome → Report
turn budget space typed n m (Step.finished m') = report finished typed (n + 1) m'
turn budget space typed n m (Step.failed why m') = report (faulted (fault_of why (told m'))) typed (n + 1) (cleared m')
turn budget space typed n m (Step.went a) =
    elim (leb (length a.typed) space) [
      | true ↦ run_from budget (space - length a.typed) (typed ++ a.typed) (n + 1) a.machine
      | false ↦ report stopped typed n m
    ]

turned : (budget space : ℕ) (typed : List ℕ) (n : ℕ) (m : Machine) → run_from (suc budget) space typed n m ≡ turn budget space typed n m (step m)
turned budget space typed n m = refl

-- a report behind n steps that typed these bytes
abbrev shifted : List ℕ → ℕ → Report → Report
shifted t n r = report r.end (t ++ r.typed) (n + r.steps) r.machine

same_report : (r : Report) (t : List ℕ) (n : ℕ) → r.typed ≡ t → r.steps ≡ n → r ≡ report r.end t n r.machine
same_report r t n p q = λ i. report r.end (p i) (q i) r.machine

abbrev fitting : ℕ → ℕ → After → List ℕ → ℕ → Machine → Bool → Report
fitting budget space a typed n m true = run_from budget (space - length a.typed) (typed ++ a.typed) (n + 1) a.machine
fitting budget space a typed n m false = report stopped typed n m

abbrev Shift : ℕ → Type 0
Shift budget = (space : ℕ) (t : List ℕ) (n : ℕ) (m : Machine) → run_from budget space t n m ≡ shifted t n (run_from budget space [] 0 m)

shift_went : (budget space : ℕ) (a : After) (t : List ℕ) (n : ℕ) (m : Machine) (b : Bool) → Shift budget → fitting budget space a t n m b ≡ shifted t n (fitting budget space a [] 0 m b)
shift_went budget space a t n m false ih =
    same_report (report stopped t n m) (t ++ []) (n + 0) (sym (append-nil t)) (sym (add-zero n))
shift_went budget space a t n m true ih =
    let left = space - length a.typed in
    let R = run_from budget left [] 0 a.machine in
    ih left (t ++ a.typed) (n + 1) a.machine
    ∙ same_report (shifted (t ++ a.typed) (n + 1) R) (t ++ (a.typed ++ R.typed)) (n + (1 + R.steps)) (append_assoc t a.typed R.typed) (add_assoc n 1 R.steps)
    ∙ ap (shifted t n) (sym (ih left a.typed 1 a.machine))

shift_turn : (budget space : ℕ) (t : List ℕ) (n : ℕ) (m : Machine) (o : Outcome) → Shift budget → turn budget space t n m o ≡ shifted t n (turn budget space [] 0 m o)
shift_turn budget space t n m (Step.finished m') ih = same_report (report finished t (n + 1) m') (t ++ []) (n + 1) (sym (append-nil t)) refl
shift_turn budget space t n m (Step.failed why m') ih =
    same_report (report (faulted (fault_of why (told m'))) t (n + 1) (cleared m')) (t ++ []) (n + 1) (sym (append-nil t)) refl
shift_turn budget space t n m (Step.went a) ih = shift_went budget space a t n m (leb (length a.typed) space) ih

shift : (budget : ℕ) → Shift budget
shift zero space t n m = same_report (report stopped t n m) (t ++ []) (n + 0) (sym (append-nil t)) (sym (add-zero n))
shift (suc budget) space t n m = shift_turn budget space t n m (step m) (shift budget)

-- the relation, behind one more step

ending_shifted : (budget space n k : ℕ) (t u : List ℕ) (m : Machine) (r : Report) → k ≡ suc n → length t ≤ space → Ending budget (space - length t) n u m r → Ending (suc budget) space k (t ++ u) m (shifted t 1 r)
ending_shifted budget space n k t u m r e h (spent p) =
    let q : 1 + n ≡ k = omega arith in
    subst (λ z. Ending (suc budget) space k (t ++ u) m (report stopped (t ++ u) z m)) (sym q) (spent (omega arith))
ending_shifted budget space n k t u m r e h (full a p q l) =
    let z : 1 + n ≡ k = omega arith in
    subst (λ z. Ending (suc budget) space k (t ++ u) m (report stopped (t ++ u) z m)) (sym z) (full a (omega arith) q (simp length-append (omega arith)))
ending_shifted budget space n k t u m r e h (done m' p q) =
    let z : 1 + (n + 1) ≡ k + 1 = omega arith in
    subst (λ z. Ending (suc budget) space k (t ++ u) m (report finished (t ++ u) z m')) (sym z) (done m' (omega arith) q)
ending_shifted budget space n k t u m r e h (fault why m' p q) =
    let z : 1 + (n + 1) ≡ k + 1 = omega arith in
    subst (λ z. Ending (suc budget) space k (t ++ u) m (report (faulted (fault_of why (told m'))) (t ++ u) z (cleared m'))) (sym z) (fault why m' (omega arith) q)

abbrev Runs : ℕ → Type 0
Runs budget = (space : ℕ) (m : Machine) → Ran budget space m (run_from budget space [] 0 m)

ran_went : (budget space : ℕ) (a : After) (m : Machine) (b : Bool) → leb (length a.typed) space ≡ b → step m ≡ Step.went a → Runs budget → Ran (suc budget) space m (fitting budget space a [] 0 m b)
ran_went budget space a m false f e ih = record {
  taken = 0;
  typed = [];
  last = m;
  steps = (refl, refl);
  fits = omega arith;
  ending = full a (omega arith) e (omega (arith, leb-false (length a.typed) space f));
}
ran_went budget space a m true f e ih =
    let left = space - length a.typed in
    let R = ih left a.machine in
    let h : length a.typed ≤ space = leb-true (length a.typed) space f in
    let r : Ran (suc budget) space m (shifted a.typed 1 (run_from budget left [] 0 a.machine)) =
    record {
      taken = suc R.taken;
      typed = a.typed ++ R.typed;
      last = R.last;
      steps = (a, e, (R.typed, refl, R.steps));
      fits = simp length-append (omega (arith, R.fits));
      ending =
          ending_shifted budget space R.taken (suc R.taken) a.typed R.typed R.last (run_from budget left [] 0 a.machine) refl h R.ending;
    } in
    subst (Ran (suc budget) space m) (sym (shift budget left a.typed 1 a.machine)) r

ran_turn : (budget space : ℕ) (m : Machine) (o : Outcome) → step m ≡ o → Runs budget → Ran (suc budget) space m (turn budget space [] 0 m o)
ran_turn budget space m (Step.finished m') e ih =
    record { taken = 0; typed = []; last = m; steps = (refl, refl); fits = omega arith; ending = done m' (omega arith) e }
ran_turn budget space m (Step.failed why m') e ih =
    record { taken = 0; typed = []; last = m; steps = (refl, refl); fits = omega arith; ending = fault why m' (omega arith) e }
ran_turn budget space m (Step.went a) e ih = ran_went budget space a m (leb (length a.typed) space) refl e ih

ran : (budget : ℕ) → Runs budget
ran zero space m = record { taken = 0; typed = []; last = m; steps = (refl, refl); fits = omega arith; ending = spent refl }
ran (suc budget) space m = ran_turn budget space m (step m) refl (ran budget)

pub run_outcome : RunOutcome
unfolding run
run_outcome budget space m = ran budget space m

-- a run cut in two

abbrev gone : ℕ → ℕ → Report → Report
gone budget space r =
    elim r.end [
      | finished ↦ r
      | faulted f ↦ r
      | stopped ↦ shifted r.typed r.steps (run_from budget (space - length r.typed) [] 0 r.machine)
    ]

gone_shifted : (budget space : ℕ) (t : List ℕ) (e : End) (u : List ℕ) (n : ℕ) (m : Machine) → shifted t 1 (gone budget (space - length t) (report e u n m)) ≡ gone budget space (shifted t 1 (report e u n m))
gone_shifted budget space t finished u n m = refl
gone_shifted budget space t (faulted f) u n m = refl
gone_shifted budget space t stopped u n m =
    let less : space - length t - length u ≡ space - length (t ++ u) = simp length-append (omega arith) in
    let R : ℕ → Report = λ k. run_from budget k [] 0 m in
    let k = space - length t - length u in
    same_report (shifted t 1 (shifted u n (R k))) ((t ++ u) ++ (R k).typed) (1 + n + (R k).steps) (sym (append_assoc t u (R k).typed)) (sym (add_assoc 1 n (R k).steps))
    ∙ ap (λ z. shifted (t ++ u) (1 + n) (R z)) less

abbrev Cut : ℕ → Type 0
Cut a = (b space : ℕ) (m : Machine) → run_from (a + b) space [] 0 m ≡ gone b space (run_from a space [] 0 m)

-- nothing was run yet
from_start : (b space : ℕ) (m : Machine) → run_from b space [] 0 m ≡ gone b space (report stopped [] 0 m)
from_start b space m =
    let z : space ≡ space - 0 = omega arith in
    shift b space [] 0 m ∙ ap (λ k. shifted [] 0 (run_from b k [] 0 m)) z

full_stays : (b space : ℕ) (a : After) (m : Machine) → step m ≡ Step.went a → leb (length a.typed) space ≡ false → run_from b space [] 0 m ≡ report stopped [] 0 m
full_stays zero space a m e f = refl
full_stays (suc b) space a m e f = ap (turn b space [] 0 m) e ∙ ap (fitting b space a [] 0 m) f

cut_went : (a b space : ℕ) (c : After) (m : Machine) (f : Bool) → leb (length c.typed) space ≡ f → step m ≡ Step.went c → Cut a → fitting (a + b) space c [] 0 m f ≡ gone b space (fitting a space c [] 0 m f)
cut_went a b space c m false f e ih = sym (full_stays b space c m e f) ∙ from_start b space m
cut_went a b space c m true f e ih =
    let left = space - length c.typed in
    let R = run_from a left [] 0 c.machine in
    shift (a + b) left c.typed 1 c.machine
    ∙ ap (shifted c.typed 1) (ih b left c.machine)
    ∙ gone_shifted b space c.typed R.end R.typed R.steps R.machine
    ∙ ap (gone b space) (sym (shift a left c.typed 1 c.machine))

cut_turn : (a b space : ℕ) (m : Machine) (o : Outcome) → step m ≡ o → Cut a → turn (a + b) space [] 0 m o ≡ gone b space (turn a space [] 0 m o)
cut_turn a b space m (Step.finished m') e ih = refl
cut_turn a b space m (Step.failed why m') e ih = refl
cut_turn a b space m (Step.went c) e ih = cut_went a b space c m (leb (length c.typed) space) refl e ih

cut : (a : ℕ) → Cut a
cut zero b space m = ap (λ k. run_from k space [] 0 m) (zero-add b) ∙ from_start b space m
cut (suc a) b space m = ap (λ k. run_from k space [] 0 m) (suc-add a b) ∙ cut_turn a b space m (step m) refl (cut a)

pub run_cut : RunCut
unfolding run
run_cut a b space m = cut a b space m

-- nothing else is a run's outcome

only_none : (budget space : ℕ) (m : Machine) (r : Report) → Ending budget space 0 [] m r → r ≡ run_from budget space [] 0 m
only_none budget space m r (spent p) = ap (λ b. run_from b space [] 0 m) p
only_none budget space m r (full a p q h) = sym (full_stays budget space a m q (grind (arith, nat_tests)))
only_none zero space m r (done m' p q) = absurd (omega arith)
only_none (suc b) space m r (done m' p q) = sym (ap (turn b space [] 0 m) q)
only_none zero space m r (fault why m' p q) = absurd (omega arith)
only_none (suc b) space m r (fault why m' p q) = sym (ap (turn b space [] 0 m) q)

-- a report is that of one step less, behind that step
pub record Before (budget space k : ℕ) (t u : List ℕ) (l : Machine) (r : Report) : Type 0 where
  pub report : Report
  pub ending : Ending budget (space - length t) k u l report
  pub is : r ≡ shifted t 1 report

same_end : (e : End) (s t : List ℕ) (n k : ℕ) (m : Machine) → s ≡ t → n ≡ k → report e s n m ≡ report e t k m
same_end e s t n k m p q = λ i. report e (p i) (q i) m

before : (budget space k n : ℕ) (t u v : List ℕ) (l : Machine) (r : Report) → n ≡ suc k → v ≡ t ++ u → length t ≤ space → Ending (suc budget) space n v l r → Before budget space k t u l r
before budget space k n t u v l r e w h (spent p) = record { report = report stopped u k l; ending = spent (omega arith); is = same_end stopped v (t ++ u) n (1 + k) l w (omega arith) }
before budget space k n t u v l r e w h (full a p q g) =
    let long : length v ≡ length t + length u = ap length w ∙ length-append t u in
    record { report = report stopped u k l; ending = full a (omega arith) q (omega arith); is = same_end stopped v (t ++ u) n (1 + k) l w (omega arith) }
before budget space k n t u v l r e w h (done m' p q) =
    record { report = report finished u (k + 1) m'; ending = done m' (omega arith) q; is = same_end finished v (t ++ u) (n + 1) (1 + (k + 1)) m' w (omega arith) }
before budget space k n t u v l r e w h (fault why m' p q) =
    let f = fault_of why (told m') in
    record {
      report = report (faulted f) u (k + 1) (cleared m');
      ending = fault why m' (omega arith) q;
      is = same_end (faulted f) v (t ++ u) (n + 1) (1 + (k + 1)) (cleared m') w (omega arith);
    }

-- an ending behind a step leaves a budget
has_budget : (budget space k : ℕ) (t : List ℕ) (l : Machine) (r : Report) → Ending budget space (suc k) t l r → suc k ≤ budget
has_budget budget space k t l r (spent p) = omega arith
has_budget budget space k t l r (full a p q h) = omega arith
has_budget budget space k t l r (done m' p q) = omega arith
has_budget budget space k t l r (fault why m' p q) = omega arith

only : (n budget space : ℕ) (m : Machine) (t : List ℕ) (l : Machine) (r : Report) → Steps n m t l → length t ≤ space → Ending budget space n t l r → r ≡ run_from budget space [] 0 m
only zero budget space m t l r s h e =
    let E : Ending budget space 0 [] l r = subst (λ (z : List ℕ). Ending budget space 0 z l r) s.0 e in
    only_none budget space m r (subst (λ (z : Machine). Ending budget space 0 [] z r) (sym s.1) E)
only (suc k) zero space m t l r s h e = absurd (omega (arith, has_budget zero space k t l r e))
only (suc k) (suc b) space m t l r s h e =
    let a = s.0 in
    let u = s.2.0 in
    let w : t ≡ a.typed ++ u = s.2.1 in
    let long : length t ≡ length a.typed + length u = ap length w ∙ length-append a.typed u in
    let B = before b space k (suc k) a.typed u t l r refl w (omega arith) e in
    let left = space - length a.typed in
    let yes : leb (length a.typed) space ≡ true = grind (arith, nat_tests) in
    B.is
    ∙ ap (shifted a.typed 1) (only k b left a.machine u l B.report s.2.2 (omega arith) B.ending)
    ∙ sym (shift b left a.typed 1 a.machine)
    ∙ ap (fitting b space a [] 0 m) (sym yes)
    ∙ ap (turn b space [] 0 m) (sym s.1)

pub run_only : RunOnly
unfolding run
run_only budget space m r R = only R.taken budget space m R.typed R.last r R.steps R.fits R.ending
