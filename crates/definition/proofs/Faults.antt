-- A run that faulted keeps what its faultless steps left.
use Rattle.std.proofs.Common.{◌≡◌, ℕ, List, refl, arith}
use Rattle.fault.specs.declared.Fault.{Fault}
use Rattle.definition.specs.Machine.{Machine}
use Rattle.definition.specs.Run.{End, Report, finished, stopped, faulted, run}
use Rattle.definition.specs.Laws.{Steps, Ending, spent, full, done, fault, FaultLeaves, FaultInRun}
use Rattle.definition.proofs.Keeping.{fault_keeps}
use Rattle.definition.proofs.Turns.{run_outcome}

unlike : (e : End) (f : Fault) → e ≡ faulted f → ((e ≡ stopped) → ⊥) × ((e ≡ finished) → ⊥)
unlike e f p = ((λ q. let z : ◌≡◌ {A = ℕ} 0 1 = cc in omega arith), (λ q. let z : ◌≡◌ {A = ℕ} 0 1 = cc in omega arith))

fault_left : (budget space n : ℕ) (t : List ℕ) (m l : Machine) (r : Report) (f : Fault) → Steps n m t l → Ending budget space n t l r → r.end ≡ faulted f → FaultLeaves m r
fault_left budget space n t m l r f s (spent p) e = absurd ((unlike stopped f e).0 refl)
fault_left budget space n t m l r f s (full a p q h) e = absurd ((unlike stopped f e).0 refl)
fault_left budget space n t m l r f s (done m' p q) e = absurd ((unlike finished f e).1 refl)
fault_left budget space n t m l r f s (fault why m' p q) e =
    record { taken = n; last = l; steps = s; counted = refl; kept = fault_keeps l m' why q }

pub fault_in_run : FaultInRun
fault_in_run budget space m f e =
    let R = run_outcome budget space m in
    fault_left budget space R.taken R.typed m R.last (run budget space m) f R.steps R.ending e
