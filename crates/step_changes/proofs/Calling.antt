-- What a call does to a machine is a history.
use Rattle.std.proofs.Common.{◌≡◌, ℕ, zero, suc, Bool, true, false, leb, List, length, Option, refl, subst}
use Rattle.std.proofs.lemmas.Bool.{leb-true}
use Rattle.fault.specs.declared.Reason.TheVariants.{LineTooLong}
use Rattle.image.specs.Cells.{Bytes}
use Rattle.definition.specs.Machine.{Machine}
use Rattle.definition.specs.Asked as asked
use Rattle.definition.specs.Asked.{Asked, ask, ◌>>=◌, ◌>>◌}
use Rattle.definition.specs.Run as running
use Rattle.definition.specs.Run.{Report}
use Rattle.definition.specs.Calls
use Rattle.definition.specs.Calls.{called, lined, after_line, after_lookup, lookup_asked}
use Rattle.definition.specs.Laws.{Steps, Ending, spent, full, done, fault}
use Rattle.definition.proofs.Turns.{run_outcome}
use Rattle.step_changes.specs.Laws.{Moment, goes, finishes, faults, given, aborts, History, here, after, CallsInMoments}

-- faultless steps, and what comes behind them

front : {a b c : Machine} → Moment a b → History b c → History a c
front k here = after here k
front k (after h l) = after (front k h) l

steps_history : (n : ℕ) (m : Machine) (typed : List ℕ) (l : Machine) → Steps n m typed l → History m l
steps_history zero m typed l s = subst (History m) s.1 here
steps_history (suc n) m typed l (a, p, (rest, e, s)) = front (goes a p) (steps_history n a.machine rest l s)

ending_history : {budget space n : ℕ} {typed : List ℕ} {l : Machine} {r : Report} (m : Machine) → History m l → Ending budget space n typed l r → History m r.machine
ending_history m h (spent p) = h
ending_history m h (full a p q f) = h
ending_history m h (done m' p q) = after h (finishes m' q)
ending_history m h (fault why m' p q) = after h (faults why m' q)

run_history : (budget space : ℕ) (m : Machine) → History m (running.run budget space m).machine
run_history budget space m =
    let r = run_outcome budget space m in
    ending_history m (steps_history r.taken m r.typed r.last r.steps) r.ending

line_history : (text : List ℕ) (m : Machine) → Bytes text → (b : Bool) → leb (length text) 128 ≡ b → History m (after_line (ask m LineTooLong b >> asked.given (lined text m))).machine
line_history text m h true e = after here (given text h (leb-true (length text) 128 e))
line_history text m h false e = here

lookup_history : (m : Machine) (x : Asked (Option ℕ)) → History m (after_lookup m x).machine
lookup_history m (asked.refused why m') = here
lookup_history m (asked.given e) = here

pub calls_in_moments : CallsInMoments
unfolding called
calls_in_moments (Calls.line text) m h = line_history text m h (leb (length text) 128) refl
calls_in_moments (Calls.run budget space) m h = run_history budget space m
calls_in_moments Calls.abort m h = after here aborts
calls_in_moments (Calls.lookup name) m h = lookup_history m (lookup_asked name m)
calls_in_moments (Calls.peek k) m h = here
