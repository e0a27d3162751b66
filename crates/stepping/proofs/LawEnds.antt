-- The laws of the definition's step, of the code's.
use Rattle.std.proofs.Common.{Ok, Err, Result, sym, ap, ◌∙◌, subst}
use Rattle.fault.specs.declared.Fault.{Fault}
use Rattle.definition.specs.declared.ranged.Registers.{Registers}
use Rattle.definition.specs.Machine.{dict_of}
use Rattle.definition.specs.Laws.{Keeps}
use Rattle.definition.proofs.Keeping.{fault_keeps}
use Rattle.steps.specs.declared.progress.Progress.{Progress}
use Rattle.steps.specs.declared.progress.Progress.TheVariants.{Went, Full, Finished}
use Rattle.step_changes.specs.Steady.{Steady}
use Rattle.step_changes.specs.Laws.{Turns, Stepped}
use Rattle.step_changes.proofs.Stepping.{step_changes}
use Rattle.codes.specs.Performs.{Memory, held}
use Rattle.stepping.specs.Steps.{Steps}
use Rattle.stepping.specs.Lawful.{Lawful, FaultKept}

module _ (r r' : Registers) (l l' : Memory) where
  pub lawful : (o : Result Progress Fault) → Steps r l o r' l' → Lawful r l o r' l'
  lawful (Ok Went) a s =
      let h = subst (Stepped (held r l)) a.came.1 (step_changes (held r l) s) in
      let e = a.came.2 in
      (a.came.0.news, subst (λ m. Turns a.came.0.news (dict_of (held r l)) (dict_of m)) e h.0, subst Steady e h.1)
  lawful (Ok Full) a s = a.came.3
  lawful (Ok Finished) a s = subst (Stepped (held r l)) a.came.0 (step_changes (held r l) s)
  lawful (Err e) a s =
      let h = subst (Stepped (held r l)) a.came.2 (step_changes (held r l) s) in
      let p = sym a.came.4 in
      (ap dict_of a.came.4 ∙ h.0, subst Steady p h.1)

  pub fault_kept : (o : Result Progress Fault) → Steps r l o r' l' → FaultKept r l o r' l'
  fault_kept (Ok o) a = tt
  fault_kept (Err e) a = subst (Keeps (held r l)) (sym a.came.4) (fault_keeps (held r l) a.came.1 a.came.0 a.came.2)
