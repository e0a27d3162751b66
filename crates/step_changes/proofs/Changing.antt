-- A word that changes the dictionary leads on by allowed changes.
use Rattle.std.proofs.Common.{◌≡◌, ℕ, ◌+◌, ◌<◌, ◌≤◌, Bool, true, ◌≢◌, List, [], ◌∷◌, ◌++◌, length, sym, refl, ap, ◌∙◌, subst, arith}
use Rattle.std.specs.List.{AllByRecursion}
use Rattle.std.proofs.ByRecursion.{All-weaker}
use Rattle.std.proofs.lemmas.List.{length-append, get_or_append_left}
use Rattle.std.proofs.lemmas.Bool.{leb-true}
use Rattle.image.specs.Cells.{at, Bytes}
use Rattle.entries.specs.Entries.{first_at}
use Rattle.entries.proofs.Walks.{first_above}
use Rattle.dictionary.specs.Dict.{Dict, dp, appended, patched}
use Rattle.kernel.specs.Boot.{boot_dict}
use Rattle.forgetting.specs.Changes.{append, patch}
use Rattle.forgetting.specs.Changes.{changed as changed_by}
use Rattle.forgetting.specs.Law as law
use Rattle.forgetting.specs.Law.{Run}
use Rattle.forgetting.proofs.CellLaws.{length-set_cell, at_other}
use Rattle.definition.specs.declared.registers.Mark.{Mark}
use Rattle.definition.specs.Machine.{Machine, here, with_marks, with_compiling, changed, dict_of}
use Rattle.definition.specs.Define.{fits}
use Rattle.definition.specs.Compile.{appends}
use Rattle.step_changes.specs.Steady.{InOpen, Steady}
use Rattle.step_changes.specs.Laws.{Quietly, stays, and_then}
use Rattle.step_changes.proofs.Known.{known}
use Rattle.step_changes.proofs.Leading.{Leads, leads_ask}
use Rattle.definition.specs.Compile.{resolved}

pub run_quietly : {Z D E : Dict} → Run Z D → Quietly D E → Run Z E
run_quietly r stays = r
run_quietly r (and_then c q a k) = law.and_then c (run_quietly r q) a

pub quietly_then : {A B C : Dict} → Quietly A B → Quietly B C → Quietly A C
quietly_then p stays = p
quietly_then p (and_then c q a k) = and_then c (quietly_then p q) a k

-- with no entry open there is no mark
pub no_marks : (D : Dict) (P : Mark → Type 0) (ms : List Mark) → D.opened ≡ 0 → AllByRecursion (InOpen D) ms → AllByRecursion P ms
no_marks D P [] z a = tt
no_marks D P (k ∷ ms) z a = absurd (a.0.is_open z)

-- the machine's dictionary is the changed one
pub same_changed : (m : Machine) (f : Dict → Dict) → (f (dict_of m)).here ≡ here m → f (dict_of m) ≡ dict_of (changed f m)
same_changed m f e =
    let E = f (dict_of m) in
    λ i. record { low = E.low; here = e i; newest = E.newest; voc_link = E.voc_link; context = E.context; current = E.current; opened = E.opened }

pub with_change : (m : Machine) → Steady m → (f : Dict → Dict) (marks : List Mark) → (f (dict_of m)).here ≡ here m → Run boot_dict (f (dict_of m)) → (m.flow.compiling ≡ true → (f (dict_of m)).opened ≢ 0) → AllByRecursion (InOpen (f (dict_of m))) marks → Steady (with_marks marks (changed f m))
with_change m s f marks e r c k = record {
  came = subst (Run boot_dict) (same_changed m f e) r;
  compiles = c;
  marks = subst (λ D. AllByRecursion (InOpen D) marks) (same_changed m f e) k;
  stacks = record { cells = s.stacks.cells; depth = s.stacks.depth; returns = s.stacks.returns };
  text = s.text;
  space = s.space;
  pointer = s.pointer;
  store = s.store;
}

pub change_leads : (m : Machine) → Steady m → (f : Dict → Dict) (marks : List Mark) → (f (dict_of m)).here ≡ here m → Quietly (dict_of m) (f (dict_of m)) → (m.flow.compiling ≡ true → (f (dict_of m)).opened ≢ 0) → AllByRecursion (InOpen (f (dict_of m))) marks → Quietly (dict_of m) (dict_of (with_marks marks (changed f m))) × Steady (with_marks marks (changed f m))
change_leads m s f marks e q c k = (subst (Quietly (dict_of m)) (same_changed m f e) q, with_change m s f marks e (run_quietly s.came q) c k)

-- the compiling flag
pub with_compiling_lem : (m : Machine) → Steady m → (b : Bool) → (b ≡ true → m.names.opened ≢ 0) → Steady (with_compiling b m)
with_compiling_lem m s b h = record {
  came = s.came;
  compiles = h;
  marks = s.marks;
  stacks = s.stacks;
  text = s.text;
  space = s.space;
  pointer = s.pointer;
  store = s.store;
}

-- an open entry that grows keeps its beginning
pub record Grown (D E : Dict) : Type 0 where
  pub here : E.here ≡ D.here
  pub opened : E.opened ≡ D.opened
  pub first : first_at E.low E.opened ≡ first_at D.low D.opened
  pub longer : dp D ≤ dp E

pub grown_open : {D E : Dict} → Grown D E → (k : Mark) → InOpen D k → InOpen E k
grown_open g k i = record {
  is_open = λ z. i.is_open (sym g.opened ∙ z);
  above = omega (arith, g.first, i.above);
  below = omega (arith, g.longer, i.below);
}

pub grown_then : {D E F : Dict} → Grown D E → Grown E F → Grown D F
grown_then g h = record { here = h.here ∙ g.here; opened = h.opened ∙ g.opened; first = h.first ∙ g.first; longer = omega (arith, g.longer, h.longer) }

same_first : (low new : List ℕ) (e : ℕ) → at new (e + 2) ≡ at low (e + 2) → first_at new e ≡ first_at low e
unfolding first_at
same_first low new e h = ap (λ b. e + 5 + Prim.Native.Nat.◌%◌ b 32) h

module _ (D : Dict) (r : Run boot_dict D) (o : D.opened ≢ 0) where
  count_below : D.opened + 2 < dp D
  count_below = omega (arith, (known D r).first o, first_above D.low D.opened)

  pub grown_append : (bs : List ℕ) → Grown D (appended bs D)
  grown_append bs = record {
    here = refl;
    opened = refl;
    first = same_first D.low (D.low ++ bs) D.opened (get_or_append_left D.low bs 0 (D.opened + 2) count_below);
    longer = simp length-append (omega arith);
  }

  pub grown_patch : (a x : ℕ) → first_at D.low D.opened + 2 ≤ a → Grown D (patched a x D)
  grown_patch a x h = record {
    here = refl;
    opened = refl;
    first = same_first D.low _ D.opened (at_other D.low a x (D.opened + 2) (omega (arith, first_above D.low D.opened)) (omega (arith, first_above D.low D.opened)));
    longer = omega (arith, length-set_cell D.low a x);
  }

-- bytes appended, and cells of the open entry that learn DP
abbrev pub Patchable : Dict → ℕ → Type 0
Patchable D a = (first_at D.low D.opened + 2 ≤ a) × (a + 2 ≤ dp D)

pub grown_patchable : {D E : Dict} → Grown D E → (a : ℕ) → Patchable D a → Patchable E a
grown_patchable g a p = (omega (arith, g.first, p.0), omega (arith, g.longer, p.1))

pub appended_quietly : (D : Dict) → Run boot_dict D → D.opened ≢ 0 → (bs : List ℕ) → Bytes bs → dp D + length bs ≤ 32768 → Quietly D (appended bs D)
unfolding changed_by
appended_quietly D r o bs b h = and_then (append bs) stays (record { is_open = o; room = h; whole = b }) tt

pub resolved_quietly : (known-cells : List ℕ) (D : Dict) → Run boot_dict D → D.opened ≢ 0 → AllByRecursion (Patchable D) known-cells → Quietly D (resolved known-cells D) × Grown D (resolved known-cells D)
unfolding changed_by
resolved_quietly [] D r o p = (stays, record { here = refl; opened = refl; first = refl; longer = omega arith })
resolved_quietly (a ∷ rest) D r o p =
    let g = grown_patch D r o a (dp D) p.0.0 in
    let q : Quietly D (patched a (dp D) D) = and_then (patch a (dp D)) stays (record { is_open = o; above = p.0.0; below = p.0.1; value = omega (arith, (known D r).room) }) tt in
    let k = resolved_quietly rest (patched a (dp D) D) (run_quietly r q) o (All-weaker (Patchable D) (Patchable (patched a (dp D) D)) (grown_patchable g) rest p.1) in
    (quietly_then q k.0, grown_then g k.1)

module _ (m : Machine) (s : Steady m) (o : m.names.opened ≢ 0) where
  pub append_leads : (bs : List ℕ) → Bytes bs → Leads (dict_of m) (appends bs m)
  append_leads bs b =
      leads_ask _ _ _ (fits (length bs) m) _ (λ h.
      change_leads m s (appended bs) m.stacks.marks refl (appended_quietly (dict_of m) s.came o bs b (leb-true _ 32768 h)) (λ c. o) (All-weaker (InOpen (dict_of m)) (InOpen (appended bs (dict_of m))) (grown_open (grown_append (dict_of m) s.came o bs)) m.stacks.marks s.marks))
