-- A question that is answered leads on; what a word leaves is steady, part by part.
use Rattle.std.proofs.Common.{◌≡◌, ℕ, ◌+◌, ◌<◌, ◌≤◌, Bool, true, false, List, ◌∷◌, ◌++◌, length, drop, sym, refl, ap, subst, arith, if◌then◌else◌}
use Rattle.std.specs.List.{AllByRecursion}
use Rattle.std.proofs.lemmas.List.{length-append, length-drop}
use Rattle.std.proofs.ByRecursion.{All-append, All-drop}
use Rattle.std.proofs.lemmas.Bool.{leb-true}
use Rattle.fault.specs.declared.Reason.{Reason}
use Rattle.image.specs.Cells.{Bytes}
use Rattle.dictionary.specs.Dict.{Dict}
use Rattle.kernel.specs.Boot.{boot_dict}
use Rattle.forgetting.specs.Law.{Run}
use Rattle.definition.specs.Machine.{Machine, Stacks, Text, with_cells, with_returns, with_ip, with_text, with_high, with_stacks, dict_of}
use Rattle.definition.specs.Asked.{Asked, refused, given, ask, ◌>>=◌, ◌>>◌, After}
use Rattle.definition.specs.Stacks.{nth, nth_return, popped, pushed, popped_returns, pushed_returns, has_room, replaced}
use Rattle.step_changes.specs.Steady.{Cells, InOpen, StacksHold, TextHolds, Steady}
use Rattle.step_changes.specs.Laws.{Turns, Quietly, stays}
use Rattle.step_changes.proofs.Ranges.{all_or}

abbrev pub Leads : Dict → Asked After → Type 0
Leads D (refused why m) = Unit {0}
Leads D (given a) = Turns a.news D (dict_of a.machine) × Steady a.machine

-- an answer of another kind has a property
abbrev pub Gives : {A : Type 0} → (A → Type 0) → Asked A → Type 0
Gives P (refused why m) = Unit {0}
Gives P (given a) = P a

pub leads_ask : (D : Dict) (m : Machine) (why : Reason) (b : Bool) (rest : Asked After) → (b ≡ true → Leads D rest) → Leads D (ask m why b >> rest)
leads_ask D m why true rest h = h refl
leads_ask D m why false rest h = tt

pub leads_if : (D : Dict) (b : Bool) (x y : Asked After) → (b ≡ true → Leads D x) → (b ≡ false → Leads D y) → Leads D (if b then x else y)
leads_if D true x y p q = p refl
leads_if D false x y p q = q refl

pub leads_given : (D : Dict) {A : Type 0} (P : A → Type 0) (a : Asked A) (g : A → Asked After) → Gives P a → ((x : A) → P x → Leads D (g x)) → Leads D (a >>= g)
leads_given D P (refused why m) g c h = tt
leads_given D P (given x) g c h = h x c

pub gives_ask : {A : Type 0} (P : A → Type 0) (m : Machine) (why : Reason) (b : Bool) (rest : Asked A) → (b ≡ true → Gives P rest) → Gives P (ask m why b >> rest)
gives_ask P m why true rest h = h refl
gives_ask P m why false rest h = tt

pub gives_on : {A B : Type 0} (P : A → Type 0) (Q : B → Type 0) (a : Asked A) (g : A → Asked B) → Gives P a → ((x : A) → P x → Gives Q (g x)) → Gives Q (a >>= g)
gives_on P Q (refused why m) g c h = tt
gives_on P Q (given x) g c h = h x c

pub gives_if : {A : Type 0} (P : A → Type 0) (b : Bool) (x y : Asked A) → (b ≡ true → Gives P x) → (b ≡ false → Gives P y) → Gives P (if b then x else y)
gives_if P true x y p q = p refl
gives_if P false x y p q = q refl

-- a word without news
pub stayed : {D : Dict} (m : Machine) → Quietly D (dict_of m) → Steady m → Quietly D (dict_of m) × Steady m
stayed m q s = (q, s)

-- one part replaced
module _ (m : Machine) (s : Steady m) where
  pub with_stacks_lem : (k : Stacks) → StacksHold k → k.marks ≡ m.stacks.marks → Steady (with_stacks k m)
  with_stacks_lem k h e = record {
    came = s.came;
    compiles = s.compiles;
    marks = subst (AllByRecursion (InOpen (dict_of m))) (sym e) s.marks;
    stacks = h;
    text = s.text;
    space = s.space;
    pointer = s.pointer;
    store = s.store;
  }

  pub with_cells_lem : (xs : List ℕ) → Cells xs → length xs ≤ 128 → Steady (with_cells xs m)
  with_cells_lem xs h l = with_stacks_lem _ (record { cells = h; depth = l; returns = s.stacks.returns }) refl

  pub with_returns_lem : (xs : List ℕ) → Cells xs → Steady (with_returns xs m)
  with_returns_lem xs h = with_stacks_lem _ (record { cells = s.stacks.cells; depth = s.stacks.depth; returns = h }) refl

  pub with_ip_lem : (x : ℕ) → x < 65536 → Steady (with_ip x m)
  with_ip_lem x h = record {
    came = s.came;
    compiles = s.compiles;
    marks = s.marks;
    stacks = s.stacks;
    text = s.text;
    space = s.space;
    pointer = h;
    store = s.store;
  }

  pub with_text_lem : (t : Text) → TextHolds t → Steady (with_text t m)
  with_text_lem t h = record {
    came = s.came;
    compiles = s.compiles;
    marks = s.marks;
    stacks = s.stacks;
    text = h;
    space = s.space;
    pointer = s.pointer;
    store = s.store;
  }

  pub nth_cell : (k : ℕ) → nth k m < 65536
  nth_cell k = all_or (λ x. x < 65536) m.stacks.cells k 0 (omega arith) s.stacks.cells

  pub nth_return_lem : (k : ℕ) → nth_return k m < 65536
  nth_return_lem k = all_or (λ x. x < 65536) m.stacks.returns k 0 (omega arith) s.stacks.returns

  pub with_popped : (n : ℕ) → Steady (popped n m)
  with_popped n = with_cells_lem (drop n m.stacks.cells) (All-drop (λ x. x < 65536) n m.stacks.cells s.stacks.cells) (simp length-drop (omega (arith, s.stacks.depth)))

  pub with_popped_returns : (n : ℕ) → Steady (popped_returns n m)
  with_popped_returns n = with_returns_lem (drop n m.stacks.returns) (All-drop (λ x. x < 65536) n m.stacks.returns s.stacks.returns)

  pub with_pushed_returns : (xs : List ℕ) → Cells xs → Steady (pushed_returns xs m)
  with_pushed_returns xs h = with_returns_lem (xs ++ m.stacks.returns) (All-append (λ x. x < 65536) xs m.stacks.returns h s.stacks.returns)

  pub with_pushed : (x : ℕ) → x < 65536 → has_room 1 m ≡ true → Steady (pushed x m)
  with_pushed x h r = with_cells_lem (x ∷ m.stacks.cells) (h, s.stacks.cells) (omega (arith, leb-true _ _ r))

  pub replaced_leads : (n : ℕ) (xs : List ℕ) → Cells xs → Leads (dict_of m) (replaced n xs m)
  replaced_leads n xs h = leads_ask _ _ _ (has_room (length xs) (popped n m)) _ (λ r. stayed (with_cells (xs ++ drop n m.stacks.cells) m) stays (with_cells_lem (xs ++ drop n m.stacks.cells) (All-append (λ x. x < 65536) xs (drop n m.stacks.cells) h (All-drop (λ x. x < 65536) n m.stacks.cells s.stacks.cells)) (simp length-append (omega (arith, leb-true (length xs + length (drop n m.stacks.cells)) 128 r)))))

-- HERE stays

abbrev dict_here : Machine → ℕ → Dict
dict_here m h = record { low = m.low; here = h; newest = m.names.newest; voc_link = m.names.voclink; context = m.order.context; current = m.order.current; opened = m.names.opened }

pub same_dict : (m : Machine) (xs : List ℕ) → length xs ≡ length m.high → dict_of m ≡ dict_of (with_high xs m)
same_dict m xs e = ap (λ n. dict_here m (32768 + n)) (sym e)

pub with_high_lem : (m : Machine) → Steady m → (xs : List ℕ) → Bytes xs → length xs ≡ length m.high → Steady (with_high xs m)
with_high_lem m s xs h e = record {
  came = subst (Run boot_dict) (same_dict m xs e) s.came;
  compiles = s.compiles;
  marks = subst (λ D. AllByRecursion (InOpen D) m.stacks.marks) (same_dict m xs e) s.marks;
  stacks = s.stacks;
  text = s.text;
  space = record { bytes = h; long = omega (arith, s.space.long); short = omega (arith, s.space.short) };
  pointer = s.pointer;
  store = s.store;
}
