-- Tokens executed, and one step.
use Rattle.std.proofs.Common.{◌≡◌, ℕ, zero, suc, ◌+◌, ◌-◌, ◌<◌, Bool, true, false, ◌&&◌, ◌||◌, eqb, leb, List, [], ◌∷◌, length, Some, None, Option, sym, refl, subst, inl, inr, arith, lit<, if◌then◌else◌}
use Rattle.std.specs.List.{AllByRecursion}
use Rattle.std.proofs.lemmas.Bool.{false≢true}
use Rattle.image.specs.Cells.{cell, cell_at, Bytes}
use Rattle.entries.specs.Entries.{token_of, is_immediate}
use Rattle.entries.specs.Search.{Found, missing, broken, hit}
use Rattle.dictionary.specs.Search.{searched}
use Rattle.numbers.specs.Text.{number_in}
use Rattle.kernel.specs.Boot.{boot_dict}
use Rattle.forgetting.specs.Changes.{give_up}
use Rattle.forgetting.specs.Changes.{changed as changed_by}
use Rattle.forgetting.specs.Law as law
use Rattle.forgetting.specs.Law.{Run}
use Rattle.forgetting.proofs.Trims.{append-bytes}
use Rattle.definition.specs.declared.registers.Position.{Position}
use Rattle.definition.specs.Machine.{Machine, ip, dict_of}
use Rattle.definition.specs.Asked.{Asked, refused, given, ◌>>=◌, ◌>>◌, After}
use Rattle.definition.specs.Text.{Taken, next_word, no_word_left, is_name, ask_found, ask_there}
use Rattle.definition.specs.Kernel
use Rattle.definition.specs.Kernel.{Row, Action}
use Rattle.definition.specs.Stacks.{nth, popped, has_cells}
use Rattle.definition.specs.Space.{base}
use Rattle.definition.specs.Compile.{literal_of}
use Rattle.definition.specs.Flow.{in_dictionary, has_inline, inline, past}
use Rattle.definition.specs.Words.{Argument, taken, all_asked, perform, do_kernel, row_of, other_word, execute_within, execute}
use Rattle.definition.specs.Boot.{kernel, kernel_token}
use Rattle.definition.specs.Step
use Rattle.definition.specs.Step.{Outcome, Word, step}
use Rattle.definition.specs.Run.{cleared}
use Rattle.definition.specs.Laws.{Keeps}
use Rattle.definition.proofs.Keeping.{fault_keeps}
use Rattle.step_changes.specs.Steady.{BlockInCell, SpaceHolds, StoreHolds, Steady}
use Rattle.step_changes.specs.Laws.{Stepped, StepChanges, stays}
use Rattle.step_changes.proofs.Ranges.{all_or, bytes_cell}
use Rattle.step_changes.proofs.Leading.{Leads, Gives, leads_ask, leads_if, leads_given, with_popped, replaced_leads}
use Rattle.step_changes.proofs.Plain.{cells_lead, typing_leads, returns_lead, low_cell, past_steady}
use Rattle.step_changes.proofs.Spacing.{space_leads}
use Rattle.step_changes.proofs.Buffering.{with_reading, saved_store, bringing_leads, blocks_lead}
use Rattle.step_changes.proofs.Changing.{append_leads}
use Rattle.step_changes.proofs.Compiling.{compiling_leads}
use Rattle.step_changes.proofs.Flowing.{inlines_lead, other_leads}
use Rattle.step_changes.proofs.Defining.{defining_leads}
use Rattle.step_changes.proofs.Taking.{CellOr, Took, taken_gives, found_token, number_cell, next_steady}
use Rattle.step_changes.proofs.Rows.{Given, Proper, kernel_proper, leads_asked}

performs : (again : ℕ → Machine → Asked After) → ((t : ℕ) (m : Machine) → Steady m → Leads (dict_of m) (again t m)) → (w : Action) (a : Argument) (s : Steady a.machine) → Given w a s → Leads (dict_of a.machine) (perform again w a a.machine)
unfolding perform
performs again g (Kernel.cells w) a s h = cells_lead a.machine s w h
performs again g (Kernel.space w) a s h = space_leads a.machine s w h
performs again g (Kernel.typing w) a s h = typing_leads a.machine s w
performs again g (Kernel.blocks w) a s h = blocks_lead a.machine s w
performs again g (Kernel.defining w) a s h = defining_leads a.machine s w a.bytes a.entry h
performs again g (Kernel.compiling w) a s h = compiling_leads a.machine s h.0 w a.entry a.bytes h.1
performs again g (Kernel.returns w) a s h = returns_lead a.machine s w
performs again g (Kernel.inlines w) a s h = inlines_lead a.machine s w h
performs again g Kernel.execute a s h = leads_ask _ _ _ (has_cells 1 a.machine) _ (λ c. g (nth 0 a.machine) (popped 1 a.machine) (with_popped a.machine s 1))
performs again g Kernel.tick a s h = replaced_leads a.machine s 0 (token_of a.machine.low a.entry ∷ []) (h, tt)
performs again g Kernel.to_body a s h =
    let m = a.machine in
    let code = cell_at m.low (nth 0 m) in
    leads_ask _ _ _ (has_cells 1 m) _ (λ c. leads_ask _ _ _ (in_dictionary (nth 0 m) 4 m && (eqb code 202 || eqb code 205)) _ (λ d. replaced_leads m s 1 (cell_at m.low (nth 0 m + 2) ∷ []) (low_cell m s (nth 0 m + 2), tt)))
performs again g Kernel.comment a s h = (stays, s)
performs again g Kernel.abort a s h = tt

kernel_leads : (again : ℕ → Machine → Asked After) → ((t : ℕ) (m : Machine) → Steady m → Leads (dict_of m) (again t m)) → (r : Row) → Proper r → (m : Machine) → Steady m → Leads (dict_of m) (do_kernel again r m)
unfolding do_kernel
kernel_leads again g r h m s =
    leads_given (dict_of m) (Took r.takes m) (taken r.takes m) (λ a. all_asked r.asks a.machine >> perform again r.action a a.machine) (taken_gives r.takes m s)
    (λ a k. subst (λ D. Leads D (all_asked r.asks a.machine >> perform again r.action a a.machine)) k.0.1
    (leads_asked (dict_of a.machine) a.machine r.asks (perform again r.action a a.machine) (λ q. performs again g r.action a k.0.0 (h a k.0.0 k.1 q))))

execute_leads : (depth t : ℕ) (m : Machine) → Steady m → Leads (dict_of m) (execute_within depth t m)
unfolding execute_within
execute_leads zero t m s = tt
execute_leads (suc depth) t m s =
    let code = cell_at m.low t in
    leads_ask _ _ _ (in_dictionary t 2 m) _ (λ d.
    leads_if (dict_of m) (leb 1 code && leb code 105) (do_kernel (execute_within depth) (row_of code) m) (other_word code t m)
    (λ e. kernel_leads (execute_within depth) (λ t m s. execute_leads depth t m s) (row_of code) (all_or Proper kernel (code - 1) _ (λ a s f k. tt) kernel_proper) m s)
    (λ e. other_leads m s code t d))

pub executed : (t : ℕ) (m : Machine) → Steady m → Leads (dict_of m) (execute t m)
unfolding execute
executed t m s = execute_leads (suc (length m.stacks.cells)) t m s

-- a word of the text

abbrev Means : Word → Type 0
Means (Step.immediate t) = Unit {0}
Means (Step.plain t) = t < 65536
Means (Step.number n) = n < 65536

abbrev FoundIn : Machine → Option ℕ → Type 0
FoundIn m None = Unit {0}
FoundIn m (Some e) = token_of m.low e < 65536

module _ (m : Machine) (s : Steady m) where
  found_gives : (name : List ℕ) (f : Found) → searched (dict_of m) name ≡ f → Gives (FoundIn m) (ask_found m f)
  found_gives name missing h = tt
  found_gives name broken h = tt
  found_gives name (hit e) h = found_token m s name e h

  word_gives : (bytes : List ℕ) (found : Option ℕ) → FoundIn m found → Gives Means (Step.word_of bytes found m)
  word_gives bytes (Some e) h = go (is_immediate m.low e)
    where
      go : (b : Bool) → Means (if b then Step.immediate (token_of m.low e) else Step.plain (token_of m.low e))
      go true = tt
      go false = h
  word_gives bytes None h = go (number_in (base m) bytes) (number_cell (base m) bytes)
    where
      go : (o : Option ℕ) → CellOr o → Gives Means (ask_there m o >>= λ n. given (Step.number n))
      go None k = tt
      go (Some n) k = k

  acted_leads : (c : Bool) → m.flow.compiling ≡ c → (w : Word) → Means w → Leads (dict_of m) (Step.acted c w m)
  acted_leads false e (Step.immediate t) k = executed t m s
  acted_leads false e (Step.plain t) k = executed t m s
  acted_leads false e (Step.number n) k = replaced_leads m s 0 (n ∷ []) (k, tt)
  acted_leads true e (Step.immediate t) k = executed t m s
  acted_leads true e (Step.plain t) k = append_leads m s (s.compiles e) (cell t) (bytes_cell t k)
  acted_leads true e (Step.number n) k = append_leads m s (s.compiles e) (literal_of n) (append-bytes (cell (kernel_token 98)) (cell n) (bytes_cell (kernel_token 98) (lit< tt)) (bytes_cell n k))

interpreted_leads : (t : Taken) → Steady t.machine → Leads (dict_of t.machine) (Step.interpreted t)
interpreted_leads t s =
    let m = t.machine in
    leads_ask _ _ _ (is_name t.bytes) _ (λ n.
    leads_given (dict_of m) (FoundIn m) (ask_found m (searched (dict_of m) t.bytes)) (λ found. Step.word_of t.bytes found m >>= λ word. Step.acted m.flow.compiling word m) (found_gives m s t.bytes (searched (dict_of m) t.bytes) refl)
    (λ found f. leads_given (dict_of m) Means (Step.word_of t.bytes found m) (λ word. Step.acted m.flow.compiling word m) (word_gives m s t.bytes found f)
    (λ word k. acted_leads m s m.flow.compiling refl word k)))

-- a step, faults apart

abbrev Going : Machine → Outcome → Type 0
Going m (Step.went a) = Stepped m (Step.went a)
Going m (Step.finished m') = m' ≡ m
Going m (Step.failed why m') = Unit {0}

going : (m : Machine) (a : Asked After) → Leads (dict_of m) a → Going m (Step.outcome a)
going m (refused why m') k = tt
going m (given a) k = k

going_if : (m : Machine) (b : Bool) (x y : Outcome) → (b ≡ true → Going m x) → (b ≡ false → Going m y) → Going m (if b then x else y)
going_if m true x y p q = p refl
going_if m false x y p q = q refl

ended_goes : (m : Machine) → Steady m → (ls : List Position) → AllByRecursion BlockInCell ls → Going m (Step.ended ls m)
ended_goes m s [] h = refl
ended_goes m s (l ∷ ls) h = (stays, with_reading m s l m.text.source.word ls h.0 h.1)

step_goes : (m : Machine) → Steady m → Going m (step m)
unfolding step
step_goes m s =
    going_if m (eqb (ip m) 0) (Step.from_text m) (Step.outcome (Step.from_tokens m))
    (λ e. going_if m (Step.needs_block m) _ _ (λ n. going m (Step.bringing m) (bringing_leads m s))
    (λ n. going_if m (no_word_left m) _ _ (λ w. ended_goes m s m.text.loads s.text.loads) (λ w. going m (Step.interpreted (next_word m)) (interpreted_leads (next_word m) (next_steady m s)))))
    (λ e. going m (Step.from_tokens m) (leads_ask _ _ _ (has_inline m) _ (λ h. executed (inline m) (past m) (past_steady m s h))))

-- what a fault leaves

pub cleared_steady : (m m' : Machine) → Steady m → Keeps m (cleared m') → Steady (cleared m')
unfolding changed_by
cleared_steady m m' s k = record {
  came = subst (Run boot_dict) (sym k.dictionary) (law.and_then give_up s.came tt);
  compiles = λ c. absurd (false≢true c);
  marks = tt;
  stacks = record { cells = tt; depth = omega arith; returns = tt };
  text = record { line = subst Bytes (sym k.line) s.text.line; reads = omega arith; loads = tt };
  space = subst SpaceHolds (sym k.space) s.space;
  pointer = omega arith;
  store = elim k.blocks [ inl e ↦ subst StoreHolds (sym e.0) s.store | inr e ↦ subst StoreHolds (sym e.2) (saved_store m s e.0) ];
}

stepped : (m : Machine) → Steady m → (o : Outcome) → step m ≡ o → Going m o → Stepped m o
stepped m s (Step.went a) e g = g
stepped m s (Step.finished m') e g = g
stepped m s (Step.failed why m') e g = let k = fault_keeps m m' why e in (k.dictionary, cleared_steady m m' s k)

pub step_changes : StepChanges
step_changes m s = stepped m s (step m) refl (step_goes m s)
