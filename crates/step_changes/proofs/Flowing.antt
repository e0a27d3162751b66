-- The words that read what follows them in a definition, and the codes that are no kernel word's.
use Rattle.std.proofs.Common.{◌≡◌, ℕ, ◌+◌, ◌-◌, Bool, true, ◌&&◌, ◌||◌, eqb, leb, ◌≢◌, ◌⊎◌, List, [], ◌∷◌, refl, subst, inl, inr, arith, if◌then◌else◌}
use Rattle.std.proofs.ByRecursion.{All-weaker}
use Rattle.std.proofs.lemmas.Bool.{leb-true, eqb-true, and_parts, or_cases, false≢true}
use Rattle.image.specs.Cells.{at, cell, cell_at}
use Rattle.entries.specs.Entries.{first_at, token_of}
use Rattle.dictionary.specs.Dict.{appended, does_set, with_context}
use Rattle.dictionary.specs.Trim.{chain_of, is_chain, on_chain, member}
use Rattle.numbers.specs.Cells.{wrap}
use Rattle.dictionary.specs.Seeks as seeks
use Rattle.forgetting.specs.Changes.{does, seek, OnChain}
use Rattle.forgetting.specs.Changes.{changed as changed_by}
use Rattle.definition.specs.Machine.{Machine, dp, ip, with_ip, changed, dict_of}
use Rattle.definition.specs.Asked.{quietly}
use Rattle.definition.specs.Kernel
use Rattle.definition.specs.Kernel.{InlineWord}
use Rattle.definition.specs.Stacks.{nth, nth_return, popped, pushed, popped_returns, pushed_returns, has_cells, has_room, has_returns, has_return_room, go_to}
use Rattle.definition.specs.Space.{has_newest}
use Rattle.definition.specs.Define.{fits}
use Rattle.definition.specs.Flow.{in_dictionary, has_inline, inline, past, do_inline}
use Rattle.definition.specs.Words.{other_word}
use Rattle.step_changes.specs.Steady.{InOpen, Steady}
use Rattle.step_changes.specs.Laws.{Quietly, stays, and_then}
use Rattle.step_changes.proofs.Ranges.{bytes_cell, length-cell}
use Rattle.step_changes.proofs.Leading.{Leads, leads_ask, leads_if, stayed, with_ip_lem, nth_cell, with_popped, with_popped_returns, with_pushed_returns, with_pushed, replaced_leads}
use Rattle.step_changes.proofs.Plain.{quiet_if, in_dictionary_lem, low_cell, go_leads, past_steady, exit_leads}
use Rattle.step_changes.proofs.Changing.{no_marks, change_leads, grown_open, grown_append, appended_quietly, quietly_then}

-- the code cell lies right before the first parameter cell
token_first : (low : List ℕ) (e : ℕ) → token_of low e ≡ first_at low e - 2
unfolding first_at
token_first low e = omega arith

is_created : (x : ℕ) → (eqb x 202 || eqb x 205) ≡ true → (x ≡ 202) ⊎ (x ≡ 205)
is_created x h = elim (or_cases (eqb x 202) (eqb x 205) h) [ inl e ↦ inl (eqb-true x 202 e) | inr e ↦ inr (eqb-true x 205 e) ]

module _ (m : Machine) (s : Steady m) where
  does_leads : m.names.opened ≡ 0 → (eqb (cell_at m.low (token_of m.low m.names.newest)) 202 || eqb (cell_at m.low (token_of m.low m.names.newest)) 205) ≡ true → Quietly (dict_of m) (dict_of (changed (does_set (ip m)) m)) × Steady (changed (does_set (ip m)) m)
  unfolding changed_by
  does_leads z h =
      let code = subst (λ a. (cell_at m.low a ≡ 202) ⊎ (cell_at m.low a ≡ 205)) (token_first m.low m.names.newest) (is_created _ h) in
      change_leads m s (does_set (ip m)) m.stacks.marks refl (and_then (does (ip m)) stays (record { shut = z; code = code; value = s.pointer }) tt) s.compiles (no_marks (dict_of m) (InOpen (does_set (ip m) (dict_of m))) m.stacks.marks z s.marks)

  -- what a word is given: (;CODE) no open entry, COMPILE one
  abbrev pub Given : InlineWord → Type 0
  Given Kernel.lit = Unit {0}
  Given Kernel.branch = Unit {0}
  Given Kernel.branch_if_zero = Unit {0}
  Given Kernel.do_r = Unit {0}
  Given Kernel.loop_r = Unit {0}
  Given Kernel.plus_loop_r = Unit {0}
  Given Kernel.semicolon_code = m.names.opened ≡ 0
  Given Kernel.type_text = Unit {0}
  Given Kernel.compile = m.names.opened ≢ 0

-- a turn of a loop
turn : (m : Machine) → Steady m → (b : Bool) (n : ℕ) → has_inline m ≡ true → Leads (dict_of m) (quietly (if b then past (popped_returns 3 m) else go_to (inline m) (pushed_returns (wrap (nth_return 0 m + n) ∷ []) (popped_returns 1 m))))
turn m s b n h =
    quiet_if m s b _ _ (stays, past_steady (popped_returns 3 m) (with_popped_returns m s 3) h)
    (go_leads (pushed_returns (wrap (nth_return 0 m + n) ∷ []) (popped_returns 1 m)) (with_pushed_returns (popped_returns 1 m) (with_popped_returns m s 1) (wrap (nth_return 0 m + n) ∷ []) (omega arith, tt)) (inline m) (low_cell m s (ip m)))

module _ (m : Machine) (s : Steady m) where
  pub inlines_lead : (w : InlineWord) → Given m s w → Leads (dict_of m) (do_inline w m)
  inlines_lead Kernel.lit k =
      leads_ask _ _ _ (has_room 1 m) _ (λ h. leads_ask _ _ _ (has_inline m) _ (λ g. stayed (pushed (inline m) (past m)) stays (with_pushed (past m) (past_steady m s g) (inline m) (low_cell m s (ip m)) h)))
  inlines_lead Kernel.branch k = leads_ask _ _ _ (has_inline m) _ (λ g. go_leads m s (inline m) (low_cell m s (ip m)))
  inlines_lead Kernel.branch_if_zero k =
      leads_ask _ _ _ (has_cells 1 m) _ (λ h. leads_ask _ _ _ (has_inline m) _ (λ g.
      quiet_if m s (eqb (nth 0 m) 0) (go_to (inline m) (popped 1 m)) (past (popped 1 m)) (go_leads (popped 1 m) (with_popped m s 1) (inline m) (low_cell m s (ip m))) (stays, past_steady (popped 1 m) (with_popped m s 1) g)))
  inlines_lead Kernel.do_r k =
      let xs = nth 0 m ∷ nth 1 m ∷ inline m ∷ [] in
      let m' = pushed_returns xs (popped 2 m) in
      leads_ask _ _ _ (has_cells 2 m) _ (λ h. leads_ask _ _ _ (has_return_room 3 m) _ (λ r. leads_ask _ _ _ (has_inline m) _ (λ g.
      stayed (past m') stays (past_steady m' (with_pushed_returns (popped 2 m) (with_popped m s 2) xs (nth_cell m s 0, (nth_cell m s 1, (low_cell m s (ip m), tt)))) g))))
  inlines_lead Kernel.loop_r k = leads_ask _ _ _ (has_returns 3 m) _ (λ h. leads_ask _ _ _ (has_inline m) _ (λ g. turn m s _ 1 g))
  inlines_lead Kernel.plus_loop_r k =
      leads_ask _ _ _ (has_cells 1 m) _ (λ c. leads_ask _ _ _ (has_returns 3 m) _ (λ h. leads_ask _ _ _ (has_inline m) _ (λ g. turn (popped 1 m) (with_popped m s 1) _ (nth 0 m) g)))
  inlines_lead Kernel.semicolon_code k =
      let code = cell_at m.low (token_of m.low m.names.newest) in
      let a = leb (first_at m.low m.names.newest + 4) (dp m) in
      let b = eqb code 202 || eqb code 205 in
      leads_ask _ _ _ (has_returns 1 m) _ (λ h. leads_ask _ _ _ (has_newest m && (a && b)) _ (λ g.
      let d = does_leads m s k (and_parts a b (and_parts (has_newest m) (a && b) g).1).1 in
      let e = exit_leads (changed (does_set (ip m)) m) d.1 in
      stayed (go_to (nth_return 0 m) (popped_returns 1 (changed (does_set (ip m)) m))) (quietly_then d.0 e.0) e.1))
  inlines_lead Kernel.type_text k =
      let n = at m.low (ip m) in
      leads_ask _ _ _ (in_dictionary (ip m) 1 m) _ (λ h. leads_ask _ _ _ (in_dictionary (ip m) (n + 1) m) _ (λ g.
      stayed (with_ip (ip m + n + 1) m) stays (with_ip_lem m s (ip m + n + 1) (omega (arith, in_dictionary_lem m s (ip m) (n + 1) g)))))
  inlines_lead Kernel.compile k =
      let bs = cell (inline m) in
      leads_ask _ _ _ (fits 2 m) _ (λ h. leads_ask _ _ _ (has_inline m) _ (λ g.
      change_leads (past m) (past_steady m s g) (appended bs) m.stacks.marks refl
      (appended_quietly (dict_of m) s.came k bs (bytes_cell (inline m) (low_cell m s (ip m))) (omega (arith, length-cell (inline m), leb-true (dp m + 2) 32768 h)))
      (λ c. k) (All-weaker (InOpen (dict_of m)) (InOpen (appended bs (dict_of m))) (grown_open (grown_append (dict_of m) s.came k bs)) m.stacks.marks s.marks)))

-- a vocabulary of the chain
on_chain_lem : (v : ℕ) (vs : List ℕ) → member v vs ≡ true → OnChain v vs
on_chain_lem v [] h = absurd (false≢true h)
on_chain_lem v (x ∷ xs) h = elim (or_cases (eqb v x) (member v xs) h) [ inl e ↦ inl (eqb-true v x e) | inr e ↦ inr (on_chain_lem v xs e) ]

module _ (m : Machine) (s : Steady m) where
  seek_leads : (v : ℕ) → on_chain v (dict_of m) ≡ true → Quietly (dict_of m) (dict_of (changed (with_context v) m)) × Steady (changed (with_context v) m)
  unfolding changed_by
  seek_leads v h =
      change_leads m s (with_context v) m.stacks.marks refl (and_then (seek v) stays (on_chain_lem v (chain_of (dict_of m)) h) tt) s.compiles
      (All-weaker (InOpen (dict_of m)) (InOpen (with_context v (dict_of m))) (λ k i. record { is_open = i.is_open; above = i.above; below = i.below }) m.stacks.marks s.marks)

  pub other_leads : (code t : ℕ) → in_dictionary t 2 m ≡ true → Leads (dict_of m) (other_word code t m)
  other_leads code t d =
      leads_if _ (eqb code 201) _ _ (λ e. leads_ask _ _ _ (has_return_room 1 m) _ (λ h. go_leads (pushed_returns (ip m ∷ []) m) (with_pushed_returns m s (ip m ∷ []) (s.pointer, tt)) (t + 4) (omega (arith, in_dictionary_lem m s t 2 d))))
      (λ e. leads_if _ (eqb code 202) _ _ (λ e. leads_ask _ _ _ (in_dictionary t 4 m) _ (λ h. replaced_leads m s 0 (cell_at m.low (t + 2) ∷ []) (low_cell m s (t + 2), tt)))
      (λ e. leads_if _ (eqb code 203) _ _ (λ e. leads_ask _ _ _ (in_dictionary t 6 m) _ (λ h. replaced_leads m s 0 (cell_at m.low (t + 4) ∷ []) (low_cell m s (t + 4), tt)))
      (λ e. leads_if _ (eqb code 204) _ _
      (λ e. leads_ask _ _ _ (in_dictionary t 14 m) _ (λ h. leads_ask _ _ _ (is_chain (dict_of m)) _ (λ g. leads_ask _ _ _ (on_chain (t + 4) (dict_of m) && seeks.stays (t + 4) (dict_of m)) _ (λ f. seek_leads (t + 4) (and_parts (on_chain (t + 4) (dict_of m)) (seeks.stays (t + 4) (dict_of m)) f).0))))
      (λ e. leads_if _ (eqb code 205) _ _
      (λ e. leads_ask _ _ _ (in_dictionary t 6 m) _ (λ h. leads_ask _ _ _ (has_room 1 m) _ (λ g. leads_ask _ _ _ (has_return_room 1 m) _ (λ f.
      go_leads (pushed_returns (ip m ∷ []) (pushed (cell_at m.low (t + 2)) m)) (with_pushed_returns (pushed (cell_at m.low (t + 2)) m) (with_pushed m s (cell_at m.low (t + 2)) (low_cell m s (t + 2)) g) (ip m ∷ []) (s.pointer, tt)) (cell_at m.low (t + 4)) (low_cell m s (t + 4))))))
      (λ e. tt)))))
