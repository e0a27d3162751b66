-- The words that append to the open definition, and those that read what follows them in one.
use Rattle.std.proofs.Common.{◌≡◌, ℕ, zero, suc, ◌+◌, ◌<◌, ◌≤◌, true, eqb, leb, ◌≢◌, List, [], ◌∷◌, ◌++◌, length, get_or, drop, sym, refl, ◌∙◌, arith, lit<}
use Rattle.std.specs.List.{AllByRecursion}
use Rattle.std.proofs.ByRecursion.{All-weaker, All-append, All-drop}
use Rattle.std.proofs.lemmas.List.{length-append}
use Rattle.std.proofs.lemmas.Bool.{leb-true, and_parts, true≢false}
use Rattle.image.specs.Cells.{cell, Bytes}
use Rattle.entries.specs.Entries.{first_at, token_of}
use Rattle.dictionary.specs.Dict.{Dict, dp, appended}
use Rattle.forgetting.proofs.Trims.{append-bytes}
use Rattle.definition.specs.declared.registers.Kind.{Kind}
use Rattle.definition.specs.declared.registers.Kind.TheVariants.{If, Begin, While, Do}
use Rattle.definition.specs.declared.registers.Mark.{Mark}
use Rattle.definition.specs.Machine as machine
use Rattle.definition.specs.Machine.{Machine, dict_of}
use Rattle.definition.specs.Kernel
use Rattle.definition.specs.Kernel.{CompilingWord}
use Rattle.definition.specs.Boot.{kernel_token}
use Rattle.definition.specs.Stacks.{nth, popped, has_cells}
use Rattle.definition.specs.Define.{fits}
use Rattle.definition.specs.Compile.{token, literal_of, kind_number, are_marks, mark, mark_at, resolved, are_cells, structured, do_compiling}
use Rattle.step_changes.specs.Steady.{InOpen, mark_size, Steady}
use Rattle.step_changes.specs.Laws.{stays}
use Rattle.step_changes.proofs.Known.{known}
use Rattle.step_changes.proofs.Ranges.{bytes_none, bytes_more, bytes_cell, length-cell}
use Rattle.step_changes.proofs.Leading.{Leads, leads_ask, nth_cell, with_popped}
use Rattle.step_changes.proofs.Changing.{change_leads, with_compiling_lem, grown_open, grown_append, Patchable, appended_quietly, resolved_quietly, append_leads, run_quietly, quietly_then, grown_then}

-- the marks that a word takes lie in the open entry

abbrev Inside : Dict → Kind → ℕ → Type 0
Inside D k a = (first_at D.low D.opened + 2 ≤ a) × (a + mark_size k ≤ dp D)

sizes : (k j : Kind) → eqb (kind_number k) (kind_number j) ≡ true → mark_size k ≡ mark_size j
sizes If If h = refl
sizes If Begin h = absurd (true≢false (sym h))
sizes If While h = refl
sizes If Do h = refl
sizes Begin If h = absurd (true≢false (sym h))
sizes Begin Begin h = refl
sizes Begin While h = absurd (true≢false (sym h))
sizes Begin Do h = absurd (true≢false (sym h))
sizes While If h = refl
sizes While Begin h = absurd (true≢false (sym h))
sizes While While h = refl
sizes While Do h = refl
sizes Do If h = refl
sizes Do Begin h = absurd (true≢false (sym h))
sizes Do While h = refl
sizes Do Do h = refl

marks_inside : (D : Dict) (ks : List Kind) (ms : List Mark) → are_marks ks ms ≡ true → AllByRecursion (InOpen D) ms → (i : ℕ) → i < length ks → Inside D (get_or ks i If) (get_or ms i (mark If 0)).address
marks_inside D [] ms h a i l = absurd (omega arith)
marks_inside D (k ∷ ks) [] h a i l = absurd (true≢false (sym h))
marks_inside D (k ∷ ks) (x ∷ ms) h a zero l =
    let e = sizes k x.kind (and_parts (eqb (kind_number k) (kind_number x.kind)) (are_marks ks ms) h).0 in
    (a.0.above, omega (arith, a.0.below))
marks_inside D (k ∷ ks) (x ∷ ms) h a (suc i) l = marks_inside D ks ms (and_parts (eqb (kind_number k) (kind_number x.kind)) (are_marks ks ms) h).1 a.1 i (omega arith)

-- what a word that compiles is given
abbrev pub Given : Machine → CompilingWord → ℕ → List ℕ → Type 0
Given m (Kernel.compiles b) e text = Unit {0}
Given m Kernel.literal e text = Unit {0}
Given m Kernel.bracket_tick e text = token_of m.low e < 65536
Given m Kernel.bracket_compile e text = token_of m.low e < 65536
Given m Kernel.does e text = Unit {0}
Given m Kernel.if_c e text = Unit {0}
Given m Kernel.else_c e text = Unit {0}
Given m Kernel.then_c e text = Unit {0}
Given m Kernel.begin_c e text = Unit {0}
Given m Kernel.while_c e text = Unit {0}
Given m Kernel.repeat_c e text = Unit {0}
Given m Kernel.until_c e text = Unit {0}
Given m Kernel.do_c e text = Unit {0}
Given m (Kernel.loop_c n) e text = kernel_token n < 65536
Given m Kernel.quote_c e text = (length text ≤ 255) × Bytes text

two_cells_lem : (x y : ℕ) → length (cell x ++ cell y) ≡ 4
two_cells_lem x y = length-append (cell x) (cell y) ∙ (omega (arith, length-cell x, length-cell y))

two_bytes : (x y : ℕ) → x < 65536 → y < 65536 → Bytes (cell x ++ cell y)
two_bytes x y h k = append-bytes _ _ (bytes_cell x h) (bytes_cell y k)

abbrev MarkInside : Dict → Mark → Type 0
MarkInside D k = Inside D k.kind k.address

module _ (m : Machine) (s : Steady m) (o : m.names.opened ≢ 0) where
  structured_leads : (kinds : List Kind) (bs cells : List ℕ) (new : List Mark) → Bytes bs
      → (are_marks kinds m.stacks.marks ≡ true → AllByRecursion (Patchable (appended bs (dict_of m))) cells × AllByRecursion (MarkInside (appended bs (dict_of m))) new) → Leads (dict_of m) (structured kinds bs cells new m)
  structured_leads kinds bs cells new b p =
      let ms = m.stacks.marks in
      let D = dict_of m in
      let left = new ++ drop (length kinds) ms in
      leads_ask _ _ _ (are_marks kinds ms) _ (λ h. leads_ask _ _ _ (are_cells cells m) _ (λ c. leads_ask _ _ _ (leb (length left) 32) _ (λ i. leads_ask _ _ _ (fits (length bs) m) _ (λ f.
      let q = appended_quietly D s.came o bs b (leb-true _ 32768 f) in
      let g = grown_append D s.came o bs in
      let r = resolved_quietly cells (appended bs D) (run_quietly s.came q) o (p h).0 in
      let E = resolved cells (appended bs D) in
      let gone = grown_then g r.1 in
      change_leads m s (λ D. resolved cells (appended bs D)) left gone.here (quietly_then q r.0) (λ c z. o (sym gone.opened ∙ z))
      (All-append (InOpen E) new (drop (length kinds) ms)
      (All-weaker (MarkInside (appended bs D)) (InOpen E) (λ k i. grown_open r.1 k (record { is_open = o; above = i.0; below = i.1 })) new (p h).1)
      (All-weaker (InOpen D) (InOpen E) (grown_open gone) (drop (length kinds) ms) (All-drop (InOpen D) (length kinds) ms s.marks)))))))

  -- the mark that a word leaves at its branch cell
  new_mark : (x y : ℕ) → (first_at (appended (cell x ++ cell y) (dict_of m)).low m.names.opened + 2 ≤ machine.dp m + 2) × (machine.dp m + 2 + 2 ≤ dp (appended (cell x ++ cell y) (dict_of m)))
  new_mark x y =
      let g = grown_append (dict_of m) s.came o (cell x ++ cell y) in
      (omega (arith, g.first, (known (dict_of m) s.came).first o), omega (arith, length-append m.low (cell x ++ cell y), two_cells_lem x y))

  old_mark : (bs : List ℕ) (kinds : List Kind) (i : ℕ) → i < length kinds → are_marks kinds m.stacks.marks ≡ true → Inside (appended bs (dict_of m)) (get_or kinds i If) (mark_at i m)
  old_mark bs kinds i l h =
      let g = grown_append (dict_of m) s.came o bs in
      let p = marks_inside (dict_of m) kinds m.stacks.marks h s.marks i l in
      (omega (arith, g.first, p.0), omega (arith, g.longer, p.1))

  mark_low : (i : ℕ) → mark_at i m ≤ 32768
  mark_low i = Rattle.step_changes.proofs.Ranges.all_or (λ k. k.address ≤ 32768) m.stacks.marks i (mark If 0) (omega arith)
      (All-weaker (InOpen (dict_of m)) (λ k. k.address ≤ 32768) (λ k p. omega (arith, p.below, (known (dict_of m) s.came).room)) m.stacks.marks s.marks)

  pub compiling_leads : (w : CompilingWord) (e : ℕ) (text : List ℕ) → Given m w e text → Leads (dict_of m) (do_compiling w e text m)
  compiling_leads (Kernel.compiles b) e text k = (stays, with_compiling_lem m s b (λ h. o))
  compiling_leads Kernel.literal e text k =
      leads_ask _ _ _ (has_cells 1 m) _ (λ h. append_leads (popped 1 m) (with_popped m s 1) o (literal_of (nth 0 m)) (two_bytes (kernel_token 98) (nth 0 m) (lit< tt) (nth_cell m s 0)))
  compiling_leads Kernel.bracket_tick e text k = append_leads m s o (literal_of (token_of m.low e)) (two_bytes (kernel_token 98) _ (lit< tt) k)
  compiling_leads Kernel.bracket_compile e text k = append_leads m s o (cell (token_of m.low e)) (bytes_cell _ k)
  compiling_leads Kernel.does e text k = append_leads m s o (token 104) (bytes_cell (kernel_token 104) (lit< tt))
  compiling_leads Kernel.if_c e text k =
      structured_leads [] (token 100 ++ cell 0) [] (mark If (machine.dp m + 2) ∷ []) (two_bytes (kernel_token 100) 0 (lit< tt) (lit< tt)) (λ h. (tt, (new_mark (kernel_token 100) 0, tt)))
  compiling_leads Kernel.else_c e text k =
      let bs = token 99 ++ cell 0 in
      structured_leads (If ∷ []) bs (mark_at 0 m ∷ []) (mark If (machine.dp m + 2) ∷ []) (two_bytes (kernel_token 99) 0 (lit< tt) (lit< tt)) (λ h. ((old_mark bs (If ∷ []) 0 (lit< tt) h, tt), (new_mark (kernel_token 99) 0, tt)))
  compiling_leads Kernel.then_c e text k = structured_leads (If ∷ []) [] (mark_at 0 m ∷ []) [] bytes_none (λ h. ((old_mark [] (If ∷ []) 0 (lit< tt) h, tt), tt))
  compiling_leads Kernel.begin_c e text k =
      let g = grown_append (dict_of m) s.came o [] in
      structured_leads [] [] [] (mark Begin (machine.dp m) ∷ []) bytes_none (λ h. (tt, ((omega (arith, g.first, (known (dict_of m) s.came).first o), omega (arith, g.longer)), tt)))
  compiling_leads Kernel.while_c e text k =
      let bs = token 100 ++ cell 0 in
      structured_leads (Begin ∷ []) bs [] (mark While (machine.dp m + 2) ∷ mark Begin (mark_at 0 m) ∷ []) (two_bytes (kernel_token 100) 0 (lit< tt) (lit< tt)) (λ h. (tt, (new_mark (kernel_token 100) 0, (old_mark bs (Begin ∷ []) 0 (lit< tt) h, tt))))
  compiling_leads Kernel.repeat_c e text k =
      let bs = token 99 ++ cell (mark_at 1 m) in
      structured_leads (While ∷ Begin ∷ []) bs (mark_at 0 m ∷ []) [] (two_bytes (kernel_token 99) (mark_at 1 m) (lit< tt) (omega (arith, mark_low 1))) (λ h. ((old_mark bs (While ∷ Begin ∷ []) 0 (lit< tt) h, tt), tt))
  compiling_leads Kernel.until_c e text k =
      structured_leads (Begin ∷ []) (token 100 ++ cell (mark_at 0 m)) [] [] (two_bytes (kernel_token 100) (mark_at 0 m) (lit< tt) (omega (arith, mark_low 0))) (λ h. (tt, tt))
  compiling_leads Kernel.do_c e text k =
      structured_leads [] (token 101 ++ cell 0) [] (mark Do (machine.dp m + 2) ∷ []) (two_bytes (kernel_token 101) 0 (lit< tt) (lit< tt)) (λ h. (tt, (new_mark (kernel_token 101) 0, tt)))
  compiling_leads (Kernel.loop_c n) e text k =
      let bs = token n ++ cell (mark_at 0 m + 2) in
      structured_leads (Do ∷ []) bs (mark_at 0 m ∷ []) [] (two_bytes (kernel_token n) (mark_at 0 m + 2) k (omega (arith, mark_low 0))) (λ h. ((old_mark bs (Do ∷ []) 0 (lit< tt) h, tt), tt))
  compiling_leads Kernel.quote_c e text k =
      append_leads m s o (token 105 ++ (length text ∷ text)) (append-bytes _ _ (bytes_cell (kernel_token 105) (lit< tt)) (bytes_more (length text) text (omega (arith, k.0)) k.1))
