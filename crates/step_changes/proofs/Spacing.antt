-- The words on data space.
use Rattle.std.proofs.Common.{◌≡◌, ℕ, zero, suc, ◌+◌, ◌-◌, ◌%◌, ◌<◌, ◌≤◌, Bool, true, false, ◌&&◌, eqb, leb, ◌⊎◌, List, [], ◌∷◌, ◌++◌, length, take, replicate, refl, ◌∙◌, subst, inl, inr, arith, if◌then◌else◌}
use Rattle.std.proofs.ByRecursion.{All-weaker}
use Rattle.std.proofs.lemmas.List.{length-append, length-take, length-replicate}
use Rattle.std.proofs.lemmas.Bool.{leb-true, eqb-true, and_parts, or_cases}
use Rattle.image.specs.Writes.{overwritten}
use Rattle.image.specs.Cells.{at, cell, cell_at, zeros, Bytes}
use Rattle.numbers.specs.Cells.{wrap, is_negative, magnitude}
use Rattle.forgetting.specs.Changes.{allot}
use Rattle.forgetting.specs.Changes.{changed as changed_by}
use Rattle.forgetting.specs.Law as law
use Rattle.forgetting.proofs.Trims.{append-bytes}
use Rattle.definition.specs.Machine.{Machine, here, with_high, dict_of}
use Rattle.definition.specs.Kernel
use Rattle.definition.specs.Kernel.{SpaceWord}
use Rattle.definition.specs.Stacks.{nth, popped, has_cells}
use Rattle.definition.specs.Space.{in_reach, put, stored, moved, has_newest, lowest, do_space}
use Rattle.step_changes.specs.Steady.{InOpen, Steady}
use Rattle.step_changes.specs.Laws.{Quietly, stays, and_then}
use Rattle.step_changes.proofs.Ranges.{bytes_cell, bytes_take, bytes_replicate, cell_below, length-cell, length_put, bytes_put, bytes_none, bytes_more}
use Rattle.step_changes.proofs.Leading.{Leads, leads_ask, with_high_lem, same_dict, nth_cell, with_popped, replaced_leads}

-- other bytes of data space, and HERE as it was
pub high_leads : (m : Machine) → Steady m → (xs : List ℕ) → Bytes xs → length xs ≡ length m.high → Quietly (dict_of m) (dict_of (with_high xs m)) × Steady (with_high xs m)
high_leads m s xs b e = (subst (Quietly (dict_of m)) (same_dict m xs e) stays, with_high_lem m s xs b e)

-- HERE moved, while no entry is open
pub here_leads : (m : Machine) → Steady m → m.names.opened ≡ 0 → (xs : List ℕ) → Bytes xs → 1280 ≤ length xs → length xs ≤ 32767 → Quietly (dict_of m) (dict_of (with_high xs m)) × Steady (with_high xs m)
unfolding changed_by
here_leads m s z xs b l h = (
  and_then (allot (here (with_high xs m))) stays z tt,
  record {
    came = law.and_then (allot (here (with_high xs m))) s.came z;
    compiles = s.compiles;
    marks = All-weaker (InOpen (dict_of m)) (InOpen (dict_of (with_high xs m))) (λ k i. record { is_open = i.is_open; above = i.above; below = i.below }) m.stacks.marks s.marks;
    stacks = s.stacks;
    text = s.text;
    space = record { bytes = b; long = l; short = h };
    pointer = s.pointer;
    store = s.store;
  },
)

-- are the n bytes at a in reach? If there are any, they are.
reach : (a n : ℕ) (m : Machine) → in_reach a n m ≡ true → (n ≡ 0) ⊎ ((32768 ≤ a) × (a + n ≤ here m))
reach a n m h = elim (or_cases (eqb n 0) (leb 32768 a && leb (a + n) (here m)) h) [
  | inl e ↦ inl (eqb-true n 0 e)
  | inr e ↦ (let p = and_parts (leb 32768 a) (leb (a + n) (here m)) e in inr (leb-true 32768 a p.0, leb-true (a + n) (here m) p.1))
]

module _ (m : Machine) (s : Steady m) where
  put_fits : (a n : ℕ) (new : List ℕ) → length new ≤ n → (n ≡ 0) ⊎ ((32768 ≤ a) × (a + n ≤ here m)) → (length new ≡ 0) ⊎ (a - 32768 + length new ≤ length m.high)
  put_fits a n new l (inl e) = inl (omega arith)
  put_fits a n new l (inr e) = inr (omega arith)

  stored_leads : (a n : ℕ) (new : List ℕ) → Bytes new → length new ≤ n → in_reach a n m ≡ true → Quietly (dict_of m) (dict_of (stored a new m)) × Steady (stored a new m)
  unfolding overwritten
  stored_leads a n new b l r = high_leads m s _ (bytes_put (a - 32768) new m.high b s.space.bytes) (length_put (a - 32768) new m.high (put_fits a n new l (reach a n m r)))

  high_cell : (a : ℕ) → cell_at m.high a < 65536
  high_cell a = cell_below m.high a s.space.bytes

short_bytes : (n x : ℕ) → length (take n (cell x)) ≤ n
short_bytes n x = simp length-take (omega arith)

-- data space of another length
resized_long : (n : ℕ) (xs : List ℕ) → length (take n xs ++ zeros (n - length xs)) ≡ n
resized_long n xs = simp (length-append, length-take, length-replicate) (omega arith)

-- bytes moved one after the other stay bytes, as many as before
bytes_moved : (n from to : ℕ) (xs : List ℕ) → Bytes xs → Bytes (moved n from to xs)
unfolding overwritten
bytes_moved zero from to xs h = h
bytes_moved (suc n) from to xs h =
    let new : List ℕ = at xs (from - 32768) ∷ [] in
    bytes_moved n (from + 1) (to + 1) (put xs to new) (bytes_put (to - 32768) new xs (bytes_more (at xs (from - 32768)) [] (h (from - 32768)) bytes_none) h)

length_moved : (n from to : ℕ) (xs : List ℕ) → (n ≡ 0) ⊎ ((32768 ≤ to) × (to - 32768 + n ≤ length xs)) → length (moved n from to xs) ≡ length xs
unfolding overwritten
length_moved zero from to xs h = refl
length_moved (suc n) from to xs (inl h) = absurd (omega arith)
length_moved (suc n) from to xs (inr h) =
    let new : List ℕ = at xs (from - 32768) ∷ [] in
    let p : length (put xs to new) ≡ length xs = length_put (to - 32768) new xs (inr (omega arith)) in
    length_moved n (from + 1) (to + 1) (put xs to new) (inr (omega arith, omega (arith, p))) ∙ p

module _ (m : Machine) (s : Steady m) where
  fetched_cell : (b : Bool) (a : ℕ) → (if b then at m.high a else cell_at m.high a) < 65536
  fetched_cell true a = omega (arith, s.space.bytes a)
  fetched_cell false a = high_cell m s a

  within : {a n : ℕ} → (n ≡ 0) ⊎ ((32768 ≤ a) × (a + n ≤ here m)) → (n ≡ 0) ⊎ ((32768 ≤ a) × (a - 32768 + n ≤ length m.high))
  within (inl h) = inl h
  within (inr h) = inr (h.0, omega arith)

  -- what a word is given: ALLOT, `,` and C, no open entry, a base a cell
  abbrev pub Given : SpaceWord → Type 0
  Given (Kernel.fetches n) = Unit {0}
  Given (Kernel.stores n) = Unit {0}
  Given (Kernel.appends n) = m.names.opened ≡ 0
  Given Kernel.add_to = Unit {0}
  Given Kernel.move = Unit {0}
  Given Kernel.fill = Unit {0}
  Given Kernel.allot = m.names.opened ≡ 0
  Given (Kernel.set_base n) = n < 65536

  lowest_least : 34048 ≤ lowest m
  lowest_least = least (has_newest m) refl
    where
      least : (b : Bool) → has_newest m ≡ b → 34048 ≤ lowest m
      least true h = rw h (omega arith)
      least false h = rw h (omega arith)

  pub space_leads : (w : SpaceWord) → Given w → Leads (dict_of m) (do_space w m)
  unfolding overwritten
  space_leads (Kernel.fetches n) z =
      leads_ask _ _ _ (has_cells 1 m) _ (λ h. leads_ask _ _ _ (in_reach (nth 0 m) n m) _ (λ g. replaced_leads m s 1 ((if eqb n 1 then at m.high (nth 0 m - 32768) else cell_at m.high (nth 0 m - 32768)) ∷ []) (fetched_cell (eqb n 1) (nth 0 m - 32768), tt)))
  space_leads (Kernel.stores n) z =
      leads_ask _ _ _ (has_cells 2 m) _ (λ h. leads_ask _ _ _ (in_reach (nth 0 m) n m) _ (λ g.
      stored_leads (popped 2 m) (with_popped m s 2) (nth 0 m) n (take n (cell (nth 1 m))) (bytes_take n _ (bytes_cell (nth 1 m) (nth_cell m s 1))) (short_bytes n (nth 1 m)) g))
  space_leads (Kernel.appends n) z =
      leads_ask _ _ _ (has_cells 1 m) _ (λ h. leads_ask _ _ _ (leb (here m + n) 65535) _ (λ g.
      here_leads (popped 1 m) (with_popped m s 1) z (m.high ++ take n (cell (nth 0 m))) (append-bytes _ _ s.space.bytes (bytes_take n _ (bytes_cell (nth 0 m) (nth_cell m s 0))))
      (simp length-append (omega (arith, s.space.long))) (simp length-append (omega (arith, leb-true (here m + n) 65535 g, short_bytes n (nth 0 m))))))
  space_leads Kernel.add_to z =
      let x = wrap (cell_at m.high (nth 0 m - 32768) + nth 1 m) in
      leads_ask _ _ _ (has_cells 2 m) _ (λ h. leads_ask _ _ _ (in_reach (nth 0 m) 2 m) _ (λ g.
      stored_leads (popped 2 m) (with_popped m s 2) (nth 0 m) 2 (cell x) (bytes_cell x (omega arith)) (omega (arith, length-cell x)) g))
  space_leads Kernel.move z =
      let xs = moved (nth 0 m) (nth 2 m) (nth 1 m) m.high in
      leads_ask _ _ _ (has_cells 3 m) _ (λ h. leads_ask _ _ _ (in_reach (nth 2 m) (nth 0 m) m) _ (λ g. leads_ask _ _ _ (in_reach (nth 1 m) (nth 0 m) m) _ (λ f.
      high_leads (popped 3 m) (with_popped m s 3) xs (bytes_moved (nth 0 m) _ _ m.high s.space.bytes) (length_moved (nth 0 m) _ _ m.high (within (reach (nth 1 m) (nth 0 m) m f))))))
  space_leads Kernel.fill z =
      leads_ask _ _ _ (has_cells 3 m) _ (λ h. leads_ask _ _ _ (in_reach (nth 2 m) (nth 1 m) m) _ (λ g.
      stored_leads (popped 3 m) (with_popped m s 3) (nth 2 m) (nth 1 m) (replicate (nth 1 m) (nth 0 m % 256)) (bytes_replicate (nth 1 m) (nth 0 m % 256) (omega arith)) (simp length-replicate (omega arith)) g))
  space_leads (Kernel.set_base n) z =
      high_leads m s _ (bytes_put 0 (cell n) m.high (bytes_cell n z) s.space.bytes) (length_put 0 (cell n) m.high (inr (omega (arith, length-cell n, s.space.long))))
  space_leads Kernel.allot z =
      let a = if is_negative (nth 0 m) then here m - magnitude (nth 0 m) else here m + nth 0 m in
      let l = lowest m in
      leads_ask _ _ _ (has_cells 1 m) _ (λ h. leads_ask _ _ _ (leb l a && leb a 65535) _ (λ g.
      let p = and_parts (leb l a) (leb a 65535) g in
      let q : 34048 ≤ a = omega (arith, lowest_least, leb-true l a p.0) in
      here_leads (popped 1 m) (with_popped m s 1) z (take (a - 32768) m.high ++ zeros (a - 32768 - length m.high))
      (append-bytes _ _ (bytes_take (a - 32768) m.high s.space.bytes) (bytes_replicate _ 0 (omega arith)))
      (omega (arith, resized_long (a - 32768) m.high)) (omega (arith, resized_long (a - 32768) m.high, leb-true a 65535 p.1))))
