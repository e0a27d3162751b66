-- The ends of the words that define.
use Rattle.std.proofs.Common.{◌≡◌, ℕ, ◌+◌, ◌-◌, ◌<◌, ◌≤◌, Bool, true, false, leb, List, [], ◌∷◌, ◌++◌, length, get_or, take, drop, Ok, Err, Result, sym, refl, ap, ◌∙◌, subst, arith}
use Rattle.fault.specs.declared.Fault.{Fault}
use Rattle.fault.specs.declared.Reason.{Reason}
use Rattle.fault.specs.declared.Reason.TheVariants.{StackUnderflow, DictionaryFull, DataFull}
use Rattle.fault.specs.Numbers.{fault_of}
use Rattle.store.specs.Meaning.{Meaning}
use Rattle.stacks.specs.Stack.{stack_of}
use Rattle.image.specs.Cells.{cell}
use Rattle.image.specs.Views.{low_of, high_of, line_of}
use Rattle.image.specs.Writes.{overwritten}
use Rattle.image.proofs.Overwriting.{take-before}
use Rattle.image.proofs.Laws.{length_low, low_kept, line_kept, high_grown}
use Rattle.entries.specs.Entries.{spelled}
use Rattle.dictionary.specs.Dict.{Dict, defined, colon_begun, vocabulary_defined}
use Rattle.definition.specs.declared.registers.Mark.{Mark}
use Rattle.definition.specs.declared.ranged.Registers.{Registers}
use Rattle.definition.specs.Machine.{Machine, here, told, dp, with_high, with_compiling, changed}
use Rattle.definition.specs.Asked.{Asked, refused, given, ask, ◌>>◌, After, News, began, quietly, telling}
use Rattle.definition.specs.Kernel
use Rattle.definition.specs.View.{lent, view_of, loads_of}
use Rattle.definition.specs.Define.{fits, entry_size}
use Rattle.definition.specs.Stacks.{has_cells, nth, popped}
use Rattle.definition.specs.Words.{perform}
use Rattle.definition.proofs.Agreeing.{dp_bottom}
use Rattle.steps.specs.Seats.{told_by, with_cell_depth}
use Rattle.steps.specs.Does.{seen, Does, Did, IsRefused, FromText}
use Rattle.steps.proofs.Exits.{yes, no, has_cells_lem, lacks_cells, cells_view}
use Rattle.steps.proofs.Changing.{here_seen}
use Rattle.steps.specs.Asking.{Took, StateAnswers}
use Rattle.steps.proofs.Words.{acted}
use Rattle.steps.specs.Spaces.{in_space, InSpace}
use Rattle.defining_words.specs.Defining.{compiling}
use Rattle.steps.specs.DataSpace.{with_here}

-- a question that refuses, whatever was to follow
asked_no : {A : Type 0} (m : Machine) (why : Reason) (b : Bool) (x : Asked A) (e : Fault) → b ≡ false → e ≡ fault_of why (told m) → IsRefused (ask m why b >> x) e m
asked_no m why b x e h p = rw h (p, refl)

-- the same refusal, with something else to follow
still_no : (m m' : Machine) (b : Bool) (why : Reason) (x y : Asked After) (e : Fault) → (m1 : Machine) → x ≡ quietly m1 → IsRefused (ask m why b >> x) e m' → IsRefused (ask m why b >> y) e m'
still_no m m' true why x y e m1 q h = let P : Asked After → Type 0 = λ z. IsRefused z e m' in absurd (subst P q h)
still_no m m' false why x y e m1 q h = h

machine_or : Machine → Asked After → Machine
machine_or m (refused why m') = m
machine_or m (given a) = a.machine

quiet_same : (m m' : Machine) → quietly m ≡ quietly m' → m ≡ m'
unfolding machine_or
quiet_same m m' h = ap (machine_or m) h

-- there was space, and this is the machine behind
has_space : (n : ℕ) (f : Dict → Dict) (m m' : Machine) → in_space n f m ≡ quietly m' → (fits n m ≡ true) × (changed f m ≡ m')
has_space n f m m' h = at (fits n m) h
  where
    at : (b : Bool) → (ask m DictionaryFull b >> quietly (changed f m)) ≡ quietly m' → (b ≡ true) × (changed f m ≡ m')
    at true h = (refl, quiet_same (changed f m) m' h)
    at false h = let z : ◌≡◌ {A = ℕ} 0 1 = cc in absurd (omega arith)

no_space : (n : ℕ) (f : Dict → Dict) (m m' : Machine) (e : Fault) (y : Asked After) → Does (in_space n f) m (Err e) m' → IsRefused (ask m DictionaryFull (fits n m) >> y) e m'
no_space n f m m' e y h = rw h.1 (still_no m m (fits n m) DictionaryFull (quietly (changed f m)) y e (changed f m) refl h.0)

-- a change that needs space, with its news
changed_did : (n : ℕ) (f : Dict → Dict) (m m' : Machine) (nw : News) (o : Result (Unit {0}) Fault) → Does (in_space n f) m o m' → Did (ask m DictionaryFull (fits n m) >> telling nw (changed f m)) o m'
changed_did n f m m' nw (Ok u) h =
    let p = has_space n f m m' h in
    (record { machine = m'; typed = []; news = nw }, ap (λ b. ask m DictionaryFull b >> telling nw (changed f m)) p.0 ∙ ap (telling nw) p.1, refl, refl)
changed_did n f m m' nw (Err e) h = no_space n f m m' e (telling nw (changed f m)) h

-- the machine by what a growth of data space can touch
abbrev built : Registers → List ℕ → List ℕ → List Mark → Meaning → List ℕ → List ℕ → List ℕ → Machine
built r c t k s low high line = record {
  low = low;
  high = high;
  stacks = record { cells = stack_of r.seat.depths.cells c; returns = stack_of r.seat.depths.returns t; marks = stack_of r.seat.depths.marks k };
  text = record { line = line; source = r.seat.source; loads = loads_of r.seat.loads };
  names = r.shared.names;
  order = r.seat.order;
  flow = r.seat.flow;
  buffer = r.shared.buffer;
  store = s;
}

-- data space with a cell more
module _ (r r' : Registers) (i i' : List ℕ) (li : length i ≡ 65536) (b : r.shared.ends.here + 2 ≤ 65535) (u : r'.shared ≡ with_here (r.shared.ends.here + 2) r.shared) (w : r'.seat ≡ r.seat) (e : i' ≡ overwritten r.shared.ends.here (cell 0) i) where
  holds : r.shared.ends.here + length (cell 0) ≤ length i
  unfolding cell
  holds = omega arith

  high_is : high_of (r.shared.ends.here + 2) i' ≡ high_of r.shared.ends.here i ++ cell 0
  unfolding cell
  high_is = ap (high_of (r.shared.ends.here + 2)) e ∙ high_grown r.shared.ends.here (cell 0) i holds (omega (arith, r.space))

  grown_view : (c t : List ℕ) (k : List Mark) (s : Meaning) → seen r' i' c t k s ≡ with_high ((seen r i c t k s).high ++ cell 0) (seen r i c t k s)
  grown_view c t k s =
      ap (λ y. view_of y r'.seat (lent i' c t k) s) u ∙ ap (λ y. view_of (with_here (r.shared.ends.here + 2) r.shared) y (lent i' c t k) s) w
      ∙ ap (λ y. built r c t k s y (high_of (r.shared.ends.here + 2) i') (line_of i')) (ap (low_of r.shared.ends.dp) e ∙ low_kept r.shared.ends.here (cell 0) i holds r.shared.ends.dp (omega (arith, r.space, r.top)))
      ∙ ap (λ y. built r c t k s (low_of r.shared.ends.dp i) y (line_of i')) high_is
      ∙ ap (λ y. built r c t k s (low_of r.shared.ends.dp i) (high_of r.shared.ends.here i ++ cell 0) y) (ap line_of e ∙ line_kept r.shared.ends.here (cell 0) i holds (omega (arith, r.space)))

  pub grown_below : take 256 i' ≡ take 256 i
  grown_below = ap (take 256) e ∙ take-before 256 r.shared.ends.here (cell 0) i (omega (arith, r.space)) (omega arith)

-- the bytes of an entry of this name with one more parameter cell
abbrev size : List ℕ → ℕ
size name = entry_size name + 2

module _ (r r1 : Registers) (i name : List ℕ) (h : Took Kernel.a_name r i name 0 r1) where
  abbrev view : ℕ
  view = r1.seat.source.position.blk

  module _ (a : StateAnswers (Kernel.none_open ∷ []) r1 (Ok tt)) where
    pub created : (r2 : Registers) (i' : List ℕ) (o : Result (Unit {0}) Fault) → InSpace (size name) (defined view 0 (spelled name) 202 (cell 0)) r1 i o r2 i' → (c : List ℕ) → FromText 66 r i c o r2 i' c
    unfolding perform
    created r2 i' o d c =
        acted 66 r i c r1 name 0 h o r2 i' c a
        (λ again t k s. changed_did (size name) (defined view 0 (spelled name) 202 (cell 0)) (seen r1 i c t k s) (seen r2 i' c t k s) (began (dp (seen r1 i c t k s) + 2)) o (d c t k s))

    pub vocabulary_made : (r2 : Registers) (i' : List ℕ) (o : Result (Unit {0}) Fault) → InSpace (entry_size name + 10) (vocabulary_defined view (spelled name)) r1 i o r2 i' → (c : List ℕ) → FromText 69 r i c o r2 i' c
    unfolding perform
    vocabulary_made r2 i' o d c =
        acted 69 r i c r1 name 0 h o r2 i' c a
        (λ again t k s. changed_did (entry_size name + 10) (vocabulary_defined view (spelled name)) (seen r1 i c t k s) (seen r2 i' c t k s) (began (dp (seen r1 i c t k s) + 2)) o (d c t k s))

    -- CONSTANT
    module _ (c : List ℕ) (lc : length c ≡ 128) where
      abbrev now : List ℕ → List Mark → Meaning → Machine
      now t k s = seen r1 i c t k s

      abbrev constant_from : ℕ → Machine → Asked After
      constant_from v m = ask m DictionaryFull (fits (size name) m) >> telling (began (dp m + 2)) (changed (defined view 0 (spelled name) 203 (cell v)) (popped 1 m))

      pub constant_short : (e : Fault) → r1.seat.depths.cells < 1 → e ≡ fault_of StackUnderflow (told_by r1.seat) → FromText 68 r i c (Err e) r1 i c
      unfolding perform
      constant_short e l p =
          acted 68 r i c r1 name 0 h (Err e) r1 i c a
          (λ again t k s. asked_no (now t k s) StackUnderflow (has_cells 1 (now t k s)) (constant_from (nth 0 (now t k s)) (now t k s)) e (lacks_cells r1 i c t k s lc 1 l) p)

      module _ (v : ℕ) (q : v ≡ get_or (stack_of r1.seat.depths.cells c) 0 0) (l : 1 ≤ r1.seat.depths.cells) (r2 : Registers) (i' : List ℕ) where
        abbrev constant_entry : Dict → Dict
        constant_entry = defined view 0 (spelled name) 203 (cell v)

        by_value : (o : Result (Unit {0}) Fault) (r3 : Registers) → ((t : List ℕ) (k : List Mark) (s : Meaning) → Did (constant_from v (now t k s)) o (seen r3 i' c t k s)) → FromText 68 r i c o r3 i' c
        unfolding perform
        by_value o r3 d =
            acted 68 r i c r1 name 0 h o r3 i' c a
            (λ again t k s.
            let m = now t k s in
            let e : (ask m StackUnderflow (has_cells 1 m) >> constant_from (nth 0 m) m) ≡ constant_from v m =
            ap (λ b. ask m StackUnderflow b >> constant_from (nth 0 m) m) (has_cells_lem r1 i c t k s lc 1 l) ∙ ap (λ y. constant_from y m) (sym q) in
            subst (λ (y : Asked After). Did y o (seen r3 i' c t k s)) (sym e) (d t k s))

        pub constant_full : (e : Fault) → InSpace (size name) constant_entry r1 i (Err e) r2 i' → FromText 68 r i c (Err e) r2 i' c
        constant_full e d = by_value (Err e) r2 (λ t k s. let m = now t k s in no_space (size name) constant_entry m (seen r2 i' c t k s) e (telling (began (dp m + 2)) (changed constant_entry (popped 1 m))) (d c t k s))

        pub constant_done : (r3 : Registers) → InSpace (size name) constant_entry r1 i (Ok tt) r2 i' → r3.shared ≡ r2.shared → r3.seat ≡ with_cell_depth (r2.seat.depths.cells - 1) r2.seat → stack_of (r2.seat.depths.cells - 1) c ≡ drop 1 (stack_of r2.seat.depths.cells c) → FromText 68 r i c (Ok tt) r3 i' c
        constant_done r3 d u w st =
            by_value (Ok tt) r3
            (λ t k s.
            let m = now t k s in
            let p = has_space (size name) constant_entry m (seen r2 i' c t k s) (d c t k s) in
            let e : changed constant_entry (popped 1 m) ≡ seen r3 i' c t k s = ap (popped 1) p.1 ∙ sym (cells_view r2 r3 i' c c t k s (r2.seat.depths.cells - 1) (drop 1 (stack_of r2.seat.depths.cells c)) u w st) in (
              record { machine = seen r3 i' c t k s; typed = []; news = began (dp m + 2) },
              ap (λ b. ask m DictionaryFull b >> telling (began (dp m + 2)) (changed constant_entry (popped 1 m))) p.0 ∙ ap (telling (began (dp m + 2))) e,
              refl,
              refl,
            ))

    -- VARIABLE
    module _ (li : length i ≡ 65536) where
      abbrev variable_entry : Dict → Dict
      variable_entry = defined view 0 (spelled name) 202 (cell 0)

      abbrev grown_after : Machine → Asked After
      grown_after m = telling (began (dp m + 2)) (with_high (m.high ++ cell 0) (changed variable_entry m))

      abbrev cell_asked : Machine → Asked After
      cell_asked m = ask m DataFull (leb (here m + 2) 65535) >> grown_after m

      fits_by : (b : Bool) → leb (r1.shared.ends.dp + size name) 32768 ≡ b → (c t : List ℕ) (k : List Mark) (s : Meaning) → fits (size name) (seen r1 i c t k s) ≡ b
      fits_by b q c t k s = ap (λ y. leb (y + size name) 32768) (length_low r1.shared.ends.dp i (dp_bottom r1) (omega (arith, r1.top))) ∙ q

      pub variable_full : (e : Fault) → 32768 < r1.shared.ends.dp + size name → e ≡ fault_of DictionaryFull (told_by r1.seat) → (c : List ℕ) → FromText 67 r i c (Err e) r1 i c
      unfolding perform
      variable_full e l p c =
          acted 67 r i c r1 name 0 h (Err e) r1 i c a
          (λ again t k s. let m = seen r1 i c t k s in asked_no m DictionaryFull (fits (size name) m) (cell_asked m) e (fits_by false (no (r1.shared.ends.dp + size name) 32768 l) c t k s) p)

      module _ (l : r1.shared.ends.dp + size name ≤ 32768) where
        with_entry_space : (c : List ℕ) (o : Result (Unit {0}) Fault) (r3 : Registers) (i' : List ℕ) → ((t : List ℕ) (k : List Mark) (s : Meaning) → Did (cell_asked (seen r1 i c t k s)) o (seen r3 i' c t k s)) → FromText 67 r i c o r3 i' c
        unfolding perform
        with_entry_space c o r3 i' d =
            acted 67 r i c r1 name 0 h o r3 i' c a
            (λ again t k s.
            let m = seen r1 i c t k s in
            subst (λ (y : Asked After). Did y o (seen r3 i' c t k s)) (sym (ap (λ b. ask m DictionaryFull b >> cell_asked m) (fits_by true (yes (r1.shared.ends.dp + size name) 32768 l) c t k s))) (d t k s))

        pub variable_no_data : (e : Fault) → 65535 < r1.shared.ends.here + 2 → e ≡ fault_of DataFull (told_by r1.seat) → (c : List ℕ) → FromText 67 r i c (Err e) r1 i c
        variable_no_data e b p c =
            with_entry_space c (Err e) r1 i
            (λ t k s.
            let m = seen r1 i c t k s in
            asked_no m DataFull (leb (here m + 2) 65535) (grown_after m) e (ap (λ y. leb (y + 2) 65535) (here_seen r1 i c t k s li) ∙ no (r1.shared.ends.here + 2) 65535 b) p)

        -- the dictionary's space was asked for before
        pub variable_not : (r2 : Registers) (i' : List ℕ) (e : Fault) → InSpace (size name) variable_entry r1 i (Err e) r2 i' → (c : List ℕ) → FromText 67 r i c (Err e) r2 i' c
        variable_not r2 i' e d c =
            with_entry_space c (Err e) r2 i'
            (λ t k s.
            let m = seen r1 i c t k s in
            let P : Bool → Type 0 = λ b. IsRefused (ask m DictionaryFull b >> quietly (changed variable_entry m)) e m in
            absurd (subst P (fits_by true (yes (r1.shared.ends.dp + size name) 32768 l) c t k s) (d c t k s).0))

        pub variable_done : (r2 r3 : Registers) (i' i'' : List ℕ) → r1.shared.ends.here + 2 ≤ 65535 → InSpace (size name) variable_entry r1 i (Ok tt) r2 i' → r2.shared.ends.here ≡ r1.shared.ends.here → length i' ≡ 65536 → r3.shared ≡ with_here (r2.shared.ends.here + 2) r2.shared → r3.seat ≡ r2.seat → i'' ≡ overwritten r2.shared.ends.here (cell 0) i' → (c : List ℕ) → FromText 67 r i c (Ok tt) r3 i'' c
        variable_done r2 r3 i' i'' b d z li' u w e c =
            with_entry_space c (Ok tt) r3 i''
            (λ t k s.
            let m = seen r1 i c t k s in
            let p = has_space (size name) variable_entry m (seen r2 i' c t k s) (d c t k s) in
            let y : with_high (m.high ++ cell 0) (changed variable_entry m) ≡ seen r3 i'' c t k s = ap (λ (x : Machine). with_high (x.high ++ cell 0) x) p.1 ∙ sym (grown_view r2 r3 i' i'' li' (omega (arith, z)) u w e c t k s) in (
              record { machine = seen r3 i'' c t k s; typed = []; news = began (dp m + 2) },
              ap (λ x. ask m DataFull x >> grown_after m) (ap (λ x. leb (x + 2) 65535) (here_seen r1 i c t k s li) ∙ yes (r1.shared.ends.here + 2) 65535 b) ∙ ap (telling (began (dp m + 2))) y,
              refl,
              refl,
            ))

  -- :
  module _ (a : StateAnswers (Kernel.none_open ∷ Kernel.ip_zero ∷ []) r1 (Ok tt)) (r2 : Registers) (i' : List ℕ) where
    abbrev colon_entry : Dict → Dict
    colon_entry = colon_begun view (spelled name)

    pub colon_full : (e : Fault) → InSpace (entry_size name) colon_entry r1 i (Err e) r2 i' → (c : List ℕ) → FromText 64 r i c (Err e) r2 i' c
    unfolding perform
    colon_full e d c =
        acted 64 r i c r1 name 0 h (Err e) r2 i' c a
        (λ again t k s. let m = seen r1 i c t k s in no_space (entry_size name) colon_entry m (seen r2 i' c t k s) e (telling (began (dp m + 2)) (with_compiling true (changed colon_entry m))) (d c t k s))

    pub colon_done : (r3 : Registers) → InSpace (entry_size name) colon_entry r1 i (Ok tt) r2 i' → r3.shared ≡ r2.shared → r3.seat ≡ compiling r2.seat → (c : List ℕ) → FromText 64 r i c (Ok tt) r3 i' c
    unfolding perform
    colon_done r3 d u w c =
        acted 64 r i c r1 name 0 h (Ok tt) r3 i' c a
        (λ again t k s.
        let m = seen r1 i c t k s in
        let p = has_space (entry_size name) colon_entry m (seen r2 i' c t k s) (d c t k s) in
        let v : with_compiling true (seen r2 i' c t k s) ≡ seen r3 i' c t k s = sym (ap (λ y. view_of y r3.seat (lent i' c t k) s) u ∙ ap (λ y. view_of r2.shared y (lent i' c t k) s) w) in (
          record { machine = seen r3 i' c t k s; typed = []; news = began (dp m + 2) },
          ap (λ b. ask m DictionaryFull b >> telling (began (dp m + 2)) (with_compiling true (changed colon_entry m))) p.0 ∙ ap (λ y. telling (began (dp m + 2)) (with_compiling true y)) p.1 ∙ ap (telling (began (dp m + 2))) v,
          refl,
          refl,
        ))
