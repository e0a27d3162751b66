-- The defining words, and FORGET.
use Rattle.std.proofs.Common.{◌≡◌, ℕ, ◌+◌, ◌-◌, ◌*◌, ◌<◌, ◌≤◌, true, false, ◌&&◌, eqb, leb, ◌≢◌, List, [], ◌∷◌, ◌++◌, length, take, sym, refl, ◌∙◌, subst, inl, inr, arith, lit<}
use Rattle.std.specs.List.{AllByRecursion}
use Rattle.std.proofs.lemmas.List.{length-append, length-take, nil_from_length}
use Rattle.std.proofs.lemmas.Bool.{leb-true, eqb-true, and_parts, cond_both, false≢true}
use Rattle.image.specs.Cells.{at, cell, cell_at, zeros, Bytes}
use Rattle.entries.specs.Entries.{capital, spelled, entry_bytes, count_byte, body_of}
use Rattle.entries.specs.Threads.{Walk}
use Rattle.entries.proofs.Names.{length-spelled}
use Rattle.dictionary.specs.Dict.{Dict, thread_of, colon_begun, open_joined, defined, vocabulary_defined, appended, immediate_marked, with_current}
use Rattle.dictionary.specs.Trim.{forgotten}
use Rattle.kernel.specs.Boot.{boot_dict}
use Rattle.forgetting.specs.Changes as changes
use Rattle.forgetting.specs.Changes.{Change, colon, define, vocabulary, semicolon, immediate, definitions, forget, Allowed}
use Rattle.forgetting.specs.Changes.{changed as changed_by}
use Rattle.forgetting.specs.Law as law
use Rattle.forgetting.specs.Law.{Run, Begin}
use Rattle.forgetting.proofs.Trims.{append-bytes}
use Rattle.forgetting.proofs.Booting.{boot_long}
use Rattle.definition.specs.Machine.{Machine, dp, here, blk, with_high, with_compiling, changed, dict_of}
use Rattle.definition.specs.Asked.{forgot}
use Rattle.definition.specs.Text.{all_within, is_name}
use Rattle.definition.specs.Kernel
use Rattle.definition.specs.Kernel.{DefiningWord}
use Rattle.definition.specs.Boot as boots
use Rattle.definition.specs.Boot.{kernel_token}
use Rattle.definition.specs.Stacks.{nth, popped, has_cells}
use Rattle.definition.specs.Space.{has_newest}
use Rattle.definition.specs.Define.{fits, do_defining}
use Rattle.step_changes.specs.Steady.{InOpen, Steady}
use Rattle.step_changes.specs.Laws.{Quietly, stays, and_then, Begins, Turns}
use Rattle.step_changes.proofs.Known.{known}
use Rattle.step_changes.proofs.Ranges.{bytes_none, bytes_more, bytes_cell, bytes_take, bytes_replicate, length-cell}
use Rattle.step_changes.proofs.Leading.{Leads, leads_ask, nth_cell, with_popped}
use Rattle.step_changes.proofs.Plain.{quiet_if, low_cell}
use Rattle.step_changes.proofs.Spacing.{here_leads}
use Rattle.step_changes.proofs.Changing.{no_marks, same_changed, with_change, change_leads, with_compiling_lem, appended_quietly}

-- a name's bytes as its entry holds them

capital_low : (b : ℕ) → b < 128 → capital b < 128
capital_low b h = cond_both (leb 97 b && leb b 122) (b - 32) b (λ x. x < 128) (λ e. omega arith) (λ e. h)

within_parts : (b : ℕ) (bs : List ℕ) → all_within 33 126 (b ∷ bs) ≡ true → (b < 128) × (all_within 33 126 bs ≡ true)
within_parts b bs h =
    let p = and_parts (leb 33 b && leb b 126) (all_within 33 126 bs) h in
    (omega (arith, leb-true b 126 (and_parts (leb 33 b) (leb b 126) p.0).1), p.1)

spelled_bytes : (bs : List ℕ) → all_within 33 126 bs ≡ true → Bytes (spelled bs)
spelled_bytes [] h = bytes_none
spelled_bytes (b ∷ []) h = bytes_more (capital b + 128) [] (omega (arith, capital_low b (within_parts b [] h).0)) bytes_none
spelled_bytes (b ∷ c ∷ bs) h =
    let p = within_parts b (c ∷ bs) h in
    bytes_more (capital b) (spelled (c ∷ bs)) (omega (arith, capital_low b p.0)) (spelled_bytes (c ∷ bs) p.1)

pub record Named (name : List ℕ) : Type 0 where
  pub some : 1 ≤ length name
  pub few : length name ≤ 31
  pub bytes : Bytes (spelled name)

pub named : (name : List ℕ) → is_name name ≡ true → Named name
named name h =
    let p = and_parts (leb 1 (length name) && leb (length name) 31) (all_within 33 126 name) h in
    let q = and_parts (leb 1 (length name)) (leb (length name) 31) p.0 in
    record { some = leb-true 1 (length name) q.0; few = leb-true (length name) 31 q.1; bytes = spelled_bytes name p.1 }

-- an entry's bytes

entry_bytes_lem : (view link count : ℕ) (name : List ℕ) (code here : ℕ) (rest : List ℕ) → view < 65536 → link < 65536 → count < 256 → Bytes name → code < 65536 → here < 65536 → Bytes rest → Bytes (entry_bytes view link count name code here rest)
unfolding entry_bytes
entry_bytes_lem view link count name code here rest v l c n k h r =
    append-bytes (cell view) _ (bytes_cell view v) (append-bytes (cell link) _ (bytes_cell link l) (bytes_more count _ c
    (append-bytes name _ n (append-bytes (cell code) _ (bytes_cell code k) (append-bytes (cell here) rest (bytes_cell here h) r)))))

entry_long : (view link count : ℕ) (name : List ℕ) (code here : ℕ) (rest : List ℕ) → length (entry_bytes view link count name code here rest) ≡ 9 + length name + length rest
unfolding entry_bytes cell
entry_long view link count name code here rest = simp length-append (omega arith)

-- a word begins
module _ (m : Machine) (s : Steady m) (z : m.names.opened ≡ 0) (name : List ℕ) (n : Named name) where
  begins : (code : ℕ) (rest : List ℕ) → code < 65536 → Bytes rest → dp m + (9 + length name + length rest) ≤ 32768 → changes.Begins (blk m) (spelled name) code rest (dict_of m)
  begins code rest k r h =
      let l = length-spelled name in
      let link = cell_at m.low (thread_of (at (spelled name) 0) (dict_of m)) in
      record {
        shut = z;
        named = omega (arith, n.some);
        short = omega (arith, n.few);
        room = simp length-append (omega (arith, entry_long (blk m) link (count_byte 0 (spelled name)) (spelled name) code (here m) rest));
        bytes = entry_bytes_lem (blk m) link (count_byte 0 (spelled name)) (spelled name) code (here m) rest s.text.reads (low_cell m s _) (omega (arith, n.few)) n.bytes k (omega (arith, s.space.short)) r;
      }

  begun_leads : (f : Dict → Dict) (c : Change) → Begin c → Allowed law.fence c (dict_of m) → f (dict_of m) ≡ changed_by c (dict_of m) → (f (dict_of m)).here ≡ here m → Begins (dp m + 2) (dict_of m) (dict_of (changed f m)) × Steady (changed f m)
  begun_leads f c b a e h = (
    record { next = refl; change = c; begin = b; allowed = a; behind = inl (sym (same_changed m f h) ∙ e) },
    with_change m s f m.stacks.marks h (subst (Run boot_dict) (sym e) (law.and_then c s.came a)) (λ k. absurd (s.compiles k z)) (no_marks (dict_of m) (InOpen (f (dict_of m))) m.stacks.marks z s.marks),
  )

  colon_leads : dp m + (9 + length name) ≤ 32768 → Begins (dp m + 2) (dict_of m) (dict_of (changed (colon_begun (blk m) (spelled name)) m)) × Steady (with_compiling true (changed (colon_begun (blk m) (spelled name)) m))
  unfolding changed_by
  colon_leads h =
      let f = colon_begun (blk m) (spelled name) in
      let k = begun_leads f (colon (blk m) (spelled name)) tt (begins 201 [] (lit< tt) bytes_none (omega arith)) refl refl in
      (k.0, with_compiling_lem (changed f m) k.1 true (λ _ e. omega arith))

  -- an entry with one more parameter cell
  define_allowed : (code x : ℕ) → code < 65536 → x < 65536 → dp m + (9 + length name + 2) ≤ 32768 → Allowed law.fence (define (blk m) (spelled name) code (cell x)) (dict_of m)
  define_allowed code x k j h = let l = length-cell x in (begins code (cell x) k (bytes_cell x j) (omega arith), (λ _. omega arith))

  define_leads : (code x : ℕ) → code < 65536 → x < 65536 → dp m + (9 + length name + 2) ≤ 32768 → Begins (dp m + 2) (dict_of m) (dict_of (changed (defined (blk m) 0 (spelled name) code (cell x)) m)) × Steady (changed (defined (blk m) 0 (spelled name) code (cell x)) m)
  unfolding changed_by
  define_leads code x k j h = begun_leads (defined (blk m) 0 (spelled name) code (cell x)) (define (blk m) (spelled name) code (cell x)) tt (define_allowed code x k j h) refl refl

  vocabulary_leads : dp m + (9 + length name + 10) ≤ 32768 → Begins (dp m + 2) (dict_of m) (dict_of (changed (vocabulary_defined (blk m) (spelled name)) m)) × Steady (changed (vocabulary_defined (blk m) (spelled name)) m)
  unfolding changed_by
  vocabulary_leads h =
      let v = m.names.voclink in
      let l : length (zeros 8 ++ cell v) ≡ 10 = length-append (zeros 8) (cell v) ∙ omega (arith, length-cell v) in
      begun_leads (vocabulary_defined (blk m) (spelled name)) (vocabulary (blk m) (spelled name)) tt
      (begins 204 (zeros 8 ++ cell v) (lit< tt) (append-bytes (zeros 8) (cell v) (bytes_replicate 8 0 (lit< tt)) (bytes_cell v (known (dict_of m) s.came).link)) (omega arith)) refl refl

  variable_leads : dp m + (9 + length name + 2) ≤ 32768 → here m + 2 ≤ 65535 → Begins (dp m + 2) (dict_of m) (dict_of (with_high (m.high ++ cell 0) (changed (defined (blk m) 0 (spelled name) 202 (cell 0)) m))) × Steady (with_high (m.high ++ cell 0) (changed (defined (blk m) 0 (spelled name) 202 (cell 0)) m))
  unfolding changed_by
  variable_leads h g =
      let f = defined (blk m) 0 (spelled name) 202 (cell 0) in
      let xs = m.high ++ cell 0 in
      let l : length xs ≡ length m.high + 2 = length-append m.high (cell 0) ∙ omega (arith, length-cell 0) in
      let k = define_leads 202 0 (lit< tt) (lit< tt) h in
      let a = here_leads (changed f m) k.1 z xs (append-bytes _ _ s.space.bytes (bytes_cell 0 (lit< tt))) (omega (arith, s.space.long)) (omega arith) in
      (record { next = refl; change = define (blk m) (spelled name) 202 (cell 0); begin = tt; allowed = define_allowed 202 0 (lit< tt) (lit< tt) h; behind = inr (32768 + length xs, refl, z) }, a.1)

-- FORGET: what the search found in a thread of CURRENT
pub record InThread (m : Machine) (w : ℕ) : Type 0 where
  pub thread : ℕ
  pub thread_lt : thread < 4
  pub walk : Walk m.low (cell_at m.low (m.order.current + 2 * thread)) w

module _ (m : Machine) (s : Steady m) (z : m.names.opened ≡ 0) (w : ℕ) (t : InThread m w) where
  forget_allowed : boots.fence ≤ w → Allowed law.fence (forget w) (dict_of m)
  forget_allowed f = record { shut = z; thread = t.thread; thread_lt = t.thread_lt; walk = t.walk; high = subst (λ n. n ≤ w) (sym boot_long) f }

  module _ (b : 34048 ≤ body_of m.low w) (h : body_of m.low w ≤ here m) (f : boots.fence ≤ w) where
    space_left : length (take (body_of m.low w - 32768) m.high) ≡ body_of m.low w - 32768
    space_left = simp length-take (omega arith)

    here_left : 32768 + length (take (body_of m.low w - 32768) m.high) ≡ (forgotten w (dict_of m)).here
    unfolding forgotten
    here_left = omega (arith, space_left)

    abbrev AfterForget : Machine
    AfterForget = with_high (take (body_of m.low w - 32768) m.high) (changed (forgotten w) m)

    left_is : dict_of AfterForget ≡ forgotten w (dict_of m)
    left_is =
        let E = forgotten w (dict_of m) in
        λ i. record { low = E.low; here = here_left i; newest = E.newest; voc_link = E.voc_link; context = E.context; current = E.current; opened = E.opened }

    gone_run : Run boot_dict (forgotten w (dict_of m))
    unfolding changed_by
    gone_run = law.and_then (forget w) s.came (forget_allowed f)

    forget_leads : Turns (forgot w) (dict_of m) (dict_of AfterForget) × Steady AfterForget
    forget_leads = (
      (forget_allowed f, left_is),
      record {
        came = subst (Run boot_dict) (sym left_is) gone_run;
        compiles = λ c. absurd (s.compiles c z);
        marks = no_marks (dict_of m) (InOpen (dict_of AfterForget)) m.stacks.marks z s.marks;
        stacks = s.stacks;
        text = s.text;
        space = record { bytes = bytes_take (body_of m.low w - 32768) m.high s.space.bytes; long = omega (arith, space_left); short = omega (arith, space_left, s.space.short) };
        pointer = s.pointer;
        store = s.store;
      },
    )

module _ (m : Machine) (s : Steady m) where
  semicolon_leads : m.names.opened ≢ 0 → m.stacks.marks ≡ [] → dp m + 2 ≤ 32768 → Quietly (dict_of m) (dict_of (changed (λ D. open_joined (appended (cell (kernel_token 91)) D)) m)) × Steady (with_compiling false (changed (λ D. open_joined (appended (cell (kernel_token 91)) D)) m))
  unfolding changed_by
  semicolon_leads o e h =
      let bs = cell (kernel_token 91) in
      let f = λ (D : Dict). open_joined (appended bs D) in
      let n = with_compiling false m in
      let k = with_compiling_lem m s false (λ c. absurd (false≢true c)) in
      let q : Quietly (dict_of m) (f (dict_of m)) = and_then semicolon (appended_quietly (dict_of m) s.came o bs (bytes_cell (kernel_token 91) (lit< tt)) (omega (arith, length-cell (kernel_token 91)))) o tt in
      change_leads n k f m.stacks.marks refl q (λ c. absurd (false≢true c)) (subst (AllByRecursion (InOpen (f (dict_of m)))) (sym e) tt)

  definitions_leads : m.names.opened ≡ 0 → Quietly (dict_of m) (dict_of (changed (with_current m.order.context) m)) × Steady (changed (with_current m.order.context) m)
  unfolding changed_by
  definitions_leads z = change_leads m s (with_current m.order.context) m.stacks.marks refl (and_then definitions stays z tt) s.compiles (no_marks (dict_of m) (InOpen (with_current m.order.context (dict_of m))) m.stacks.marks z s.marks)

  immediate_leads : m.names.opened ≡ 0 → Quietly (dict_of m) (dict_of (changed immediate_marked m)) × Steady (changed immediate_marked m)
  unfolding changed_by
  immediate_leads z = change_leads m s immediate_marked m.stacks.marks refl (and_then immediate stays z tt) s.compiles (no_marks (dict_of m) (InOpen (immediate_marked (dict_of m))) m.stacks.marks z s.marks)

  -- what a defining word is given
  abbrev pub Given : DefiningWord → List ℕ → ℕ → Type 0
  Given Kernel.colon name w = (m.names.opened ≡ 0) × (is_name name ≡ true)
  Given Kernel.semicolon name w = m.names.opened ≢ 0
  Given Kernel.create name w = (m.names.opened ≡ 0) × (is_name name ≡ true)
  Given Kernel.variable name w = (m.names.opened ≡ 0) × (is_name name ≡ true)
  Given Kernel.constant name w = (m.names.opened ≡ 0) × (is_name name ≡ true)
  Given Kernel.vocabulary name w = (m.names.opened ≡ 0) × (is_name name ≡ true)
  Given Kernel.definitions name w = m.names.opened ≡ 0
  Given Kernel.immediate name w = m.names.opened ≡ 0
  Given Kernel.forget name w = (m.names.opened ≡ 0) × InThread m w

  pub defining_leads : (d : DefiningWord) (name : List ℕ) (w : ℕ) → Given d name w → Leads (dict_of m) (do_defining d name w m)
  defining_leads Kernel.colon name w k = leads_ask _ _ _ (fits (9 + length name) m) _ (λ h. colon_leads m s k.0 name (named name k.1) (leb-true _ 32768 h))
  defining_leads Kernel.semicolon name w k =
      leads_ask _ _ _ (eqb (length m.stacks.marks) 0) _ (λ e. leads_ask _ _ _ (fits 2 m) _ (λ h. semicolon_leads k (nil_from_length m.stacks.marks (eqb-true _ 0 e)) (leb-true _ 32768 h)))
  defining_leads Kernel.create name w k = leads_ask _ _ _ (fits (9 + length name + 2) m) _ (λ h. define_leads m s k.0 name (named name k.1) 202 0 (lit< tt) (lit< tt) (leb-true _ 32768 h))
  defining_leads Kernel.variable name w k =
      leads_ask _ _ _ (fits (9 + length name + 2) m) _ (λ h. leads_ask _ _ _ (leb (here m + 2) 65535) _ (λ g. variable_leads m s k.0 name (named name k.1) (leb-true _ 32768 h) (leb-true _ 65535 g)))
  defining_leads Kernel.constant name w k =
      leads_ask _ _ _ (has_cells 1 m) _ (λ c. leads_ask _ _ _ (fits (9 + length name + 2) m) _ (λ h. define_leads (popped 1 m) (with_popped m s 1) k.0 name (named name k.1) 203 (nth 0 m) (lit< tt) (nth_cell m s 0) (leb-true _ 32768 h)))
  defining_leads Kernel.vocabulary name w k = leads_ask _ _ _ (fits (9 + length name + 10) m) _ (λ h. vocabulary_leads m s k.0 name (named name k.1) (leb-true _ 32768 h))
  defining_leads Kernel.definitions name w k = definitions_leads k
  defining_leads Kernel.immediate name w k = quiet_if m s (has_newest m) (changed immediate_marked m) m (immediate_leads k) (stays, s)
  defining_leads Kernel.forget name w k =
      let body = body_of m.low w in
      leads_ask _ _ _ (leb 34048 body && leb body (here m)) _ (λ g. leads_ask _ _ _ (leb boots.fence w) _ (λ f.
      let p = and_parts (leb 34048 body) (leb body (here m)) g in
      forget_leads m s k.0 w k.1 (leb-true 34048 body p.0) (leb-true body (here m) p.1) (leb-true boots.fence w f)))
