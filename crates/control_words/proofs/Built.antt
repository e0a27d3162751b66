-- A structure is built: each part as a change of the machine, and the definition's questions.
use Rattle.std.proofs.Common.{◌≡◌, ℕ, ◌+◌, ◌-◌, ◌<◌, ◌≤◌, Bool, true, false, ◌&&◌, leb, List, [], ◌∷◌, ◌++◌, length, drop, Some, None, Ok, Err, Option, sym, refl, ap, ◌∙◌, subst, arith}
use Rattle.std.specs.Prelude.{IfSome}
use Rattle.std.proofs.lemmas.Bool.{true≢false, and_parts, le-leb, lt-leb}
use Rattle.std.proofs.lemmas.List.{length-append, length-drop}
use Rattle.fault.specs.declared.Fault.{Fault}
use Rattle.fault.specs.declared.Reason.TheVariants.{BadMark, DictionaryFull}
use Rattle.fault.specs.Numbers.{fault_of}
use Rattle.store.specs.Meaning.{Meaning}
use Rattle.stacks.specs.Stack.{stack_of}
use Rattle.stacks.proofs.Laws.{length_stack}
use Rattle.dictionary.specs.declared.registers.Dictionary.{Dictionary}
use Rattle.dictionary.specs.declared.registers.Ends.{Ends}
use Rattle.dictionary.specs.Dict.{appended, patched}
use Rattle.dictionary.specs.Lent as lent
use Rattle.dictionary.specs.Lent.{Outside}
use Rattle.definition.specs.declared.registers.Kind.{Kind}
use Rattle.definition.specs.declared.registers.Mark.{Mark}
use Rattle.definition.specs.declared.ranged.Registers.{Registers}
use Rattle.definition.specs.Machine.{Machine, with_marks, changed}
use Rattle.definition.specs.Asked.{Asked, refused, ask, ◌>>◌, After, quietly}
use Rattle.definition.specs.Define.{fits}
use Rattle.definition.specs.Flow.{in_dictionary}
use Rattle.definition.specs.Compile.{are_marks, are_cells, resolved, structured}
use Rattle.steps.specs.Seats.{told_by}
use Rattle.steps.specs.Does.{seen, IsRefused}
use Rattle.steps.proofs.Exits.{refused_at}
use Rattle.steps.proofs.Dictionary.{low_long, inside_is}
use Rattle.steps.proofs.Changing.{ReadOff, read_back, changed_view}
use Rattle.steps.proofs.Answered.{spaced, full_stays}
use Rattle.steps.specs.Spaces.{InSpace}
use Rattle.control_words.specs.declared.structures.Structure.{Structure}
use Rattle.control_words.specs.Structures.{kinds_of, bytes_of, cells_of, marks_of, learned, Learns, Replaces, Builds}

pub cell_learns : (r : Registers) (d : Dictionary) (i i' : List ℕ) → length i ≡ 65536 → ReadOff r d → (a : ℕ) → lent.dict_of d i' ≡ patched a r.shared.ends.dp (lent.dict_of d i) → Outside i i' → Learns (Some a) r i i'
cell_learns r d i i' l p a e o c t k s =
    changed_view r r d d i i' (patched a r.shared.ends.dp) l p (read_back r d p) e o c t k s (ap (λ (y : Ends). y.here) p.ends)
    ∙ ap (λ y. changed (patched a y) (seen r i c t k s)) (sym (low_long r i l))

-- so many marks are there
marks_enough : (ks : List Kind) (ms : List Mark) → are_marks ks ms ≡ true → length ks ≤ length ms
marks_enough [] ms h = omega arith
marks_enough (k ∷ ks) [] h = absurd (true≢false (sym h))
marks_enough (k ∷ ks) (x ∷ ms) h = let p = marks_enough ks ms (and_parts _ (are_marks ks ms) h).1 in omega (arith, p)

-- any store
no_store : Meaning
no_store = record { count = 0; writable = false; blocks = [] }

-- the definition's questions
module _ (kinds : List Kind) (bs cells : List ℕ) (new : List Mark) (m : Machine) where
  abbrev left : List Mark
  left = new ++ drop (length kinds) m.stacks.marks

  abbrev made : Machine
  made = with_marks left (changed (λ D. resolved cells (appended bs D)) m)

  wrong_marks : are_marks kinds m.stacks.marks ≡ false → structured kinds bs cells new m ≡ refused BadMark m
  wrong_marks h = rw h refl

  wrong_cell : are_marks kinds m.stacks.marks ≡ true → are_cells cells m ≡ false → structured kinds bs cells new m ≡ refused BadMark m
  wrong_cell h g = rw (h, g) refl

  too_many : are_marks kinds m.stacks.marks ≡ true → are_cells cells m ≡ true → leb (length left) 32 ≡ false → structured kinds bs cells new m ≡ refused BadMark m
  too_many h g l = rw (h, g, l) refl

  asked_space : are_marks kinds m.stacks.marks ≡ true → are_cells cells m ≡ true → leb (length left) 32 ≡ true → structured kinds bs cells new m ≡ (ask m DictionaryFull (fits (length bs) m) >> quietly made)
  asked_space h g l = rw (h, g, l) refl

and_yes : (b : Bool) → (b && true) ≡ b
and_yes true = refl
and_yes false = refl

module _ (x : Structure) (r : Registers) (i : List ℕ) (k : List Mark) (li : length i ≡ 65536) (lk : length k ≡ 32) where
  abbrev held : List Mark
  held = stack_of r.seat.depths.marks k

  held_long : length held ≡ r.seat.depths.marks
  held_long = length_stack r.seat.depths.marks k (omega (arith, lk, r.marks))

  cells_are : (a : Option ℕ) (b : Bool) → learned r.shared.ends.dp a ≡ b → (c t : List ℕ) (s : Meaning) → are_cells (cells_of a) (seen r i c t k s) ≡ b
  cells_are None b h c t s = h
  cells_are (Some a) b h c t s = and_yes (in_dictionary a 2 (seen r i c t k s)) ∙ inside_is r i li c t k s a 2 b h

  left_long : length (marks_of x.leaves ++ drop (length (kinds_of x.takes)) held) ≡ length (marks_of x.leaves) + (r.seat.depths.marks - length (kinds_of x.takes))
  left_long = length-append (marks_of x.leaves) (drop (length (kinds_of x.takes)) held) ∙ ap (λ n. length (marks_of x.leaves) + n) (length-drop (length (kinds_of x.takes)) held ∙ ap (λ n. n - length (kinds_of x.takes)) held_long)

  abbrev what : Machine → Asked After
  what = structured (kinds_of x.takes) (bytes_of x.appends) (cells_of x.learns) (marks_of x.leaves)

  pub no_marks : (e : Fault) → are_marks (kinds_of x.takes) held ≡ false → e ≡ fault_of BadMark (told_by r.seat) → Builds x r i k (Err e) r i k
  no_marks e h p c t s = refused_at what (seen r i c t k s) e BadMark (wrong_marks (kinds_of x.takes) (bytes_of x.appends) (cells_of x.learns) (marks_of x.leaves) (seen r i c t k s) h) p

  pub enough : are_marks (kinds_of x.takes) held ≡ true → length (kinds_of x.takes) ≤ r.seat.depths.marks
  enough h = omega (arith, held_long, marks_enough (kinds_of x.takes) held h)

  module _ (h : are_marks (kinds_of x.takes) held ≡ true) where
    pub no_cell : (e : Fault) → learned r.shared.ends.dp x.learns ≡ false → e ≡ fault_of BadMark (told_by r.seat) → Builds x r i k (Err e) r i k
    no_cell e g p c t s = refused_at what (seen r i c t k s) e BadMark (wrong_cell (kinds_of x.takes) (bytes_of x.appends) (cells_of x.learns) (marks_of x.leaves) (seen r i c t k s) h (cells_are x.learns false g c t s)) p

    module _ (g : learned r.shared.ends.dp x.learns ≡ true) where
      pub no_space : (e : Fault) → 32 + length (kinds_of x.takes) < length (marks_of x.leaves) + r.seat.depths.marks → e ≡ fault_of BadMark (told_by r.seat) → Builds x r i k (Err e) r i k
      no_space e l p c t s =
          refused_at what (seen r i c t k s) e BadMark
          (too_many (kinds_of x.takes) (bytes_of x.appends) (cells_of x.learns) (marks_of x.leaves) (seen r i c t k s) h (cells_are x.learns true g c t s) (lt-leb _ 32 (omega (arith, left_long, enough h, l)))) p

      module _ (l : length (marks_of x.leaves) + r.seat.depths.marks ≤ 32 + length (kinds_of x.takes)) where
        asked : (c t : List ℕ) (s : Meaning) → what (seen r i c t k s) ≡ (ask (seen r i c t k s) DictionaryFull (fits (length (bytes_of x.appends)) (seen r i c t k s)) >> quietly (made (kinds_of x.takes) (bytes_of x.appends) (cells_of x.learns) (marks_of x.leaves) (seen r i c t k s)))
        asked c t s = asked_space (kinds_of x.takes) (bytes_of x.appends) (cells_of x.learns) (marks_of x.leaves) (seen r i c t k s) h (cells_are x.learns true g c t s) (le-leb _ 32 (omega (arith, left_long, enough h, l)))

        pub no_bytes : (r1 : Registers) (i1 : List ℕ) (e : Fault) → InSpace (length (bytes_of x.appends)) (appended (bytes_of x.appends)) r i (Err e) r1 i1 → Builds x r i k (Err e) r1 i1 k
        no_bytes r1 i1 e f c t s =
            let m = seen r i c t k s in
            let d = f c t k s in
            (subst (λ y. IsRefused y e m) (sym (asked c t s)) (full_stays (fits (length (bytes_of x.appends)) m) m _ _ e d.0), d.1)

        module _ (r1 : Registers) (i1 : List ℕ) (f : InSpace (length (bytes_of x.appends)) (appended (bytes_of x.appends)) r i (Ok tt) r1 i1) (li1 : length i1 ≡ 65536) where
          pub wider : r.shared.ends.dp ≤ r1.shared.ends.dp
          wider =
              let e = (spaced _ (seen r i [] [] k no_store) _ _ (f [] [] k no_store)).1 in
              let n : length (seen r1 i1 [] [] k no_store).low ≡ length ((seen r i [] [] k no_store).low ++ bytes_of x.appends) = ap (λ (y : Machine). length y.low) e in
              omega (arith, n, length-append (seen r i [] [] k no_store).low (bytes_of x.appends), low_long r i li, low_long r1 i1 li1)

          pub done : (r2 : Registers) (i2 : List ℕ) (k2 : List Mark) → Learns x.learns r1 i1 i2 → Replaces (length (kinds_of x.takes)) x.leaves r1 k r2 k2 → Builds x r i k (Ok tt) r2 i2 k2
          done r2 i2 k2 u v c t s =
              let m = seen r i c t k s in
              let e = spaced (fits (length (bytes_of x.appends)) m) m (changed (appended (bytes_of x.appends)) m) (seen r1 i1 c t k s) (f c t k s) in
              let W : Machine → Machine = λ y. with_marks (marks_of x.leaves ++ drop (length (kinds_of x.takes)) y.stacks.marks) y in
              asked c t s
              ∙ ap (λ b. ask m DictionaryFull b >> quietly (made (kinds_of x.takes) (bytes_of x.appends) (cells_of x.learns) (marks_of x.leaves) m)) e.0
              ∙ ap quietly (sym (v i2 c t s ∙ ap W (u c t k s) ∙ ap (λ y. W (changed (resolved (cells_of x.learns)) y)) e.1))

pub within : (o : Option ℕ) (d d' : ℕ) → d ≤ d' → IfSome o (λ a. (256 ≤ a) × (a + 2 ≤ d)) → IfSome o (λ a. (256 ≤ a) × (a + 2 ≤ d'))
within None d d' l h = h
within (Some a) d d' l h = (h.0, omega (arith, l, h.1))
