-- The ends of the words that append.
use Rattle.std.proofs.Common.{◌≡◌, ℕ, ◌+◌, ◌-◌, ◌<◌, ◌≤◌, Bool, true, false, leb, List, [], length, get_or, drop, Ok, Err, Result, sym, refl, ap, ◌∙◌, subst, arith}
use Rattle.std.proofs.lemmas.Bool.{leb-true, leb-false, le-leb, lt-leb}
use Rattle.fault.specs.declared.Fault.{Fault}
use Rattle.fault.specs.declared.Reason.TheVariants.{StackUnderflow, DictionaryFull, BadToken}
use Rattle.fault.specs.Numbers.{fault_of}
use Rattle.store.specs.Meaning.{Meaning}
use Rattle.stacks.specs.Stack.{stack_of}
use Rattle.image.specs.Cells.{cell, cell_at}
use Rattle.image.specs.Views.{low_of}
use Rattle.image.proofs.Laws.{cell_low}
use Rattle.dictionary.specs.Dict.{appended}
use Rattle.definition.specs.declared.registers.Mark.{Mark}
use Rattle.definition.specs.declared.ranged.Registers.{Registers}
use Rattle.definition.specs.Machine.{Machine, with_ip, changed}
use Rattle.definition.specs.Asked.{Asked, refused, ask, ◌>>◌, After, quietly}
use Rattle.definition.specs.Define.{fits}
use Rattle.definition.specs.Compile.{appends, literal_of, token}
use Rattle.definition.specs.Flow.{has_inline, inline, past}
use Rattle.definition.specs.Stacks.{has_cells, nth, popped}
use Rattle.definition.specs.Words.{Argument, perform}
use Rattle.steps.specs.Inside.{inside}
use Rattle.steps.specs.Seats.{told_by, with_cell_depth, with_pointer}
use Rattle.steps.specs.Does.{seen, acts, IsRefused}
use Rattle.steps.proofs.Exits.{refused_at, does_like, has_cells_lem, lacks_cells, cells_view, pointer_view}
use Rattle.steps.proofs.Dictionary.{low_long, inside_tells, inside_is}
use Rattle.steps.specs.Spaces.{in_space, InSpace}
use Rattle.steps.proofs.Answered.{spaced, full_like}
use Rattle.compiling_words.specs.Acting.{OnState}

-- DOES>
does_acts : (again : ℕ → Machine → Asked After) (a : Argument) (m : Machine) → acts 79 again a m ≡ appends (token 104) m
unfolding perform
does_acts again a m = refl

pub does_ends : (r r' : Registers) (i i' bs : List ℕ) (o : Result (Unit {0}) Fault) → bs ≡ token 104 → InSpace (length bs) (appended bs) r i o r' i' → (c t : List ℕ) → OnState 79 r i c t o r' i'
does_ends r r' i i' bs o p f = λ c t again a k s l.
    let m = seen r i c t k s in
    does_like (acts 79 again a) (in_space (length bs) (appended bs)) m (seen r' i' c t k s) o (does_acts again a m ∙ ap (λ y. appends y m) (sym p)) (f c t k s)

-- LITERAL
literal_acts : (again : ℕ → Machine → Asked After) (a : Argument) (m : Machine) → acts 75 again a m ≡ (ask m StackUnderflow (has_cells 1 m) >> appends (literal_of (nth 0 m)) (popped 1 m))
unfolding perform
literal_acts again a m = refl

module _ (r : Registers) (i c : List ℕ) (lc : length c ≡ 128) where
  abbrev top : ℕ
  top = get_or (stack_of r.seat.depths.cells c) 0 0

  pub literal_short : (e : Fault) → r.seat.depths.cells < 1 → e ≡ fault_of StackUnderflow (told_by r.seat) → (t : List ℕ) → OnState 75 r i c t (Err e) r i
  literal_short e h p t = λ again a k s l.
      let m = seen r i c t k s in
      refused_at (acts 75 again a) m e StackUnderflow (literal_acts again a m ∙ ap (λ b. ask m StackUnderflow b >> appends (literal_of (nth 0 m)) (popped 1 m)) (lacks_cells r i c t k s lc 1 h)) p

  module _ (h : 1 ≤ r.seat.depths.cells) (x : ℕ) (q : x ≡ top) (bs : List ℕ) (p : bs ≡ literal_of x) where
    literal_is : (again : ℕ → Machine → Asked After) (a : Argument) (t : List ℕ) (k : List Mark) (s : Meaning) → acts 75 again a (seen r i c t k s) ≡ appends bs (popped 1 (seen r i c t k s))
    literal_is again a t k s =
        let m = seen r i c t k s in
        literal_acts again a m ∙ ap (λ b. ask m StackUnderflow b >> appends (literal_of (nth 0 m)) (popped 1 m)) (has_cells_lem r i c t k s lc 1 h)
        ∙ ap (λ y. appends y (popped 1 m)) (ap literal_of (sym q) ∙ sym p)

    pub literal_full : (r1 : Registers) (i1 : List ℕ) (e : Fault) → InSpace (length bs) (appended bs) r i (Err e) r1 i1 → (t : List ℕ) → OnState 75 r i c t (Err e) r1 i1
    literal_full r1 i1 e f t = λ again a k s l.
        let m = seen r i c t k s in
        let d = f c t k s in
        (subst (λ (y : Asked After). IsRefused y e m) (sym (literal_is again a t k s)) (full_like (fits (length bs) m) m _ (popped 1 m) _ e refl refl d.0), d.1)

    pub literal_done : (r1 r2 : Registers) (i1 : List ℕ) → InSpace (length bs) (appended bs) r i (Ok tt) r1 i1 → r1.seat.depths ≡ r.seat.depths → r2.shared ≡ r1.shared → r2.seat ≡ with_cell_depth (r1.seat.depths.cells - 1) r1.seat → stack_of (r1.seat.depths.cells - 1) c ≡ drop 1 (stack_of r1.seat.depths.cells c) → (t : List ℕ) → OnState 75 r i c t (Ok tt) r2 i1
    literal_done r1 r2 i1 f d u v w t = λ again a k s l.
        let m = seen r i c t k s in
        let e = spaced (fits (length bs) m) m (changed (appended bs) m) (seen r1 i1 c t k s) (f c t k s) in
        literal_is again a t k s
        ∙ ap (λ b. ask (popped 1 m) DictionaryFull b >> quietly (changed (appended bs) (popped 1 m))) e.0
        ∙ ap quietly (sym (cells_view r1 r2 i1 c c t k s _ _ u v w ∙ ap (popped 1) e.1))

-- COMPILE
pub two : (x : ℕ) → length (cell x) ≡ 2
unfolding cell
two x = refl

next_acts : (again : ℕ → Machine → Asked After) (a : Argument) (m : Machine) → acts 78 again a m ≡ (ask m DictionaryFull (fits 2 m) >> (ask m BadToken (has_inline m) >> quietly (changed (appended (cell (inline m))) (past m))))
unfolding perform
next_acts again a m = refl

next_full : (again : ℕ → Machine → Asked After) (a : Argument) (m : Machine) → fits 2 m ≡ false → acts 78 again a m ≡ refused DictionaryFull m
next_full again a m h = next_acts again a m ∙ ap (λ b. ask m DictionaryFull b >> (ask m BadToken (has_inline m) >> quietly (changed (appended (cell (inline m))) (past m)))) h

next_far : (again : ℕ → Machine → Asked After) (a : Argument) (m : Machine) → fits 2 m ≡ true → has_inline m ≡ false → acts 78 again a m ≡ refused BadToken m
next_far again a m h g =
    next_acts again a m ∙ ap (λ b. ask m DictionaryFull b >> (ask m BadToken (has_inline m) >> quietly (changed (appended (cell (inline m))) (past m)))) h
    ∙ ap (λ b. ask m BadToken b >> quietly (changed (appended (cell (inline m))) (past m))) g

next_goes : (again : ℕ → Machine → Asked After) (a : Argument) (m : Machine) → fits 2 m ≡ true → has_inline m ≡ true → acts 78 again a m ≡ quietly (changed (appended (cell (inline m))) (past m))
next_goes again a m h g =
    next_acts again a m ∙ ap (λ b. ask m DictionaryFull b >> (ask m BadToken (has_inline m) >> quietly (changed (appended (cell (inline m))) (past m)))) h
    ∙ ap (λ b. ask m BadToken b >> quietly (changed (appended (cell (inline m))) (past m))) g

module _ (r : Registers) (i : List ℕ) (li : length i ≡ 65536) where
  fits_is : (b : Bool) → leb r.shared.ends.dp 32766 ≡ b → (c t : List ℕ) (k : List Mark) (s : Meaning) → fits 2 (seen r i c t k s) ≡ b
  fits_is true h c t k s = le-leb _ 32768 (omega (arith, low_long r i li, leb-true r.shared.ends.dp 32766 h))
  fits_is false h c t k s = lt-leb _ 32768 (omega (arith, low_long r i li, leb-false r.shared.ends.dp 32766 h))

  pub compile_full : (e : Fault) → leb r.shared.ends.dp 32766 ≡ false → e ≡ fault_of DictionaryFull (told_by r.seat) → (c t : List ℕ) → OnState 78 r i c t (Err e) r i
  compile_full e h p c t = λ again a k s l. refused_at (acts 78 again a) (seen r i c t k s) e DictionaryFull (next_full again a (seen r i c t k s) (fits_is false h c t k s)) p

  module _ (h : leb r.shared.ends.dp 32766 ≡ true) where
    pub compile_far : (e : Fault) → inside r.seat.flow.ip 2 r.shared.ends.dp ≡ false → e ≡ fault_of BadToken (told_by r.seat) → (c t : List ℕ) → OnState 78 r i c t (Err e) r i
    compile_far e g p c t = λ again a k s l. refused_at (acts 78 again a) (seen r i c t k s) e BadToken (next_far again a (seen r i c t k s) (fits_is true h c t k s) (inside_is r i li c t k s r.seat.flow.ip 2 false g)) p

    -- there is space, so that it cannot be refused
    pub never_full : (bs : List ℕ) (r1 : Registers) (i1 : List ℕ) (e : Fault) → length bs ≡ 2 → InSpace (length bs) (appended bs) r i (Err e) r1 i1 → ⊥
    never_full bs r1 i1 e n f =
        let m = seen r i [] [] [] (record { count = 0; writable = false; blocks = [] }) in
        let d = (f [] [] [] (record { count = 0; writable = false; blocks = [] })).0 in
        subst (λ b. IsRefused (ask m DictionaryFull b >> quietly (changed (appended bs) m)) e m) (ap (λ y. fits y m) n ∙ fits_is true h [] [] [] (record { count = 0; writable = false; blocks = [] })) d

    pub compile_done : (x : ℕ) (bs : List ℕ) (r1 r2 : Registers) (i1 : List ℕ) → inside r.seat.flow.ip 2 r.shared.ends.dp ≡ true → x ≡ cell_at i r.seat.flow.ip → bs ≡ cell x → InSpace (length bs) (appended bs) r i (Ok tt) r1 i1
        → r2.shared ≡ r1.shared → r2.seat ≡ with_pointer (r.seat.flow.ip + 2) r1.seat → (c t : List ℕ) → OnState 78 r i c t (Ok tt) r2 i1
    compile_done x bs r1 r2 i1 g q p f u v c t = λ again a k s l.
        let m = seen r i c t k s in
        let n = inside_tells r.seat.flow.ip 2 r.shared.ends.dp g in
        let y : cell_at (low_of r.shared.ends.dp i) r.seat.flow.ip ≡ x = cell_low r.shared.ends.dp i r.seat.flow.ip (omega (arith, n.0)) (omega (arith, n.1)) ∙ sym q in
        let e = spaced (fits (length bs) m) m (changed (appended bs) m) (seen r1 i1 c t k s) (f c t k s) in
        next_goes again a m (fits_is true h c t k s) (inside_is r i li c t k s r.seat.flow.ip 2 true g)
        ∙ ap (λ z. quietly (changed (appended (cell z)) (past m))) y
        ∙ ap (λ z. quietly (changed (appended z) (past m))) (sym p)
        ∙ ap quietly (sym (pointer_view r1 r2 i1 c t k s (r.seat.flow.ip + 2) u v ∙ ap (with_ip (r.seat.flow.ip + 2)) e.1))
