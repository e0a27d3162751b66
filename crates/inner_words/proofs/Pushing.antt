-- The ends of the words that push a cell of the dictionary.
use Rattle.std.proofs.Common.{◌≡◌, ℕ, ◌+◌, ◌-◌, ◌<◌, ◌≤◌, Bool, true, false, ◌&&◌, ◌||◌, eqb, List, [], ◌∷◌, length, get_or, drop, Ok, Err, Result, sym, refl, ap, ◌∙◌, arith}
use Rattle.std.proofs.lemmas.Bool.Decides.{nat_tests}
use Rattle.fault.specs.declared.Fault.{Fault}
use Rattle.fault.specs.declared.Reason.TheVariants.{StackUnderflow, BadToken}
use Rattle.fault.specs.Numbers.{fault_of}
use Rattle.store.specs.Meaning.{Meaning}
use Rattle.stacks.specs.Stack.{stack_of}
use Rattle.image.specs.Cells.{cell_at}
use Rattle.image.specs.Views.{low_of}
use Rattle.image.proofs.Laws.{cell_low}
use Rattle.definition.specs.declared.registers.Mark.{Mark}
use Rattle.definition.specs.declared.ranged.Registers.{Registers}
use Rattle.definition.specs.Machine.{Machine}
use Rattle.definition.specs.Asked.{Asked, refused, After, quietly}
use Rattle.definition.specs.Words.{Argument, perform, other_word}
use Rattle.definition.specs.Stacks.{has_cells, nth, replaced}
use Rattle.definition.specs.Flow.{in_dictionary}
use Rattle.steps.specs.Seats.{told_by, with_cell_depth}
use Rattle.steps.specs.Does.{seen, acts, Does, OnSpace}
use Rattle.steps.proofs.Exits.{refused_at, does_like, has_cells_lem, lacks_cells, has_room_lem, cells_view}
use Rattle.steps.specs.Inside.{inside}
use Rattle.steps.proofs.Dictionary.{inside_tells, inside_is}
use Rattle.inner_words.specs.declared.tokens.PushingWord.{PushingWord}
use Rattle.inner_words.specs.Tokens.{made_by_create, pushing_code, pushing_place}

module _ (r : Registers) (i c : List ℕ) (li : length i ≡ 65536) (lc : length c ≡ 128) where
  pushing_no : (w : PushingWord) (m : Machine) (a : ℕ) → in_dictionary a (pushing_place w + 2) m ≡ false → other_word (pushing_code w) a m ≡ refused BadToken m
  pushing_no PushingWord.Created m a h = rw h
  pushing_no PushingWord.Constant m a h = rw h

  pushing_yes : (w : PushingWord) (m : Machine) (a : ℕ) → in_dictionary a (pushing_place w + 2) m ≡ true → other_word (pushing_code w) a m ≡ replaced 0 (cell_at m.low (a + pushing_place w) ∷ []) m
  pushing_yes PushingWord.Created m a h = rw h
  pushing_yes PushingWord.Constant m a h = rw h

  abbrev Leaves : Registers → List ℕ → ℕ → Result (Unit {0}) Fault → Type 0
  Leaves r' c' x o = (i t : List ℕ) (k : List Mark) (s : Meaning) → Does (replaced 0 (x ∷ [])) (seen r i c t k s) o (seen r' i c' t k s)

  pub pushing_bad : (w : PushingWord) (a : ℕ) (e : Fault) → inside a (pushing_place w + 2) r.shared.ends.dp ≡ false → e ≡ fault_of BadToken (told_by r.seat) → (t : List ℕ) (k : List Mark) (s : Meaning) → Does (other_word (pushing_code w) a) (seen r i c t k s) (Err e) (seen r i c t k s)
  pushing_bad w a e h p t k s = refused_at (other_word (pushing_code w) a) (seen r i c t k s) e BadToken (pushing_no w (seen r i c t k s) a (inside_is r i li c t k s a (pushing_place w + 2) false h)) p

  pub pushing_done : (w : PushingWord) (r' : Registers) (c' : List ℕ) (a x : ℕ) (o : Result (Unit {0}) Fault) → inside a (pushing_place w + 2) r.shared.ends.dp ≡ true → x ≡ cell_at i (a + pushing_place w) → Leaves r' c' x o → (t : List ℕ) (k : List Mark) (s : Meaning) → Does (other_word (pushing_code w) a) (seen r i c t k s) o (seen r' i c' t k s)
  pushing_done w r' c' a x o h p g t k s =
      let place = pushing_place w in
      let b = inside_tells a (place + 2) r.shared.ends.dp h in
      let e : cell_at (low_of r.shared.ends.dp i) (a + place) ≡ x = cell_low r.shared.ends.dp i (a + place) (omega (arith, b.0)) (omega (arith, b.1)) ∙ sym p in
      does_like (other_word (pushing_code w) a) (replaced 0 (x ∷ [])) (seen r i c t k s) (seen r' i c' t k s) o (pushing_yes w (seen r i c t k s) a (inside_is r i li c t k s a (place + 2) true h) ∙ ap (λ y. replaced 0 (y ∷ []) (seen r i c t k s)) e) (g i t k s)

  -- >BODY
  abbrev token : ℕ
  token = get_or (stack_of r.seat.depths.cells c) 0 0

  body_short_at : (again : ℕ → Machine → Asked After) (a : Argument) (m : Machine) → has_cells 1 m ≡ false → acts 61 again a m ≡ refused StackUnderflow m
  unfolding perform
  body_short_at again a m h = rw h

  body_no : (again : ℕ → Machine → Asked After) (a : Argument) (m : Machine) → has_cells 1 m ≡ true → (in_dictionary (nth 0 m) 4 m && (eqb (cell_at m.low (nth 0 m)) 202 || eqb (cell_at m.low (nth 0 m)) 205)) ≡ false → acts 61 again a m ≡ refused BadToken m
  unfolding perform
  body_no again a m h k = rw (h, k)

  body_yes : (again : ℕ → Machine → Asked After) (a : Argument) (m : Machine) → has_cells 1 m ≡ true → (in_dictionary (nth 0 m) 4 m && (eqb (cell_at m.low (nth 0 m)) 202 || eqb (cell_at m.low (nth 0 m)) 205)) ≡ true → acts 61 again a m ≡ replaced 1 (cell_at m.low (nth 0 m + 2) ∷ []) m
  unfolding perform
  body_yes again a m h k = rw (h, k)

  made_is : (t : List ℕ) (k : List Mark) (s : Meaning) (b : Bool) → made_by_create (low_of r.shared.ends.dp i) r.shared.ends.dp token ≡ b → (in_dictionary token 4 (seen r i c t k s) && (eqb (cell_at (low_of r.shared.ends.dp i) token) 202 || eqb (cell_at (low_of r.shared.ends.dp i) token) 205)) ≡ b
  made_is t k s b p = ap (λ y. y && (eqb (cell_at (low_of r.shared.ends.dp i) token) 202 || eqb (cell_at (low_of r.shared.ends.dp i) token) 205)) (inside_is r i li c t k s token 4 (inside token 4 r.shared.ends.dp) refl) ∙ p

  pub body_short : (e : Fault) → r.seat.depths.cells < 1 → e ≡ fault_of StackUnderflow (told_by r.seat) → OnSpace 61 r i c (Err e) r i c
  body_short e h p = λ again a t k s. refused_at (acts 61 again a) (seen r i c t k s) e StackUnderflow (body_short_at again a (seen r i c t k s) (lacks_cells r i c t k s lc 1 h)) p

  pub body_bad : (x : ℕ) (e : Fault) → 1 ≤ r.seat.depths.cells → x ≡ token → made_by_create (low_of r.shared.ends.dp i) r.shared.ends.dp x ≡ false → e ≡ fault_of BadToken (told_by r.seat) → OnSpace 61 r i c (Err e) r i c
  body_bad x e h q g p = λ again a t k s. refused_at (acts 61 again a) (seen r i c t k s) e BadToken (body_no again a (seen r i c t k s) (has_cells_lem r i c t k s lc 1 h) (made_is t k s false (ap (made_by_create (low_of r.shared.ends.dp i) r.shared.ends.dp) (sym q) ∙ g))) p

  made_inside : (low : List ℕ) (dp x : ℕ) → made_by_create low dp x ≡ true → inside x 4 dp ≡ true
  made_inside low dp x p = grind (arith, nat_tests)

  pub body_done : (r' : Registers) (c' : List ℕ) (x y : ℕ) → 1 ≤ r.seat.depths.cells → x ≡ token → made_by_create (low_of r.shared.ends.dp i) r.shared.ends.dp x ≡ true → y ≡ cell_at i (x + 2) → r'.shared ≡ r.shared → r'.seat ≡ with_cell_depth (r.seat.depths.cells - 1 + 1) r.seat → stack_of (r.seat.depths.cells - 1 + 1) c' ≡ y ∷ drop 1 (stack_of r.seat.depths.cells c) → OnSpace 61 r i c (Ok tt) r' i c'
  body_done r' c' x y h q g v u w e = λ again a t k s.
      let m = seen r i c t k s in
      let g' : made_by_create (low_of r.shared.ends.dp i) r.shared.ends.dp token ≡ true = ap (made_by_create (low_of r.shared.ends.dp i) r.shared.ends.dp) (sym q) ∙ g in
      let b = inside_tells token 4 r.shared.ends.dp (made_inside (low_of r.shared.ends.dp i) r.shared.ends.dp token g') in
      let f : cell_at (low_of r.shared.ends.dp i) (token + 2) ≡ y = cell_low r.shared.ends.dp i (token + 2) (omega (arith, b.0)) (omega (arith, b.1)) ∙ ap (λ z. cell_at i (z + 2)) (sym q) ∙ sym v in
      body_yes again a m (has_cells_lem r i c t k s lc 1 h) (made_is t k s true g') ∙ ap (λ z. replaced 1 (z ∷ []) m) f
      ∙ rw (has_room_lem r i c t k s lc 1 1 h (omega (arith, r.cells))) (ap quietly (sym (cells_view r r' i c c' t k s _ _ u w e)))
