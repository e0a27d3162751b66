-- The end of each word, from what its questions and moves ensure.
use Rattle.std.proofs.Common.{◌≡◌, ℕ, ◌+◌, ◌-◌, ◌<◌, ◌≤◌, true, false, ◌⊎◌, eqb, List, [], ◌∷◌, length, get_or, drop, Some, None, Ok, Err, Result, inl, inr, sym, refl, ap, ◌∙◌, arith}
use Rattle.std.proofs.lemmas.Bool.Decides.{nat_tests}
use Rattle.fault.specs.declared.Fault.{Fault}
use Rattle.fault.specs.declared.Reason.TheVariants.{StackUnderflow, BadQuotient}
use Rattle.fault.specs.Numbers.{fault_of}
use Rattle.store.specs.Meaning.{Meaning}
use Rattle.image.specs.Views.{high_of}
use Rattle.image.proofs.Laws.{length_high}
use Rattle.numbers.specs.Division.{Divided, signed, product, floored, answered}
use Rattle.stacks.specs.Stack.{stack_of, rolled}
use Rattle.definition.specs.declared.registers.Mark.{Mark}
use Rattle.definition.specs.declared.registers.Seat.{Seat}
use Rattle.definition.specs.declared.ranged.Registers.{Registers}
use Rattle.definition.specs.Machine.{Machine}
use Rattle.definition.specs.Asked.{Asked, refused, After, quietly}
use Rattle.definition.specs.Kernel
use Rattle.definition.specs.Kernel.{CellsWord}
use Rattle.definition.specs.Stacks.{do_cells, has_cells, nth, replaced}
use Rattle.steps.specs.Seats.{told_by, with_cell_depth}
use Rattle.steps.specs.Does.{seen, acts, Does, OnCells}
use Rattle.steps.proofs.Exits.{refused_at, does_like, cells_view, depth_of, has_cells_lem, lacks_cells, has_room_lem}
use Rattle.data_words.specs.declared.words.LeavingWord.{LeavingWord}
use Rattle.data_words.specs.declared.words.UnaryWord.{UnaryWord}
use Rattle.data_words.specs.declared.words.BinaryWord.{BinaryWord}
use Rattle.data_words.specs.Numbers.{leaving_number, unary_number, binary_number}
use Rattle.data_words.specs.Moving.{copied, rolled_up, ReachesOver}
use Rattle.data_words.specs.Dividing.{Divides, quotient_of}
use Rattle.data_words.specs.Tables.{left_by, of_one, of_two}
use Rattle.data_words.proofs.Acting.{Acts, leaving_acts, unary_acts, binary_acts, drop-acts, question_dup_acts, pick_acts, roll_acts, slash_mod_acts, times_slash_acts, drop_word, question_dup_word}
use Rattle.data_words.proofs.Moves.{one_done, two_done, replaced_done, takes_of, pick_done, roll_done, unfit, divided, unfit_scaled, scaled, none_fits, some_fits, question_dup_leaves, question_dup_stays}
use Rattle.data_words.proofs.Ends.{cells_refused, cells_short, cells_done, cells_replaced, cells_left}

-- the depth, and the k-th cell from the top
abbrev deep : Registers → ℕ
deep r = r.seat.depths.cells

abbrev top : Registers → List ℕ → ℕ → ℕ
top r c k = get_or (stack_of (deep r) c) k 0

-- what `leave` and `replace` ensure
abbrev Leaves : Registers → List ℕ → ℕ → Result (Unit {0}) Fault → Registers → List ℕ → Type 0
Leaves r c x o r' c' = (i t : List ℕ) (k : List Mark) (s : Meaning) → Does (replaced 0 (x ∷ [])) (seen r i c t k s) o (seen r' i c' t k s)

-- the registers but for the depth are kept, and the cells are xs
pub record Left (r : Registers) (r' : Registers) (c' : List ℕ) (d : ℕ) (xs : List ℕ) : Type 0 where
  pub shared : r'.shared ≡ r.shared
  pub seat : r'.seat ≡ with_cell_depth d r.seat
  pub stack : stack_of d c' ≡ xs

abbrev Replaced : Registers → List ℕ → ℕ → ℕ → Registers → List ℕ → Type 0
Replaced r c p x r' c' = Left r r' c' (deep r - p + 1) (x ∷ drop p (stack_of (deep r) c))

module _ (r r' : Registers) (c c' : List ℕ) (l : length c ≡ 128) where
  pub unary_done : (w : UnaryWord) (a x : ℕ) → 1 ≤ deep r → a ≡ top r c 0 → x ≡ of_one w a → Replaced r c 1 x r' c' → OnCells (unary_number w) r c (Ok tt) r' c'
  unary_done w a x h p q e =
      cells_replaced (unary_number w) (Kernel.one (λ y. of_one w y ∷ [])) (unary_acts w) r r' c c' 1 x l (omega arith) h
      (λ i t k s. one_done (λ y. of_one w y ∷ []) (seen r i c t k s) (has_cells_lem r i c t k s l 1 h) ∙ ap (λ y. replaced 1 (y ∷ []) (seen r i c t k s)) (sym (q ∙ ap (of_one w) p)))
      e.shared e.seat e.stack

  pub binary_done : (w : BinaryWord) (a b x : ℕ) → 2 ≤ deep r → a ≡ top r c 1 → b ≡ top r c 0 → x ≡ of_two w a b → Replaced r c 2 x r' c' → OnCells (binary_number w) r c (Ok tt) r' c'
  binary_done w a b x h p q u e =
      cells_replaced (binary_number w) (Kernel.two (λ y z. of_two w y z ∷ [])) (binary_acts w) r r' c c' 2 x l (omega arith) h
      (λ i t k s. two_done (λ y z. of_two w y z ∷ []) (seen r i c t k s) (has_cells_lem r i c t k s l 2 h) ∙ ap (λ y. replaced 2 (y ∷ []) (seen r i c t k s)) (sym (u ∙ ap (λ y. of_two w y b) p ∙ ap (of_two w (top r c 1)) q)))
      e.shared e.seat e.stack

  left_same : (w : LeavingWord) (d h d' h' : ℕ) → d ≡ d' → h ≡ h' → left_by w d h ≡ left_by w d' h'
  left_same w d h d' h' p q = ap (λ y. left_by w y h) p ∙ ap (left_by w d') q

  pub leaving_done : (w : LeavingWord) (x : ℕ) (o : Result (Unit {0}) Fault) → x ≡ left_by w (deep r) r.shared.ends.here → Leaves r c x o r' c' → OnCells (leaving_number w) r c o r' c'
  leaving_done w x o p g =
      cells_left (leaving_number w) (Kernel.leaves (λ m. left_by w (length m.stacks.cells) (32768 + length m.high))) (leaving_acts w) r r' c c' x o
      (λ i t k s b.
      let e : length (high_of r.shared.ends.here i) ≡ r.shared.ends.here - 32768 = length_high r.shared.ends.here i (omega (arith, r.limit)) in
      let h : 32768 + length (high_of r.shared.ends.here i) ≡ r.shared.ends.here = omega (arith, r.space) in
      ap (λ y. replaced 0 (y ∷ []) (seen r i c t k s)) (left_same w _ _ _ _ (depth_of r i c t k s l) h ∙ sym p))
      g

  -- DUP and OVER copy the k-th cell
  pub copy_done : (k x : ℕ) (o : Result (Unit {0}) Fault) → k + 1 ≤ deep r → x ≡ top r c k → Leaves r c x o r' c' → (i t : List ℕ) (n : List Mark) (s : Meaning) → Does (copied k) (seen r i c t n s) o (seen r' i c' t n s)
  copy_done k x o h p g i t n s =
      does_like (copied k) (replaced 0 (x ∷ [])) (seen r i c t n s) (seen r' i c' t n s) o
      (rw (has_cells_lem r i c t n s l (k + 1) h) (ap (λ y. replaced 0 (y ∷ []) (seen r i c t n s)) (sym p))) (g i t n s)

  pub question_dup_done : (x : ℕ) (o : Result (Unit {0}) Fault) → 1 ≤ deep r → x ≡ top r c 0 → (x ≡ 0 → ⊥) → Leaves r c x o r' c' → OnCells 6 r c o r' c'
  question_dup_done x o h p n g =
      let z : eqb (top r c 0) 0 ≡ false = grind (arith, nat_tests) in
      cells_left 6 question_dup_word question_dup_acts r r' c c' x o
      (λ i t k s b. let d = depth_of r i c t k s l in question_dup_leaves (seen r i c t k s) (has_cells_lem r i c t k s l 1 h) (omega arith) z ∙ ap (λ y. replaced 0 (y ∷ []) (seen r i c t k s)) (sym p))
      g

  pub drop_done : 1 ≤ deep r → Left r r' c' (deep r - 1) (drop 1 (stack_of (deep r) c)) → OnCells 2 r c (Ok tt) r' c'
  drop_done h e =
      cells_done 2 drop_word drop-acts r r' c c' _ _
      (λ i t k s. one_done (λ a. []) (seen r i c t k s) (has_cells_lem r i c t k s l 1 h) ∙ replaced_done 1 [] (seen r i c t k s) (has_room_lem r i c t k s l 0 1 h (omega (arith, r.cells))))
      e.shared e.seat e.stack

  pub pick_found : (a x : ℕ) → 1 ≤ deep r → a ≡ top r c 0 → a + 2 ≤ deep r → x ≡ top r c (a + 1) → Replaced r c 1 x r' c' → OnCells 8 r c (Ok tt) r' c'
  pick_found a x h p b q e =
      cells_replaced 8 Kernel.pick pick_acts r r' c c' 1 x l (omega arith) h
      (λ i t k s. pick_done (seen r i c t k s) (has_cells_lem r i c t k s l 1 h) (has_cells_lem r i c t k s l (top r c 0 + 2) (omega arith)) ∙ ap (λ y. replaced 1 (y ∷ []) (seen r i c t k s)) (sym (q ∙ ap (λ y. top r c (y + 1)) p)))
      e.shared e.seat e.stack

  pub roll_found : (a d : ℕ) → d ≡ deep r' → 1 ≤ deep r → a ≡ top r c 0 → a + 2 ≤ deep r → r'.shared ≡ r.shared → r'.seat ≡ with_cell_depth (deep r - 1) r.seat → stack_of (deep r - 1) c ≡ drop 1 (stack_of (deep r) c) → stack_of d c' ≡ rolled a (stack_of d c) 0 → OnCells 9 r c (Ok tt) r' c'
  roll_found a d q h p b u v e f =
      let n : d ≡ deep r - 1 = q ∙ ap (λ (y : Seat). y.depths.cells) v in
      let g : stack_of (deep r - 1) c' ≡ rolled a (stack_of (deep r - 1) c) 0 = rw n at f in
      cells_done 9 Kernel.roll roll_acts r r' c c' _ _
      (λ i t k s. roll_done (seen r i c t k s) (has_cells_lem r i c t k s l 1 h) (has_cells_lem r i c t k s l (top r c 0 + 2) (omega arith)))
      u v (g ∙ ap (λ y. rolled y (stack_of (deep r - 1) c) 0) p ∙ ap (λ y. rolled (top r c 0) y 0) e)

  -- / and MOD
  pub divided_done : (n : ℕ) (f : Divided → ℕ) → Acts n (Kernel.divide (λ d. f d ∷ [])) → (x : ℕ) (p : ℕ × ℕ) → Divides r c (Ok p) → x ≡ f (quotient_of r c) → Replaced r c 2 x r' c' → OnCells n r c (Ok tt) r' c'
  divided_done n f z x p g y e =
      cells_replaced n (Kernel.divide (λ d. f d ∷ [])) z r r' c c' 2 x l (omega arith) g.0
      (λ i t k s. divided (seen r i c t k s) (λ d. f d ∷ []) (has_cells_lem r i c t k s l 2 g.0) (some_fits (quotient_of r c) p g.1).0 ∙ ap (λ q. replaced 2 (q ∷ []) (seen r i c t k s)) (sym y))
      e.shared e.seat e.stack

module _ (r : Registers) (c : List ℕ) (l : length c ≡ 128) where
  pub copy_short : (k : ℕ) (e : Fault) → deep r < k + 1 → e ≡ fault_of StackUnderflow (told_by r.seat) → (i t : List ℕ) (n : List Mark) (s : Meaning) → Does (copied k) (seen r i c t n s) (Err e) (seen r i c t n s)
  copy_short k e h p i t n s = refused_at (copied k) (seen r i c t n s) e StackUnderflow (rw (lacks_cells r i c t n s l (k + 1) h)) p

  -- PICK and ROLL that find too few cells
  pub reached_not : (n : ℕ) (w : CellsWord) → Acts n w → takes_of w ≡ 1 → ((m : Machine) → has_cells 1 m ≡ true → has_cells (nth 0 m + 2) m ≡ false → do_cells w m ≡ refused StackUnderflow m) → (e : Fault) → ReachesOver r c (Err e) → OnCells n r c (Err e) r c
  reached_not n w z v deep_no e p = at p.0
    where
      at : (deep r < 1) ⊎ ((1 ≤ deep r) × (deep r < top r c 0 + 2)) → OnCells n r c (Err e) r c
      at (inl h) = cells_short n w z r c e l (omega arith) (omega arith) p.1
      at (inr h) = cells_refused n w z r c e StackUnderflow (λ i t k s. deep_no (seen r i c t k s) (has_cells_lem r i c t k s l 1 h.0) (lacks_cells r i c t k s l (top r c 0 + 2) h.1)) p.1

  -- SWAP and ROT roll the k-th cell up
  pub roll_short : (k : ℕ) (e : Fault) → deep r < k + 1 → e ≡ fault_of StackUnderflow (told_by r.seat) → (i t : List ℕ) (n : List Mark) (s : Meaning) → Does (rolled_up k) (seen r i c t n s) (Err e) (seen r i c t n s)
  roll_short k e h p i t n s = refused_at (rolled_up k) (seen r i c t n s) e StackUnderflow (rw (lacks_cells r i c t n s l (k + 1) h)) p

  pub roll_cell_done : (c' : List ℕ) (k d : ℕ) → d ≡ deep r → k + 1 ≤ deep r → stack_of d c' ≡ rolled k (stack_of d c) 0 → (i t : List ℕ) (n : List Mark) (s : Meaning) → Does (rolled_up k) (seen r i c t n s) (Ok tt) (seen r i c' t n s)
  roll_cell_done c' k d q h e i t n s =
      let e' : stack_of (deep r) c' ≡ rolled k (stack_of (deep r) c) 0 = rw q at e in
      rw (has_cells_lem r i c t n s l (k + 1) h) (ap quietly (sym (cells_view r r i c c' t n s (deep r) _ refl refl e')))

  -- a word of the table that does f on every stack of at most 128 cells
  pub on_cells : (n : ℕ) (w : CellsWord) → Acts n w → (f : Machine → Asked After) → ((m : Machine) → length m.stacks.cells ≤ 128 → do_cells w m ≡ f m) → (r' : Registers) (c' : List ℕ) (o : Result (Unit {0}) Fault) → ((i t : List ℕ) (k : List Mark) (s : Meaning) → Does f (seen r i c t k s) o (seen r' i c' t k s)) → OnCells n r c o r' c'
  on_cells n w q f h r' c' o g = λ again a i t k s b.
      let d = depth_of r i c t k s l in
      does_like (acts n again a) f (seen r i c t k s) (seen r' i c' t k s) o (q again a (seen r i c t k s) ∙ h (seen r i c t k s) (omega (arith, r.cells))) (g i t k s)

  pub question_dup_of_zero : (x : ℕ) → 1 ≤ deep r → x ≡ top r c 0 → x ≡ 0 → OnCells 6 r c (Ok tt) r c
  question_dup_of_zero x h p n =
      let z : eqb (top r c 0) 0 ≡ true = grind (arith, nat_tests) in
      λ again a i t k s b.
      let d = depth_of r i c t k s l in
      question_dup_acts again a (seen r i c t k s) ∙ question_dup_stays (seen r i c t k s) (has_cells_lem r i c t k s l 1 h) (omega arith) (has_room_lem r i c t k s l 1 1 h (omega (arith, r.cells))) z

  pub divided_not : (n : ℕ) (f : Divided → List ℕ) → Acts n (Kernel.divide f) → (e : Fault) → Divides r c (Err e) → OnCells n r c (Err e) r c
  divided_not n f z e (inl p) = cells_short n (Kernel.divide f) z r c e l (omega arith) p.0 p.1
  divided_not n f z e (inr p) = cells_refused n (Kernel.divide f) z r c e BadQuotient (λ i t k s. unfit (seen r i c t k s) f (has_cells_lem r i c t k s l 2 p.0) (none_fits (quotient_of r c) p.1)) p.2

  pub scaled_not : (a b d : ℕ) (e : Fault) → 3 ≤ deep r → a ≡ top r c 2 → b ≡ top r c 1 → d ≡ top r c 0 → answered (floored (product a b) (signed d)) ≡ None → e ≡ fault_of BadQuotient (told_by r.seat) → OnCells 16 r c (Err e) r c
  scaled_not a b d e h u v w z q =
      let g = none_fits (floored (product a b) (signed d)) z in
      let k : floored (product (top r c 2) (top r c 1)) (signed (top r c 0)) ≡ floored (product a b) (signed d) = cc in
      cells_refused 16 Kernel.scale times_slash_acts r c e BadQuotient
      (λ i t k' s. unfit_scaled (seen r i c t k' s) (has_cells_lem r i c t k' s l 3 h) (ap (λ (y : Divided). y.fits) k ∙ g)) q

module _ (r r' r'' : Registers) (c c' c'' : List ℕ) (l : length c ≡ 128) where
  pub scaled_done : (a b d : ℕ) (p : ℕ × ℕ) → 3 ≤ deep r → a ≡ top r c 2 → b ≡ top r c 1 → d ≡ top r c 0 → answered (floored (product a b) (signed d)) ≡ Some p → Replaced r c 3 p.1 r' c' → OnCells 16 r c (Ok tt) r' c'
  scaled_done a b d p h u v w z e =
      let g = some_fits (floored (product a b) (signed d)) p z in
      let k : floored (product (top r c 2) (top r c 1)) (signed (top r c 0)) ≡ floored (product a b) (signed d) = cc in
      cells_replaced 16 Kernel.scale times_slash_acts r r' c c' 3 p.1 l (omega arith) h
      (λ i t k' s. scaled (seen r i c t k' s) (has_cells_lem r i c t k' s l 3 h) (ap (λ (y : Divided). y.fits) k ∙ g.0) ∙ ap (λ (y : Divided). replaced 3 (y.quotient ∷ []) (seen r i c t k' s)) k ∙ ap (λ y. replaced 3 (y ∷ []) (seen r i c t k' s)) (sym g.2))
      e.shared e.seat e.stack

  pub slash_mod_done : (p : ℕ × ℕ) → Divides r c (Ok p) → Replaced r c 2 p.0 r' c' → Left r' r'' c'' (deep r' + 1) (p.1 ∷ stack_of (deep r') c') → OnCells 15 r c (Ok tt) r'' c''
  slash_mod_done p v e z =
      let m = quotient_of r c in
      let g = some_fits m p v.1 in
      let n : deep r' ≡ deep r - 2 + 1 = ap (λ (y : Seat). y.depths.cells) e.seat in
      let x : stack_of (deep r') c' ≡ p.0 ∷ drop 2 (stack_of (deep r) c) = ap (λ y. stack_of y c') n ∙ e.stack in
      cells_done 15 (Kernel.divide (λ d. d.quotient ∷ d.remainder ∷ [])) slash_mod_acts r r'' c c'' (deep r' + 1) (m.quotient ∷ m.remainder ∷ drop 2 (stack_of (deep r) c))
      (λ i t k s. divided (seen r i c t k s) (λ d. d.quotient ∷ d.remainder ∷ []) (has_cells_lem r i c t k s l 2 v.0) g.0
      ∙ replaced_done 2 (m.quotient ∷ m.remainder ∷ []) (seen r i c t k s) (has_room_lem r i c t k s l 2 2 v.0 (omega (arith, r.cells))))
      (z.shared ∙ e.shared) (z.seat ∙ ap (with_cell_depth (deep r' + 1)) e.seat)
      (z.stack ∙ ap (λ ys. p.1 ∷ ys) x ∙ ap (λ y. y ∷ p.0 ∷ drop 2 (stack_of (deep r) c)) g.2 ∙ ap (λ y. m.quotient ∷ y ∷ drop 2 (stack_of (deep r) c)) g.1)
