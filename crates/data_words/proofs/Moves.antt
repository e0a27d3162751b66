-- How the definition comes to the end of each word, at a machine whose questions are answered.
use Rattle.std.proofs.Common.{◌≡◌, ℕ, ◌+◌, ◌<◌, ◌≤◌, Bool, true, false, eqb, leb, List, [], ◌∷◌, ◌++◌, length, get_or, drop, Some, None, Option, ◌⊎◌, inl, inr, sym, refl, ap, ◌∙◌, arith, length-drop}
use Rattle.std.proofs.lemmas.Bool.Decides.{leb_tells}
use Rattle.fault.specs.declared.Reason.TheVariants.{StackUnderflow, StackOverflow, BadQuotient}
use Rattle.numbers.specs.Division.{Divided, signed, product, floored, answered}
use Rattle.stacks.specs.Stack.{rolled}
use Rattle.definition.specs.Machine.{Machine, with_cells}
use Rattle.definition.specs.Asked.{refused, ask, ◌>>◌, quietly}
use Rattle.definition.specs.Kernel
use Rattle.definition.specs.Kernel.{CellsWord}
use Rattle.definition.specs.Stacks.{has_cells, has_room, popped, nth, replaced, do_cells}
use Rattle.steps.proofs.Exits.{yes}
use Rattle.data_words.specs.Moving.{copied, rolled_up}
use Rattle.data_words.proofs.Acting.{dup_word, swap_word, over_word, rot_word, question_dup_word}

-- how many cells a word takes
abbrev pub takes_of : CellsWord → ℕ
takes_of (Kernel.leaves f) = 0
takes_of (Kernel.one f) = 1
takes_of (Kernel.two f) = 2
takes_of (Kernel.three f) = 3
takes_of (Kernel.divide f) = 2
takes_of Kernel.scale = 3
takes_of Kernel.pick = 1
takes_of Kernel.roll = 1

-- too few cells
pub short : (w : CellsWord) (m : Machine) → 0 < takes_of w → has_cells (takes_of w) m ≡ false → do_cells w m ≡ refused StackUnderflow m
short (Kernel.leaves f) m b h = absurd (omega (arith, b))
short (Kernel.one f) m b h = rw h
short (Kernel.two f) m b h = rw h
short (Kernel.three f) m b h = rw h
short (Kernel.divide f) m b h = rw h
short Kernel.scale m b h = rw h
short Kernel.pick m b h = rw h
short Kernel.roll m b h = rw h

-- enough cells, and room for what is left
pub replaced_done : (n : ℕ) (xs : List ℕ) (m : Machine) → has_room (length xs) (popped n m) ≡ true → replaced n xs m ≡ quietly (with_cells (xs ++ drop n m.stacks.cells) m)
replaced_done n xs m h = rw h

pub one_done : (f : ℕ → List ℕ) (m : Machine) → has_cells 1 m ≡ true → do_cells (Kernel.one f) m ≡ replaced 1 (f (nth 0 m)) m
one_done f m h = rw h

pub two_done : (f : ℕ → ℕ → List ℕ) (m : Machine) → has_cells 2 m ≡ true → do_cells (Kernel.two f) m ≡ replaced 2 (f (nth 1 m) (nth 0 m)) m
two_done f m h = rw h

three_done : (f : ℕ → ℕ → ℕ → List ℕ) (m : Machine) → has_cells 3 m ≡ true → do_cells (Kernel.three f) m ≡ replaced 3 (f (nth 2 m) (nth 1 m) (nth 0 m)) m
three_done f m h = rw h

-- PICK and ROLL ask for the cells that they reach over
pub pick_deep : (m : Machine) → has_cells 1 m ≡ true → has_cells (nth 0 m + 2) m ≡ false → do_cells Kernel.pick m ≡ refused StackUnderflow m
pick_deep m h k = rw (h, k)

pub pick_done : (m : Machine) → has_cells 1 m ≡ true → has_cells (nth 0 m + 2) m ≡ true → do_cells Kernel.pick m ≡ replaced 1 (nth (nth 0 m + 1) m ∷ []) m
pick_done m h k = rw (h, k)

pub roll_deep : (m : Machine) → has_cells 1 m ≡ true → has_cells (nth 0 m + 2) m ≡ false → do_cells Kernel.roll m ≡ refused StackUnderflow m
roll_deep m h k = rw (h, k)

pub roll_done : (m : Machine) → has_cells 1 m ≡ true → has_cells (nth 0 m + 2) m ≡ true → do_cells Kernel.roll m ≡ quietly (with_cells (rolled (nth 0 m) (drop 1 m.stacks.cells) 0) m)
roll_done m h k = rw (h, k)

-- a division
pub unfit : (m : Machine) (f : Divided → List ℕ) → has_cells 2 m ≡ true → (floored (signed (nth 1 m)) (signed (nth 0 m))).fits ≡ false → do_cells (Kernel.divide f) m ≡ refused BadQuotient m
unfit m f h k = rw (h, k)

pub divided : (m : Machine) (f : Divided → List ℕ) → has_cells 2 m ≡ true → (floored (signed (nth 1 m)) (signed (nth 0 m))).fits ≡ true → do_cells (Kernel.divide f) m ≡ replaced 2 (f (floored (signed (nth 1 m)) (signed (nth 0 m)))) m
divided m f h k = rw (h, k)

pub unfit_scaled : (m : Machine) → has_cells 3 m ≡ true → (floored (product (nth 2 m) (nth 1 m)) (signed (nth 0 m))).fits ≡ false → do_cells Kernel.scale m ≡ refused BadQuotient m
unfit_scaled m h k = rw (h, k)

pub scaled : (m : Machine) → has_cells 3 m ≡ true → (floored (product (nth 2 m) (nth 1 m)) (signed (nth 0 m))).fits ≡ true → do_cells Kernel.scale m ≡ replaced 3 ((floored (product (nth 2 m) (nth 1 m)) (signed (nth 0 m))).quotient ∷ []) m
scaled m h k = rw (h, k)

-- what an answer tells of the division
pub none_fits : (d : Divided) → answered d ≡ None → d.fits ≡ false
none_fits d h = at d.fits refl
  where
    at : (b : Bool) → d.fits ≡ b → d.fits ≡ false
    at true p = let z : ◌≡◌ {A = Option (ℕ × ℕ)} (Some (d.remainder, d.quotient)) None = rw p at h in let y : ◌≡◌ {A = ℕ} 0 1 = cc in absurd (omega arith)
    at false p = p

pub some_fits : (d : Divided) (p : ℕ × ℕ) → answered d ≡ Some p → (d.fits ≡ true) × (p.0 ≡ d.remainder) × (p.1 ≡ d.quotient)
some_fits d p h = at d.fits refl
  where
    at : (b : Bool) → d.fits ≡ b → (d.fits ≡ true) × (p.0 ≡ d.remainder) × (p.1 ≡ d.quotient)
    at true q =
        let z : ◌≡◌ {A = Option (ℕ × ℕ)} (Some (d.remainder, d.quotient)) (Some p) = rw q at h in
        let e : ◌≡◌ {A = ℕ × ℕ} (d.remainder, d.quotient) p = cc in
        (q, ap (λ (x : ℕ × ℕ). x.0) (sym e), ap (λ (x : ℕ × ℕ). x.1) (sym e))
    at false q = let z : ◌≡◌ {A = Option (ℕ × ℕ)} None (Some p) = rw q at h in let y : ◌≡◌ {A = ℕ} 0 1 = cc in absurd (omega arith)

-- replacing n cells is like leaving one more
same_room : (n : ℕ) (xs ys : List ℕ) (m : Machine) → length xs + length (drop n m.stacks.cells) ≡ length ys + length (drop 0 m.stacks.cells) → xs ++ drop n m.stacks.cells ≡ ys ++ drop 0 m.stacks.cells → replaced n xs m ≡ replaced 0 ys m
same_room n xs ys m p q =
    ap (λ d. ask m StackOverflow (leb d 128) >> quietly (with_cells (xs ++ drop n m.stacks.cells) m)) p
    ∙ ap (λ zs. ask m StackOverflow (leb (length ys + length (drop 0 m.stacks.cells)) 128) >> quietly (with_cells zs m)) q

dup_list : (s : List ℕ) → 1 ≤ length s → (2 + length (drop 1 s) ≡ 1 + length s) × (get_or s 0 0 ∷ get_or s 0 0 ∷ drop 1 s ≡ get_or s 0 0 ∷ s)
dup_list [] h = absurd (omega (arith, h))
dup_list (x ∷ s) h = (omega arith, refl)

over_list : (s : List ℕ) → 2 ≤ length s → (3 + length (drop 2 s) ≡ 1 + length s) × (get_or s 1 0 ∷ get_or s 0 0 ∷ get_or s 1 0 ∷ drop 2 s ≡ get_or s 1 0 ∷ s)
over_list [] h = absurd (omega (arith, h))
over_list (x ∷ []) h = absurd (omega (arith, h))
over_list (x ∷ y ∷ s) h = (omega arith, refl)

swap_list : (s : List ℕ) → 2 ≤ length s → rolled 1 s 0 ≡ get_or s 1 0 ∷ get_or s 0 0 ∷ drop 2 s
swap_list [] h = absurd (omega (arith, h))
swap_list (x ∷ []) h = absurd (omega (arith, h))
swap_list (x ∷ y ∷ s) h = refl

rot_list : (s : List ℕ) → 3 ≤ length s → rolled 2 s 0 ≡ get_or s 2 0 ∷ get_or s 0 0 ∷ get_or s 1 0 ∷ drop 3 s
rot_list [] h = absurd (omega (arith, h))
rot_list (x ∷ []) h = absurd (omega (arith, h))
rot_list (x ∷ y ∷ []) h = absurd (omega (arith, h))
rot_list (x ∷ y ∷ z ∷ s) h = refl

top_list : (s : List ℕ) → 1 ≤ length s → get_or s 0 0 ∷ drop 1 s ≡ s
top_list [] h = absurd (omega (arith, h))
top_list (x ∷ s) h = refl

-- DUP, OVER and ?DUP leave one cell more
dup_leaves : (m : Machine) → has_cells 1 m ≡ true → 1 ≤ length m.stacks.cells → do_cells dup_word m ≡ replaced 0 (nth 0 m ∷ []) m
dup_leaves m h l = one_done (λ a. a ∷ a ∷ []) m h ∙ (let q = dup_list m.stacks.cells l in same_room 1 (nth 0 m ∷ nth 0 m ∷ []) (nth 0 m ∷ []) m q.0 q.1)

over_leaves : (m : Machine) → has_cells 2 m ≡ true → 2 ≤ length m.stacks.cells → do_cells over_word m ≡ replaced 0 (nth 1 m ∷ []) m
over_leaves m h l = two_done (λ a b. a ∷ b ∷ a ∷ []) m h ∙ (let q = over_list m.stacks.cells l in same_room 2 (nth 1 m ∷ nth 0 m ∷ nth 1 m ∷ []) (nth 1 m ∷ []) m q.0 q.1)

pub question_dup_leaves : (m : Machine) → has_cells 1 m ≡ true → 1 ≤ length m.stacks.cells → eqb (nth 0 m) 0 ≡ false → do_cells question_dup_word m ≡ replaced 0 (nth 0 m ∷ []) m
question_dup_leaves m h l z = rw (h, z) (let q = dup_list m.stacks.cells l in same_room 1 (nth 0 m ∷ nth 0 m ∷ []) (nth 0 m ∷ []) m q.0 q.1)

-- ?DUP of 0 leaves all as it is
pub question_dup_stays : (m : Machine) → has_cells 1 m ≡ true → 1 ≤ length m.stacks.cells → has_room 1 (popped 1 m) ≡ true → eqb (nth 0 m) 0 ≡ true → do_cells question_dup_word m ≡ quietly m
question_dup_stays m h l b z = rw (h, z, b) (ap (λ s. quietly (with_cells s m)) (top_list m.stacks.cells l))

-- DUP and OVER copy the k-th cell, SWAP and ROT roll it up
room_for : (n : ℕ) (m : Machine) → n ≤ length m.stacks.cells → length m.stacks.cells ≤ 128 → leb (n + length (drop n m.stacks.cells)) 128 ≡ true
room_for n m h l = yes (n + length (drop n m.stacks.cells)) 128 (omega (arith, length-drop n m.stacks.cells))

pub dup_copies : (m : Machine) → length m.stacks.cells ≤ 128 → do_cells dup_word m ≡ copied 0 m
dup_copies m l = at (leb_tells 1 (length m.stacks.cells))
  where
    at : ((leb 1 (length m.stacks.cells) ≡ true) × (1 ≤ length m.stacks.cells)) ⊎ ((leb 1 (length m.stacks.cells) ≡ false) × (length m.stacks.cells < 1)) → do_cells dup_word m ≡ copied 0 m
    at (inl q) = dup_leaves m q.0 q.1 ∙ rw q.0
    at (inr q) = rw q.0

pub over_copies : (m : Machine) → length m.stacks.cells ≤ 128 → do_cells over_word m ≡ copied 1 m
over_copies m l = at (leb_tells 2 (length m.stacks.cells))
  where
    at : ((leb 2 (length m.stacks.cells) ≡ true) × (2 ≤ length m.stacks.cells)) ⊎ ((leb 2 (length m.stacks.cells) ≡ false) × (length m.stacks.cells < 2)) → do_cells over_word m ≡ copied 1 m
    at (inl q) = over_leaves m q.0 q.1 ∙ rw q.0
    at (inr q) = rw q.0

pub swap_rolls : (m : Machine) → length m.stacks.cells ≤ 128 → do_cells swap_word m ≡ rolled_up 1 m
swap_rolls m l = at (leb_tells 2 (length m.stacks.cells))
  where
    at : ((leb 2 (length m.stacks.cells) ≡ true) × (2 ≤ length m.stacks.cells)) ⊎ ((leb 2 (length m.stacks.cells) ≡ false) × (length m.stacks.cells < 2)) → do_cells swap_word m ≡ rolled_up 1 m
    at (inl q) = rw (q.0, room_for 2 m q.1 l) (ap (λ ys. quietly (with_cells ys m)) (sym (swap_list m.stacks.cells q.1)))
    at (inr q) = rw q.0

pub rot_rolls : (m : Machine) → length m.stacks.cells ≤ 128 → do_cells rot_word m ≡ rolled_up 2 m
rot_rolls m l = at (leb_tells 3 (length m.stacks.cells))
  where
    at : ((leb 3 (length m.stacks.cells) ≡ true) × (3 ≤ length m.stacks.cells)) ⊎ ((leb 3 (length m.stacks.cells) ≡ false) × (length m.stacks.cells < 3)) → do_cells rot_word m ≡ rolled_up 2 m
    at (inl q) = rw (q.0, room_for 3 m q.1 l) (ap (λ ys. quietly (with_cells ys m)) (sym (rot_list m.stacks.cells q.1)))
    at (inr q) = rw q.0
