-- How the definition comes to the end of each word on data space, at a machine whose questions are answered.
use Rattle.std.proofs.Common.{◌≡◌, ℕ, zero, suc, ◌+◌, ◌-◌, ◌%◌, ◌<◌, ◌≤◌, true, false, cond, eqb, List, [], ◌∷◌, ◌++◌, length, get_or, take, drop, set, replicate, sym, refl, ap, ◌∙◌, arith, length-set}
use Rattle.image.proofs.Moving.{overwritten_byte}
use Rattle.fault.specs.declared.Reason.TheVariants.{StackUnderflow, OutOfReach}
use Rattle.image.specs.Cells.{at, cell, cell_at}
use Rattle.image.specs.Writes.{overwritten, moved_up}
use Rattle.numbers.specs.Cells.{wrap}
use Rattle.definition.specs.Machine.{Machine, with_high}
use Rattle.definition.specs.Asked.{refused, quietly}
use Rattle.definition.specs.Kernel
use Rattle.definition.specs.Kernel.{SpaceWord}
use Rattle.definition.specs.Words.{perform}
use Rattle.definition.specs.Stacks.{has_cells, popped, nth, replaced}
use Rattle.definition.specs.Space.{in_reach, do_space}
use Rattle.space_words.specs.Acting.{Acts}

pub fetch_acts : Acts 34 (Kernel.fetches 2)
unfolding perform
fetch_acts again a m = refl

pub store_acts : Acts 35 (Kernel.stores 2)
unfolding perform
store_acts again a m = refl

pub add_acts : Acts 36 Kernel.add_to
unfolding perform
add_acts again a m = refl

pub fetch_byte_acts : Acts 37 (Kernel.fetches 1)
unfolding perform
fetch_byte_acts again a m = refl

pub store_byte_acts : Acts 38 (Kernel.stores 1)
unfolding perform
store_byte_acts again a m = refl

pub copy_acts : Acts 39 Kernel.move
unfolding perform
copy_acts again a m = refl

pub fill_acts : Acts 40 Kernel.fill
unfolding perform
fill_acts again a m = refl

-- how many cells a word takes
abbrev pub takes_of : SpaceWord → ℕ
takes_of (Kernel.fetches n) = 1
takes_of (Kernel.stores n) = 2
takes_of (Kernel.appends n) = 1
takes_of Kernel.add_to = 2
takes_of Kernel.move = 3
takes_of Kernel.fill = 3
takes_of Kernel.allot = 1
takes_of (Kernel.set_base n) = 0

pub short : (w : SpaceWord) (m : Machine) → 0 < takes_of w → has_cells (takes_of w) m ≡ false → do_space w m ≡ refused StackUnderflow m
short (Kernel.fetches n) m b h = rw h
short (Kernel.stores n) m b h = rw h
short (Kernel.appends n) m b h = rw h
short Kernel.add_to m b h = rw h
short Kernel.move m b h = rw h
short Kernel.fill m b h = rw h
short Kernel.allot m b h = rw h
short (Kernel.set_base n) m b h = absurd (omega (arith, b))

-- out of reach
pub fetch_far : (n : ℕ) (m : Machine) → has_cells 1 m ≡ true → in_reach (nth 0 m) n m ≡ false → do_space (Kernel.fetches n) m ≡ refused OutOfReach m
fetch_far n m h k = rw (h, k)

pub store_far : (n : ℕ) (m : Machine) → has_cells 2 m ≡ true → in_reach (nth 0 m) n m ≡ false → do_space (Kernel.stores n) m ≡ refused OutOfReach m
store_far n m h k = rw (h, k)

pub add_far : (m : Machine) → has_cells 2 m ≡ true → in_reach (nth 0 m) 2 m ≡ false → do_space Kernel.add_to m ≡ refused OutOfReach m
add_far m h k = rw (h, k)

pub fill_far : (m : Machine) → has_cells 3 m ≡ true → in_reach (nth 2 m) (nth 1 m) m ≡ false → do_space Kernel.fill m ≡ refused OutOfReach m
fill_far m h k = rw (h, k)

pub copy_far : (m : Machine) → has_cells 3 m ≡ true → in_reach (nth 2 m) (nth 0 m) m ≡ false → do_space Kernel.move m ≡ refused OutOfReach m
copy_far m h k = rw (h, k)

pub copy_too_far : (m : Machine) → has_cells 3 m ≡ true → in_reach (nth 2 m) (nth 0 m) m ≡ true → in_reach (nth 1 m) (nth 0 m) m ≡ false → do_space Kernel.move m ≡ refused OutOfReach m
copy_too_far m h k j = rw (h, k, j)

-- one byte, or else a cell
abbrev pub value_at : ℕ → List ℕ → ℕ → ℕ
value_at n bytes a = cond (eqb n 1) (at bytes a) (cell_at bytes a)

-- in reach
pub fetched : (n : ℕ) (m : Machine) → has_cells 1 m ≡ true → in_reach (nth 0 m) n m ≡ true → do_space (Kernel.fetches n) m ≡ replaced 1 (value_at n m.high (nth 0 m - 32768) ∷ []) m
fetched n m h k = rw (h, k)

pub stored : (n : ℕ) (m : Machine) → has_cells 2 m ≡ true → in_reach (nth 0 m) n m ≡ true → do_space (Kernel.stores n) m ≡ quietly (with_high (overwritten (nth 0 m - 32768) (take n (cell (nth 1 m))) m.high) (popped 2 m))
unfolding overwritten
stored n m h k = rw (h, k)

pub added : (m : Machine) → has_cells 2 m ≡ true → in_reach (nth 0 m) 2 m ≡ true → do_space Kernel.add_to m ≡ quietly (with_high (overwritten (nth 0 m - 32768) (cell (wrap (cell_at m.high (nth 0 m - 32768) + nth 1 m))) m.high) (popped 2 m))
unfolding overwritten
added m h k = rw (h, k)

pub filled : (m : Machine) → has_cells 3 m ≡ true → in_reach (nth 2 m) (nth 1 m) m ≡ true → do_space Kernel.fill m ≡ quietly (with_high (overwritten (nth 2 m - 32768) (replicate (nth 1 m) (nth 0 m % 256)) m.high) (popped 3 m))
unfolding overwritten
filled m h k = rw (h, k)

-- BASE
pub base_set : (n : ℕ) (m : Machine) → do_space (Kernel.set_base n) m ≡ quietly (with_high (overwritten 0 (cell n) m.high) m)
unfolding overwritten
base_set n m = refl

pub decimal_acts : Acts 42 (Kernel.set_base 10)
unfolding perform
decimal_acts again a m = refl

pub hex_acts : Acts 43 (Kernel.set_base 16)
unfolding perform
hex_acts again a m = refl

-- one byte after the other, the lowest address first, as the definition says it
abbrev pub moved_on : ℕ → ℕ → ℕ → List ℕ → List ℕ
moved_on zero from to high = high
moved_on (suc n) from to high = moved_on n (from + 1) (to + 1) (take (to - 32768) high ++ ((at high (from - 32768) ∷ []) ++ drop (to - 32768 + 1) high))

pub copied : (m : Machine) → has_cells 3 m ≡ true → in_reach (nth 2 m) (nth 0 m) m ≡ true → in_reach (nth 1 m) (nth 0 m) m ≡ true → do_space Kernel.move m ≡ quietly (with_high (moved_on (nth 0 m) (nth 2 m) (nth 1 m) m.high) (popped 3 m))
copied m h k j = rw (h, k, j)

byte_put : (a : ℕ) (xs : List ℕ) (v : ℕ) → a < length xs → set xs a v ≡ take a xs ++ ((v ∷ []) ++ drop (a + 1) xs)
unfolding overwritten
byte_put a xs v h = overwritten_byte a xs v h

-- the first byte moved first
moved_first : (n from to : ℕ) (xs : List ℕ) → moved_up n (from + 1) (to + 1) (set xs to (get_or xs from 0)) ≡ moved_up (suc n) from to xs
unfolding moved_up
moved_first zero from to xs =
    let e : to + 0 ≡ to = omega arith in
    let f : from + 0 ≡ from = omega arith in
    rw (e, f)
moved_first (suc n) from to xs =
    let h = moved_first n from to xs in
    let e : to + 1 + n ≡ to + suc n = omega arith in
    let f : from + 1 + n ≡ from + suc n = omega arith in
    ap (λ (ys : List ℕ). set ys (to + 1 + n) (get_or ys (from + 1 + n) 0)) h ∙ rw (e, f)

pub moved_on_lem : (n from to : ℕ) (xs : List ℕ) → 32768 ≤ from → 32768 ≤ to → to - 32768 + n ≤ length xs → moved_on n from to xs ≡ moved_up n (from - 32768) (to - 32768) xs
unfolding moved_up
moved_on_lem zero from to xs b d l = refl
moved_on_lem (suc n) from to xs b d l =
    let v = at xs (from - 32768) in
    let e : take (to - 32768) xs ++ ((v ∷ []) ++ drop (to - 32768 + 1) xs) ≡ set xs (to - 32768) v = sym (byte_put (to - 32768) xs v (omega arith)) in
    let f : from + 1 - 32768 ≡ from - 32768 + 1 = omega arith in
    let g : to + 1 - 32768 ≡ to - 32768 + 1 = omega arith in
    ap (moved_on n (from + 1) (to + 1)) e
    ∙ moved_on_lem n (from + 1) (to + 1) (set xs (to - 32768) v) (omega arith) (omega arith) (simp length-set (omega arith))
    ∙ ap (λ y. moved_up n y (to + 1 - 32768) (set xs (to - 32768) v)) f
    ∙ ap (λ y. moved_up n (from - 32768 + 1) y (set xs (to - 32768) v)) g
    ∙ moved_first n (from - 32768) (to - 32768) xs
