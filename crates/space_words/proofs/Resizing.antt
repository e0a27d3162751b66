-- The ends of ALLOT.
use Rattle.std.proofs.Common.{◌≡◌, ℕ, ◌+◌, ◌-◌, ◌<◌, ◌≤◌, Bool, true, false, leb, ◌⊎◌, List, ◌++◌, length, get_or, take, drop, replicate, Ok, Err, sym, refl, ap, ◌∙◌, inl, inr, arith, take_all, take-take}
use Rattle.std.proofs.lemmas.List.{append-nil, length-replicate}
use Rattle.std.proofs.lemmas.Bool.Decides.{leb_tells}
use Rattle.fault.specs.declared.Fault.{Fault}
use Rattle.fault.specs.declared.Reason.TheVariants.{StackUnderflow, DataFull}
use Rattle.fault.specs.Numbers.{fault_of}
use Rattle.store.specs.Meaning.{Meaning}
use Rattle.stacks.specs.Stack.{stack_of}
use Rattle.image.specs.Cells.{zeros}
use Rattle.image.specs.Views.{low_of, high_of, line_of}
use Rattle.image.specs.Writes.{overwritten}
use Rattle.image.proofs.Overwriting.{overwritten_none, take-before}
use Rattle.image.proofs.Laws.{length_high, low_kept, line_kept, high_grown}
use Rattle.definition.specs.declared.registers.Mark.{Mark}
use Rattle.definition.specs.declared.registers.Seat.{Seat}
use Rattle.definition.specs.declared.ranged.Registers.{Registers}
use Rattle.definition.specs.Machine.{Machine, here, with_high}
use Rattle.definition.specs.Asked.{Asked, refused, After, quietly}
use Rattle.definition.specs.Kernel
use Rattle.definition.specs.Words.{Argument, perform}
use Rattle.definition.specs.View.{lent, view_of}
use Rattle.definition.specs.Stacks.{has_cells, nth, popped}
use Rattle.definition.specs.Space.{do_space}
use Rattle.steps.specs.Seats.{told_by, with_cell_depth}
use Rattle.steps.specs.Does.{seen, acts, OnSpace}
use Rattle.steps.proofs.Exits.{refused_at, has_cells_lem, lacks_cells}
use Rattle.space_words.proofs.Written.{built, here_is}
use Rattle.steps.specs.DataSpace.{with_here}
use Rattle.space_words.specs.Allotting.{moved_by, lowest_of, allowed}
use Rattle.space_words.proofs.Appending.{deep, end}

abbrev low_in : Registers → List ℕ → List ℕ
low_in r i = low_of r.shared.ends.dp i

-- data space of n bytes, those that are added cleared
cut : (here to : ℕ) (xs : List ℕ) → 32768 ≤ here → here ≤ length xs → to ≤ here → high_of to (overwritten here (replicate (to - here) 0) xs) ≡ take (to - 32768) (high_of here xs) ++ zeros (to - 32768 - length (high_of here xs))
unfolding high_of
cut here to xs b l h =
    let e : to - here ≡ 0 = omega arith in
    let f : length (high_of here xs) ≡ here - 32768 = length_high here xs l in
    let g : to - 32768 - length (high_of here xs) ≡ 0 = omega (arith, f) in
    ap (λ n. high_of to (overwritten here (replicate n 0) xs)) e ∙ ap (high_of to) (overwritten_none here xs)
    ∙ sym (take-take (to - 32768) (here - 32768) (drop 32768 xs) (omega arith))
    ∙ sym (append-nil (take (to - 32768) (high_of here xs)))
    ∙ ap (λ n. take (to - 32768) (high_of here xs) ++ zeros n) (sym g)

grown : (here to : ℕ) (xs : List ℕ) → 32768 ≤ here → to ≤ length xs → here ≤ to → high_of to (overwritten here (replicate (to - here) 0) xs) ≡ take (to - 32768) (high_of here xs) ++ zeros (to - 32768 - length (high_of here xs))
grown here to xs b l h =
    let new : List ℕ = replicate (to - here) 0 in
    let n : length new ≡ to - here = length-replicate (to - here) 0 in
    let e : here + length new ≡ to = omega (arith, n) in
    let f : length (high_of here xs) ≡ here - 32768 = length_high here xs (omega arith) in
    let g : to - 32768 - length (high_of here xs) ≡ to - here = omega (arith, f) in
    ap (λ y. high_of y (overwritten here new xs)) (sym e) ∙ high_grown here new xs (omega (arith, e)) b
    ∙ ap (λ (y : List ℕ). y ++ new) (sym (take_all (to - 32768) (high_of here xs) (omega (arith, f))))
    ∙ ap (λ y. take (to - 32768) (high_of here xs) ++ zeros y) (sym g)

pub resized_high : (here to : ℕ) (xs : List ℕ) → 32768 ≤ here → here ≤ length xs → to ≤ length xs → high_of to (overwritten here (replicate (to - here) 0) xs) ≡ take (to - 32768) (high_of here xs) ++ zeros (to - 32768 - length (high_of here xs))
resized_high here to xs b l k = at (leb_tells to here)
  where
    at : ((leb to here ≡ true) × (to ≤ here)) ⊎ ((leb to here ≡ false) × (here < to)) → high_of to (overwritten here (replicate (to - here) 0) xs) ≡ take (to - 32768) (high_of here xs) ++ zeros (to - 32768 - length (high_of here xs))
    at (inl q) = cut here to xs b l q.1
    at (inr q) = grown here to xs b k (omega (arith, q.1))

-- how the definition comes to the end of ALLOT
allot_acts : (again : ℕ → Machine → Asked After) (a : Argument) (m : Machine) → acts 46 again a m ≡ do_space Kernel.allot m
unfolding perform
allot_acts again a m = refl

allot_short : (m : Machine) → has_cells 1 m ≡ false → do_space Kernel.allot m ≡ refused StackUnderflow m
allot_short m h = rw h

abbrev floor : Machine → ℕ
floor m = lowest_of m.low m.names.newest

allot_full : (m : Machine) → has_cells 1 m ≡ true → allowed (floor m) (moved_by (here m) (nth 0 m)) ≡ false → do_space Kernel.allot m ≡ refused DataFull m
allot_full m h k = rw (h, k)

allot_done : (m : Machine) → has_cells 1 m ≡ true → allowed (floor m) (moved_by (here m) (nth 0 m)) ≡ true → do_space Kernel.allot m ≡ quietly (with_high (take (moved_by (here m) (nth 0 m) - 32768) m.high ++ zeros (moved_by (here m) (nth 0 m) - 32768 - length m.high)) (popped 1 m))
allot_done m h k = rw (h, k)

module _ (r : Registers) (i c : List ℕ) (li : length i ≡ 65536) (lc : length c ≡ 128) where
  abbrev top : ℕ
  top = get_or (stack_of (deep r) c) 0 0

  abbrev bottom : ℕ
  bottom = lowest_of (low_in r i) r.shared.names.newest

  asked_is : (t : List ℕ) (k : List Mark) (s : Meaning) (n : ℕ) (b : Bool) → n ≡ top → allowed bottom (moved_by (end r) n) ≡ b → allowed (floor (seen r i c t k s)) (moved_by (here (seen r i c t k s)) top) ≡ b
  asked_is t k s n b p q =
      ap (λ y. allowed bottom (moved_by y top)) (here_is r i c t k s li) ∙ ap (λ y. allowed bottom (moved_by (end r) y)) (sym p) ∙ q

  pub short : (e : Fault) → deep r < 1 → e ≡ fault_of StackUnderflow (told_by r.seat) → OnSpace 46 r i c (Err e) r i c
  short e h p = λ again a t k s. refused_at (acts 46 again a) (seen r i c t k s) e StackUnderflow (allot_acts again a (seen r i c t k s) ∙ allot_short (seen r i c t k s) (lacks_cells r i c t k s lc 1 h)) p

  pub full : (n : ℕ) (e : Fault) → 1 ≤ deep r → n ≡ top → allowed bottom (moved_by (end r) n) ≡ false → e ≡ fault_of DataFull (told_by r.seat) → OnSpace 46 r i c (Err e) r i c
  full n e h p q g = λ again a t k s. refused_at (acts 46 again a) (seen r i c t k s) e DataFull (allot_acts again a (seen r i c t k s) ∙ allot_full (seen r i c t k s) (has_cells_lem r i c t k s lc 1 h) (asked_is t k s n false p q)) g

  pub done : (r1 r2 : Registers) (i' : List ℕ) (n to : ℕ) → 1 ≤ deep r → n ≡ top → to ≡ moved_by (end r) n → allowed bottom to ≡ true → to ≤ 65535 → i' ≡ overwritten (end r) (replicate (to - end r) 0) i → r1.shared ≡ with_here to r.shared → r1.seat ≡ r.seat → r2.shared ≡ r1.shared → r2.seat ≡ with_cell_depth (deep r1 - 1) r1.seat → stack_of (deep r1 - 1) c ≡ drop 1 (stack_of (deep r1) c) → OnSpace 46 r i c (Ok tt) r2 i' c × (take 256 i' ≡ take 256 i)
  done r1 r2 i' n to h p m q b e u1 w1 u2 w2 st =
      let new : List ℕ = replicate (to - end r) 0 in
      let ln : length new ≡ to - end r = length-replicate (to - end r) 0 in
      let f : end r + length new ≤ length i = omega (arith, ln, r.limit) in
      let lo : low_in r i' ≡ low_in r i = ap (low_in r) e ∙ low_kept (end r) new i f r.shared.ends.dp (omega (arith, r.top, r.space)) in
      let ne : line_of i' ≡ line_of i = ap line_of e ∙ line_kept (end r) new i f (omega (arith, r.space)) in
      let hi : high_of to i' ≡ take (to - 32768) (high_of (end r) i) ++ zeros (to - 32768 - length (high_of (end r) i)) = ap (high_of to) e ∙ resized_high (end r) to i (omega (arith, r.space)) (omega (arith, r.limit)) (omega arith) in
      let se : r2.seat ≡ with_cell_depth (deep r - 1) r.seat = w2 ∙ ap (λ (y : Seat). with_cell_depth (y.depths.cells - 1) y) w1 in
      let dn : deep r1 ≡ deep r = ap (λ (y : Seat). y.depths.cells) w1 in
      let ce : stack_of (deep r - 1) c ≡ drop 1 (stack_of (deep r) c) = ap (λ y. stack_of (y - 1) c) (sym dn) ∙ st ∙ ap (λ y. drop 1 (stack_of y c)) dn in
      let q' : allowed bottom (moved_by (end r) n) ≡ true = ap (allowed bottom) (sym m) ∙ q in (
        (λ again a t k s.
            let mo : moved_by (here (seen r i c t k s)) top ≡ to = ap (λ y. moved_by y top) (here_is r i c t k s li) ∙ ap (moved_by (end r)) (sym p) ∙ sym m in
            allot_acts again a (seen r i c t k s) ∙ allot_done (seen r i c t k s) (has_cells_lem r i c t k s lc 1 h) (asked_is t k s n true p q')
            ∙ ap (λ y. quietly (with_high (take (y - 32768) (high_of (end r) i) ++ zeros (y - 32768 - length (high_of (end r) i))) (popped 1 (seen r i c t k s)))) mo
            ∙ ap quietly (sym (ap (λ y. view_of y r2.seat (lent i' c t k) s) (u2 ∙ u1)
            ∙ ap (λ y. view_of (with_here to r.shared) y (lent i' c t k) s) se
            ∙ ap (λ y. built r t k s y (high_of to i') (line_of i') (stack_of (deep r - 1) c)) lo
            ∙ ap (λ y. built r t k s (low_in r i) y (line_of i') (stack_of (deep r - 1) c)) hi
            ∙ ap (λ y. built r t k s (low_in r i) (take (to - 32768) (high_of (end r) i) ++ zeros (to - 32768 - length (high_of (end r) i))) y (stack_of (deep r - 1) c)) ne
            ∙ ap (λ y. built r t k s (low_in r i) (take (to - 32768) (high_of (end r) i) ++ zeros (to - 32768 - length (high_of (end r) i))) (line_of i) y) ce))),
        ap (take 256) e ∙ take-before 256 (end r) new i (omega (arith, r.space)) (omega (arith, r.limit)),
      )
