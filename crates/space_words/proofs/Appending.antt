-- The ends of the words that append to data space.
use Rattle.std.proofs.Common.{subst, ◌≡◌, ℕ, ◌+◌, ◌-◌, ◌<◌, ◌≤◌, true, false, leb, List, ◌++◌, length, get_or, take, drop, Ok, Err, sym, refl, ap, ◌∙◌, arith, length-take}
use Rattle.fault.specs.declared.Fault.{Fault}
use Rattle.fault.specs.declared.Reason.TheVariants.{StackUnderflow, DataFull}
use Rattle.fault.specs.Numbers.{fault_of}
use Rattle.stacks.specs.Stack.{stack_of}
use Rattle.image.specs.Cells.{cell}
use Rattle.image.specs.Views.{low_of, high_of, line_of}
use Rattle.image.specs.Writes.{overwritten}
use Rattle.image.proofs.Overwriting.{take-before}
use Rattle.image.proofs.Laws.{low_kept, line_kept, high_grown}
use Rattle.definition.specs.declared.registers.Seat.{Seat}
use Rattle.definition.specs.declared.ranged.Registers.{Registers}
use Rattle.definition.specs.Machine.{Machine, here, with_high}
use Rattle.definition.specs.Asked.{refused, quietly}
use Rattle.definition.specs.Kernel
use Rattle.definition.specs.Words.{perform}
use Rattle.definition.specs.View.{lent, view_of}
use Rattle.definition.specs.Stacks.{has_cells, nth, popped}
use Rattle.definition.specs.Space.{do_space}
use Rattle.space_words.specs.Acting.{Acts}
use Rattle.space_words.proofs.Written.{built, here_is}
use Rattle.steps.specs.Seats.{told_by, with_cell_depth}
use Rattle.steps.specs.Does.{seen, acts, OnSpace}
use Rattle.steps.proofs.Exits.{yes, no, refused_at, has_cells_lem, lacks_cells}
use Rattle.steps.specs.DataSpace.{with_here}
use Rattle.space_words.specs.declared.words.AppendingWord.{AppendingWord}
use Rattle.space_words.specs.Numbers.{appending_number, size_of}

acts_in_size : (w : AppendingWord) → Acts (appending_number w) (Kernel.appends (size_of w))
unfolding perform
acts_in_size AppendingWord.Comma again a m = refl
acts_in_size AppendingWord.CComma again a m = refl

pub appending_acts : (w : AppendingWord) (n : ℕ) → n ≡ size_of w → Acts (appending_number w) (Kernel.appends n)
appending_acts w n e = subst (λ y. Acts (appending_number w) (Kernel.appends y)) (sym e) (acts_in_size w)

appends_short : (n : ℕ) (m : Machine) → has_cells 1 m ≡ false → do_space (Kernel.appends n) m ≡ refused StackUnderflow m
appends_short n m h = rw h

appends_full : (n : ℕ) (m : Machine) → has_cells 1 m ≡ true → leb (here m + n) 65535 ≡ false → do_space (Kernel.appends n) m ≡ refused DataFull m
appends_full n m h k = rw (h, k)

appends_done : (n : ℕ) (m : Machine) → has_cells 1 m ≡ true → leb (here m + n) 65535 ≡ true → do_space (Kernel.appends n) m ≡ quietly (with_high (m.high ++ take n (cell (nth 0 m))) (popped 1 m))
appends_done n m h k = rw (h, k)

abbrev pub deep : Registers → ℕ
deep r = r.seat.depths.cells

abbrev pub end : Registers → ℕ
end r = r.shared.ends.here

module _ (r : Registers) (i c : List ℕ) (li : length i ≡ 65536) (lc : length c ≡ 128) where
  pub short : (v n : ℕ) → Acts v (Kernel.appends n) → (e : Fault) → deep r < 1 → e ≡ fault_of StackUnderflow (told_by r.seat) → OnSpace v r i c (Err e) r i c
  short v n z e h p = λ again a t k s. refused_at (acts v again a) (seen r i c t k s) e StackUnderflow (z again a (seen r i c t k s) ∙ appends_short n (seen r i c t k s) (lacks_cells r i c t k s lc 1 h)) p

  pub full : (v n : ℕ) → Acts v (Kernel.appends n) → (e : Fault) → 1 ≤ deep r → 65535 < end r + n → e ≡ fault_of DataFull (told_by r.seat) → OnSpace v r i c (Err e) r i c
  full v n z e h b p = λ again a t k s. refused_at (acts v again a) (seen r i c t k s) e DataFull (z again a (seen r i c t k s) ∙ appends_full n (seen r i c t k s) (has_cells_lem r i c t k s lc 1 h) (ap (λ d. leb (d + n) 65535) (here_is r i c t k s li) ∙ no (end r + n) 65535 b)) p

  abbrev new : ℕ → List ℕ
  new n = take n (cell (get_or (stack_of (deep r) c) 0 0))

  -- n low bytes of the top are behind HERE
  new_long : (n : ℕ) → n ≤ 2 → length (new n) ≡ n
  unfolding cell
  new_long n h = length-take n (cell (get_or (stack_of (deep r) c) 0 0)) ∙ omega arith

  pub done : (v n : ℕ) → Acts v (Kernel.appends n) → (r1 r2 : Registers) (i' : List ℕ) (x : ℕ) → n ≤ 2 → 1 ≤ deep r → end r + n ≤ 65535 → x ≡ get_or (stack_of (deep r) c) 0 0 → i' ≡ overwritten (end r) (take n (cell x)) i → r1.shared ≡ with_here (end r + n) r.shared → r1.seat ≡ r.seat → r2.shared ≡ r1.shared → r2.seat ≡ with_cell_depth (deep r1 - 1) r1.seat → stack_of (deep r1 - 1) c ≡ drop 1 (stack_of (deep r1) c) → OnSpace v r i c (Ok tt) r2 i' c
  done v n z r1 r2 i' x two h b p e0 u1 w1 u2 w2 st =
      let ln = new_long n two in
      let e : i' ≡ overwritten (end r) (new n) i = rw p at e0 in
      let f : end r + length (new n) ≤ length i = omega (arith, ln) in
      let lo : low_of r.shared.ends.dp i' ≡ low_of r.shared.ends.dp i = ap (low_of r.shared.ends.dp) e ∙ low_kept (end r) (new n) i f r.shared.ends.dp (omega (arith, r.top, r.space)) in
      let ne : line_of i' ≡ line_of i = ap line_of e ∙ line_kept (end r) (new n) i f (omega (arith, r.space)) in
      let hi : high_of (end r + n) i' ≡ high_of (end r) i ++ new n = ap (λ y. high_of (end r + y) i') (sym ln) ∙ ap (high_of (end r + length (new n))) e ∙ high_grown (end r) (new n) i f (omega (arith, r.space)) in
      let se : r2.seat ≡ with_cell_depth (deep r - 1) r.seat = w2 ∙ ap (λ (y : Seat). with_cell_depth (y.depths.cells - 1) y) w1 in
      let dn : deep r1 ≡ deep r = ap (λ (y : Seat). y.depths.cells) w1 in
      let ce : stack_of (deep r - 1) c ≡ drop 1 (stack_of (deep r) c) = ap (λ y. stack_of (y - 1) c) (sym dn) ∙ st ∙ ap (λ y. drop 1 (stack_of y c)) dn in
      λ again a t k s.
      z again a (seen r i c t k s) ∙ appends_done n (seen r i c t k s) (has_cells_lem r i c t k s lc 1 h) (ap (λ d. leb (d + n) 65535) (here_is r i c t k s li) ∙ yes (end r + n) 65535 b)
      ∙ ap quietly (sym (ap (λ y. view_of y r2.seat (lent i' c t k) s) (u2 ∙ u1)
      ∙ ap (λ y. view_of (with_here (end r + n) r.shared) y (lent i' c t k) s) se
      ∙ ap (λ y. built r t k s y (high_of (end r + n) i') (line_of i') (stack_of (deep r - 1) c)) lo
      ∙ ap (λ y. built r t k s (low_of r.shared.ends.dp i) y (line_of i') (stack_of (deep r - 1) c)) hi
      ∙ ap (λ y. built r t k s (low_of r.shared.ends.dp i) (high_of (end r) i ++ new n) y (stack_of (deep r - 1) c)) ne
      ∙ ap (λ y. built r t k s (low_of r.shared.ends.dp i) (high_of (end r) i ++ new n) (line_of i) y) ce))

  pub done_below : (n : ℕ) (i' : List ℕ) (x : ℕ) → n ≤ 2 → end r + n ≤ 65535 → x ≡ get_or (stack_of (deep r) c) 0 0 → i' ≡ overwritten (end r) (take n (cell x)) i → take 256 i' ≡ take 256 i
  done_below n i' x two b p e0 =
      let e : i' ≡ overwritten (end r) (new n) i = rw p at e0 in
      ap (take 256) e ∙ take-before 256 (end r) (new n) i (omega (arith, r.space)) (omega (arith, r.limit))
