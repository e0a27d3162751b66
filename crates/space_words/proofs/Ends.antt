-- The ends of a word on data space, from what the code knows there.
use Rattle.std.proofs.Common.{◌≡◌, ℕ, suc, ◌+◌, ◌-◌, ◌%◌, ◌<◌, ◌≤◌, true, false, ◌⊎◌, List, [], ◌∷◌, length, get_or, take, drop, replicate, Ok, Err, sym, refl, ap, ◌∙◌, inl, inr, arith, eqb, length-take}
use Rattle.std.proofs.lemmas.Bool.Decides.{eqb_tells}
use Rattle.std.proofs.lemmas.List.{length-replicate}
use Rattle.fault.specs.declared.Fault.{Fault}
use Rattle.fault.specs.declared.Reason.{Reason}
use Rattle.fault.specs.declared.Reason.TheVariants.{StackUnderflow, OutOfReach}
use Rattle.fault.specs.Numbers.{fault_of}
use Rattle.store.specs.Meaning.{Meaning}
use Rattle.stacks.specs.Stack.{stack_of}
use Rattle.image.specs.Cells.{cell, cell_at}
use Rattle.image.specs.Views.{high_of}
use Rattle.image.specs.Writes.{overwritten, moved_up}
use Rattle.image.proofs.Laws.{cell_high, get_or_high}
use Rattle.numbers.specs.Cells.{wrap}
use Rattle.definition.specs.declared.registers.Mark.{Mark}
use Rattle.definition.specs.declared.ranged.Registers.{Registers}
use Rattle.definition.specs.Machine.{with_cells, with_high}
use Rattle.definition.specs.Asked.{refused, quietly}
use Rattle.definition.specs.Kernel
use Rattle.definition.specs.Kernel.{SpaceWord}
use Rattle.definition.specs.Stacks.{replaced}
use Rattle.definition.specs.Space.{do_space}
use Rattle.steps.specs.Seats.{told_by, with_cell_depth}
use Rattle.steps.specs.Does.{seen, acts, OnSpace}
use Rattle.steps.proofs.Exits.{yes, refused_at, has_cells_lem, lacks_cells, has_room_lem, cells_view}
use Rattle.space_words.specs.Acting.{Acts}
use Rattle.space_words.specs.Numbers.{reachable}
use Rattle.space_words.proofs.Written.{overwrote, moved_views, reached, reach_is, space_view}
use Rattle.space_words.proofs.Doing.{value_at, add_acts, fill_acts, copy_acts, takes_of, short, fetch_far, store_far, add_far, fill_far, copy_far, copy_too_far, fetched, stored, added, filled, base_set, copied}

abbrev deep : Registers → ℕ
deep r = r.seat.depths.cells

abbrev top : Registers → List ℕ → ℕ → ℕ
top r c k = get_or (stack_of (deep r) c) k 0

-- what `release` ensures
pub record Released (r r' : Registers) (c : List ℕ) (n : ℕ) : Type 0 where
  pub shared : r'.shared ≡ r.shared
  pub seat : r'.seat ≡ with_cell_depth (deep r - n) r.seat
  pub stack : stack_of (deep r - n) c ≡ drop n (stack_of (deep r) c)

positive : {A : Type 0} (n : ℕ) → (suc n ≡ 0) ⊎ A → A
positive n (inl q) = absurd (omega (arith, q))
positive n (inr q) = q

some : {A : Type 0} (n : ℕ) → 0 < n → (n ≡ 0) ⊎ A → A
some n b (inl q) = absurd (omega (arith, q))
some n b (inr q) = q

-- a refusal
pub space_refused : (n : ℕ) (w : SpaceWord) → Acts n w → (r : Registers) (i c : List ℕ) (e : Fault) (why : Reason) → ((t : List ℕ) (k : List Mark) (s : Meaning) → do_space w (seen r i c t k s) ≡ refused why (seen r i c t k s)) → e ≡ fault_of why (told_by r.seat) → OnSpace n r i c (Err e) r i c
space_refused n w q r i c e why h p = λ again a t k s. refused_at (acts n again a) (seen r i c t k s) e why (q again a (seen r i c t k s) ∙ h t k s) p

pub space_short : (n : ℕ) (w : SpaceWord) → Acts n w → (r : Registers) (i c : List ℕ) (e : Fault) → length c ≡ 128 → 0 < takes_of w → deep r < takes_of w → e ≡ fault_of StackUnderflow (told_by r.seat) → OnSpace n r i c (Err e) r i c
space_short n w q r i c e l b h p = space_refused n w q r i c e StackUnderflow (λ t k s. short w (seen r i c t k s) b (lacks_cells r i c t k s l (takes_of w) h)) p

module _ (r : Registers) (i c : List ℕ) (li : length i ≡ 65536) (lc : length c ≡ 128) where
  pub fetch_too_far : (v n a : ℕ) → Acts v (Kernel.fetches n) → (e : Fault) → 1 ≤ deep r → a ≡ top r c 0 → reachable a n r.shared.ends.here ≡ false → e ≡ fault_of OutOfReach (told_by r.seat) → OnSpace v r i c (Err e) r i c
  fetch_too_far v n a z e h p q g =
      let q' : reachable (top r c 0) n r.shared.ends.here ≡ false = rw p at q in
      space_refused v (Kernel.fetches n) z r i c e OutOfReach (λ t k s. fetch_far n (seen r i c t k s) (has_cells_lem r i c t k s lc 1 h) (reach_is r i c t k s li _ n false q')) g

  pub store_too_far : (v n a : ℕ) → Acts v (Kernel.stores n) → (e : Fault) → 2 ≤ deep r → a ≡ top r c 0 → reachable a n r.shared.ends.here ≡ false → e ≡ fault_of OutOfReach (told_by r.seat) → OnSpace v r i c (Err e) r i c
  store_too_far v n a z e h p q g =
      let q' : reachable (top r c 0) n r.shared.ends.here ≡ false = rw p at q in
      space_refused v (Kernel.stores n) z r i c e OutOfReach (λ t k s. store_far n (seen r i c t k s) (has_cells_lem r i c t k s lc 2 h) (reach_is r i c t k s li _ n false q')) g

  pub add_too_far : (a : ℕ) (e : Fault) → 2 ≤ deep r → a ≡ top r c 0 → reachable a 2 r.shared.ends.here ≡ false → e ≡ fault_of OutOfReach (told_by r.seat) → OnSpace 36 r i c (Err e) r i c
  add_too_far a e h p q g =
      let q' : reachable (top r c 0) 2 r.shared.ends.here ≡ false = rw p at q in
      space_refused 36 Kernel.add_to add_acts r i c e OutOfReach (λ t k s. add_far (seen r i c t k s) (has_cells_lem r i c t k s lc 2 h) (reach_is r i c t k s li _ 2 false q')) g

  pub fill_too_far : (a n : ℕ) (e : Fault) → 3 ≤ deep r → a ≡ top r c 2 → n ≡ top r c 1 → reachable a n r.shared.ends.here ≡ false → e ≡ fault_of OutOfReach (told_by r.seat) → OnSpace 40 r i c (Err e) r i c
  fill_too_far a n e h p u q g =
      let q' : reachable (top r c 2) (top r c 1) r.shared.ends.here ≡ false = rw (p, u) at q in
      space_refused 40 Kernel.fill fill_acts r i c e OutOfReach (λ t k s. fill_far (seen r i c t k s) (has_cells_lem r i c t k s lc 3 h) (reach_is r i c t k s li (top r c 2) (top r c 1) false q')) g

  -- a cell or a byte fetched
  value_in_high : (n a : ℕ) → 0 < n → n ≤ 2 → 32768 ≤ a → a + n ≤ r.shared.ends.here → value_at n (high_of r.shared.ends.here i) (a - 32768) ≡ value_at n i a
  value_in_high n a b d f g = at (eqb_tells n 1)
    where
      at : ((eqb n 1 ≡ true) × (n ≡ 1)) ⊎ ((eqb n 1 ≡ false) × (n ≡ 1 → ⊥)) → value_at n (high_of r.shared.ends.here i) (a - 32768) ≡ value_at n i a
      at (inl q) = rw q.0 (get_or_high r.shared.ends.here i a f (omega (arith, q.1)))
      at (inr q) = let two : n ≡ 2 = omega (arith, q.1) in rw q.0 (cell_high r.shared.ends.here i a f (omega arith))

  pub fetch_done : (v n : ℕ) → Acts v (Kernel.fetches n) → (r' : Registers) (c' : List ℕ) (a x : ℕ) → 0 < n → n ≤ 2 → 1 ≤ deep r → a ≡ top r c 0 → reachable a n r.shared.ends.here ≡ true → x ≡ value_at n i a → r'.shared ≡ r.shared → r'.seat ≡ with_cell_depth (deep r - 1 + 1) r.seat → stack_of (deep r - 1 + 1) c' ≡ x ∷ drop 1 (stack_of (deep r) c) → OnSpace v r i c (Ok tt) r' i c'
  fetch_done v n z r' c' a x b d h p q y u g e = λ again b' t k s.
      let m = seen r i c t k s in
      let q' : reachable (top r c 0) n r.shared.ends.here ≡ true = rw p at q in
      let w = some n b (reached (top r c 0) n r.shared.ends.here q') in
      let f : value_at n (high_of r.shared.ends.here i) (top r c 0 - 32768) ≡ x = value_in_high n (top r c 0) b d w.0 w.1 ∙ ap (value_at n i) (sym p) ∙ sym y in
      z again b' m ∙ fetched n m (has_cells_lem r i c t k s lc 1 h) (reach_is r i c t k s li _ n true q') ∙ ap (λ y. replaced 1 (y ∷ []) m) f
      ∙ rw (has_room_lem r i c t k s lc 1 1 h (omega (arith, r.cells))) (ap quietly (sym (cells_view r r' i c c' t k s _ _ u g e)))

  -- new bytes in their place
  stored_done : (v : ℕ) (w : SpaceWord) → Acts v w → (r' : Registers) (i' : List ℕ) (n a : ℕ) (new : List ℕ) → reachable a (length new) r.shared.ends.here ≡ true → i' ≡ overwritten a new i → Released r r' c n → ((t : List ℕ) (k : List Mark) (s : Meaning) → do_space w (seen r i c t k s) ≡ quietly (with_high (overwritten (a - 32768) new (high_of r.shared.ends.here i)) (with_cells (drop n (stack_of (deep r) c)) (seen r i c t k s)))) → OnSpace v r i c (Ok tt) r' i' c × (take 256 i' ≡ take 256 i)
  stored_done v w z r' i' n a new q e f h =
      let g = overwrote r i i' a new li q e in
      ((λ again b t k s. z again b (seen r i c t k s) ∙ h t k s ∙ ap quietly (sym (space_view r r' i i' c c t k s (deep r - n) _ _ f.shared f.seat f.stack g))), g.below)

  low_long : (n x : ℕ) → n ≤ 2 → length (take n (cell x)) ≡ n
  unfolding cell
  low_long n x b = length-take n (cell x) ∙ omega arith

  pub store_done : (v n : ℕ) → Acts v (Kernel.stores n) → (r' : Registers) (i' : List ℕ) (a x : ℕ) → n ≤ 2 → 2 ≤ deep r → a ≡ top r c 0 → x ≡ top r c 1 → reachable a n r.shared.ends.here ≡ true → i' ≡ overwritten a (take n (cell x)) i → Released r r' c 2 → OnSpace v r i c (Ok tt) r' i' c
  store_done v n z r' i' a x b h p u q e f =
      let q' : reachable (top r c 0) n r.shared.ends.here ≡ true = rw p at q in
      let new : List ℕ = take n (cell (top r c 1)) in
      let e' : i' ≡ overwritten (top r c 0) new i = rw (p, u) at e in
      let d = stored_done v (Kernel.stores n) z r' i' 2 (top r c 0) new (ap (λ y. reachable (top r c 0) y r.shared.ends.here) (low_long n (top r c 1) b) ∙ q') e' f
      (λ t k s. stored n (seen r i c t k s) (has_cells_lem r i c t k s lc 2 h) (reach_is r i c t k s li _ n true q')) in
      d.0

  pub store_below : (i' : List ℕ) (n a x : ℕ) → n ≤ 2 → reachable a n r.shared.ends.here ≡ true → i' ≡ overwritten a (take n (cell x)) i → take 256 i' ≡ take 256 i
  store_below i' n a x b q e =
      let w = overwrote r i i' a (take n (cell x)) li (ap (λ y. reachable a y r.shared.ends.here) (low_long n x b) ∙ q) e in
      w.below

  pub fill_done : (r' : Registers) (i' : List ℕ) (a n x : ℕ) → 3 ≤ deep r → a ≡ top r c 2 → n ≡ top r c 1 → x ≡ top r c 0 % 256 → reachable a n r.shared.ends.here ≡ true → i' ≡ overwritten a (replicate n x) i → Released r r' c 3 → OnSpace 40 r i c (Ok tt) r' i' c × (take 256 i' ≡ take 256 i)
  fill_done r' i' a n x h p u v q e f =
      let q' : reachable (top r c 2) (top r c 1) r.shared.ends.here ≡ true = rw (p, u) at q in
      let e' : i' ≡ overwritten (top r c 2) (replicate (top r c 1) (top r c 0 % 256)) i = rw (p, u, v) at e in
      stored_done 40 Kernel.fill fill_acts r' i' 3 (top r c 2) (replicate (top r c 1) (top r c 0 % 256)) (ap (λ y. reachable (top r c 2) y r.shared.ends.here) (length-replicate (top r c 1) (top r c 0 % 256)) ∙ q') e' f
      (λ t k s. filled (seen r i c t k s) (has_cells_lem r i c t k s lc 3 h) (reach_is r i c t k s li (top r c 2) (top r c 1) true q'))

  pub add_done : (r' : Registers) (i' : List ℕ) (a x old : ℕ) → 2 ≤ deep r → a ≡ top r c 0 → x ≡ top r c 1 → reachable a 2 r.shared.ends.here ≡ true → old ≡ cell_at i a → i' ≡ overwritten a (cell (wrap (old + x))) i → Released r r' c 2 → OnSpace 36 r i c (Ok tt) r' i' c × (take 256 i' ≡ take 256 i)
  unfolding cell
  add_done r' i' a x old h p u q o e f =
      let q' : reachable (top r c 0) 2 r.shared.ends.here ≡ true = rw p at q in
      let w = positive 1 (reached (top r c 0) 2 r.shared.ends.here q') in
      let o' : old ≡ cell_at (high_of r.shared.ends.here i) (top r c 0 - 32768) = o ∙ ap (cell_at i) p ∙ sym (cell_high r.shared.ends.here i (top r c 0) w.0 (omega (arith, w.1))) in
      let new = cell (wrap (cell_at (high_of r.shared.ends.here i) (top r c 0 - 32768) + top r c 1)) in
      let e' : i' ≡ overwritten (top r c 0) new i = e ∙ ap (λ y. overwritten y (cell (wrap (old + x))) i) p ∙ ap (λ y. overwritten (top r c 0) (cell (wrap (y + x))) i) o' ∙ ap (λ y. overwritten (top r c 0) (cell (wrap (cell_at (high_of r.shared.ends.here i) (top r c 0 - 32768) + y))) i) u in
      stored_done 36 Kernel.add_to add_acts r' i' 2 (top r c 0) new q' e' f
      (λ t k s. added (seen r i c t k s) (has_cells_lem r i c t k s lc 2 h) (reach_is r i c t k s li _ 2 true q'))

  pub base_done : (v n : ℕ) → Acts v (Kernel.set_base n) → (i' : List ℕ) → i' ≡ overwritten 32768 (cell n) i → OnSpace v r i c (Ok tt) r i' c × (take 256 i' ≡ take 256 i)
  unfolding cell
  base_done v n z i' e =
      let q : reachable 32768 2 r.shared.ends.here ≡ true = yes 32770 r.shared.ends.here (omega (arith, r.space)) in
      let g = overwrote r i i' 32768 (cell n) li q e in
      ((λ again b t k s. z again b (seen r i c t k s) ∙ base_set n (seen r i c t k s) ∙ ap quietly (sym (space_view r r i i' c c t k s (deep r) (stack_of (deep r) c) _ refl refl refl g))), g.below)

  pub copy_from_far : (n to from : ℕ) (e : Fault) → 3 ≤ deep r → n ≡ top r c 0 → to ≡ top r c 1 → from ≡ top r c 2 → reachable from n r.shared.ends.here ≡ false → e ≡ fault_of OutOfReach (told_by r.seat) → OnSpace 39 r i c (Err e) r i c
  copy_from_far n to from e h p u v q g =
      let q' : reachable (top r c 2) (top r c 0) r.shared.ends.here ≡ false = rw (v, p) at q in
      space_refused 39 Kernel.move copy_acts r i c e OutOfReach (λ t k s. copy_far (seen r i c t k s) (has_cells_lem r i c t k s lc 3 h) (reach_is r i c t k s li (top r c 2) (top r c 0) false q')) g

  pub copy_to_far : (n to from : ℕ) (e : Fault) → 3 ≤ deep r → n ≡ top r c 0 → to ≡ top r c 1 → from ≡ top r c 2 → reachable from n r.shared.ends.here ≡ true → reachable to n r.shared.ends.here ≡ false → e ≡ fault_of OutOfReach (told_by r.seat) → OnSpace 39 r i c (Err e) r i c
  copy_to_far n to from e h p u v y q g =
      let y' : reachable (top r c 2) (top r c 0) r.shared.ends.here ≡ true = rw (v, p) at y in
      let q' : reachable (top r c 1) (top r c 0) r.shared.ends.here ≡ false = rw (u, p) at q in
      space_refused 39 Kernel.move copy_acts r i c e OutOfReach (λ t k s. copy_too_far (seen r i c t k s) (has_cells_lem r i c t k s lc 3 h) (reach_is r i c t k s li (top r c 2) (top r c 0) true y') (reach_is r i c t k s li (top r c 1) (top r c 0) false q')) g

  pub copy_done : (r' : Registers) (i' : List ℕ) (n to from : ℕ) → 3 ≤ deep r → n ≡ top r c 0 → to ≡ top r c 1 → from ≡ top r c 2 → reachable from n r.shared.ends.here ≡ true → reachable to n r.shared.ends.here ≡ true → i' ≡ moved_up n from to i → Released r r' c 3 → OnSpace 39 r i c (Ok tt) r' i' c × (take 256 i' ≡ take 256 i)
  copy_done r' i' n to from h p u v y q e f =
      let y' : reachable (top r c 2) (top r c 0) r.shared.ends.here ≡ true = rw (v, p) at y in
      let q' : reachable (top r c 1) (top r c 0) r.shared.ends.here ≡ true = rw (u, p) at q in
      let e' : i' ≡ moved_up (top r c 0) (top r c 2) (top r c 1) i = rw (p, v, u) at e in
      let g = moved_views r i i' (top r c 0) (top r c 2) (top r c 1) li y' q' e' in (
        (λ again b t k s. copy_acts again b (seen r i c t k s) ∙ copied (seen r i c t k s) (has_cells_lem r i c t k s lc 3 h) (reach_is r i c t k s li (top r c 2) (top r c 0) true y') (reach_is r i c t k s li (top r c 1) (top r c 0) true q')
            ∙ ap quietly (sym (space_view r r' i i' c c t k s (deep r - 3) _ _ f.shared f.seat f.stack g))),
        g.below,
      )
