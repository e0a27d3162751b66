-- Laws of bytes moved up.
use Rattle.std.proofs.Common.{◌≡◌, ℕ, zero, suc, ◌+◌, ◌-◌, ◌<◌, ◌≤◌, ◌≢◌, ◌⊎◌, List, [], ◌∷◌, length, get_or, set, sym, refl, ap, ◌∙◌, ⊎_elim, eq-or-lt_of_le, arith}
use Rattle.std.proofs.lemmas.List.{length-set, get_or-set_same, get_or-set_other}
use Rattle.image.specs.Writes.{overwritten, moved_up, Moved}
use Rattle.image.specs.Views.{low_of, line_of, high_of, MovedInViews}
use Rattle.image.proofs.Overwriting.{overwritten_none, overwritten_more}
use Rattle.image.proofs.Laws.{low_kept, high_within, line_kept, get_or_high, length_high}

-- one byte set is one byte overwritten
pub overwritten_byte : (a : ℕ) (xs : List ℕ) (v : ℕ) → a < length xs → set xs a v ≡ overwritten a (v ∷ []) xs
overwritten_byte a xs v h = ap (λ (p : List ℕ). set p a v) (sym (overwritten_none a xs)) ∙ overwritten_more a [] xs a v (omega arith) h

pub length_moved : (n from to : ℕ) (xs : List ℕ) → length (moved_up n from to xs) ≡ length xs
unfolding moved_up
length_moved zero from to xs = refl
length_moved (suc n) from to xs = length-set (moved_up n from to xs) (to + n) (get_or (moved_up n from to xs) (from + n) 0) ∙ length_moved n from to xs

-- one byte more moved
module _ (n from to : ℕ) (xs before : List ℕ) (old : Moved n from to xs before) (fits : to + n < length xs) where
  more_moved : List ℕ
  more_moved = set before (to + n) (get_or before (from + n) 0)

  other : (a : ℕ) → a ≢ to + n → get_or more_moved a 0 ≡ get_or before a 0
  unfolding more_moved
  other a ne = get_or-set_other before (to + n) a (get_or before (from + n) 0) 0 ne

  at_last : (i : ℕ) → i ≡ n → get_or more_moved (to + i) 0 ≡ get_or before (from + n) 0
  unfolding more_moved
  at_last i e =
      let s : to + n < length before = omega (arith, old.size) in
      ap (λ k. get_or more_moved (to + k) 0) e ∙ get_or-set_same before (to + n) (get_or before (from + n) 0) 0 s

  last_or : (i : ℕ) → i < suc n → (i ≡ n) ⊎ (i < n)
  last_or i b = eq-or-lt_of_le (omega arith)

  source_is : (i : ℕ) → i ≡ n → get_or xs (from + n) 0 ≡ get_or xs (from + i) 0
  source_is i e = ap (λ k. get_or xs (from + k) 0) (sym e)

  moved_more : Moved (suc n) from to xs more_moved
  unfolding more_moved
  moved_more = record {
    size = length-set before (to + n) (get_or before (from + n) 0) ∙ old.size;
    below = λ a b. other a (omega arith) ∙ old.below a b;
    above = λ a b. other a (omega arith) ∙ old.above a (omega arith);
    fresh = λ i b u. ⊎_elim (λ e. at_last i e ∙ old.below (from + n) (omega arith) ∙ source_is i e) (λ l. other (to + i) (omega arith) ∙ old.fresh i l u) (last_or i b);
    behind = λ i b u. ⊎_elim (λ e. at_last i e ∙ old.above (from + n) (omega arith) ∙ source_is i e) (λ l. other (to + i) (omega arith) ∙ old.behind i l u) (last_or i b);
    again = λ i b u v. ⊎_elim (λ e. at_last i e ∙ sym (other (from + n) (omega arith)) ∙ ap (λ k. get_or more_moved (from + k) 0) (sym e)) (λ l. other (to + i) (omega arith) ∙ old.again i l u v ∙ sym (other (from + i) (omega arith))) (last_or i b);
  }

pub moved_stands : (n from to : ℕ) (xs : List ℕ) → to + n ≤ length xs → Moved n from to xs (moved_up n from to xs)
unfolding moved_up more_moved
moved_stands zero from to xs h = record {
  size = refl;
  below = λ a b. refl;
  above = λ a b. refl;
  fresh = λ i b u. absurd (omega arith);
  behind = λ i b u. absurd (omega arith);
  again = λ i b u v. absurd (omega arith);
}
moved_stands (suc n) from to xs h = moved_more n from to xs (moved_up n from to xs) (moved_stands n from to xs (omega arith)) (omega arith)

-- one byte more, in the dictionary, in reach and in the line
pub low_moved : (n from to dp : ℕ) (xs : List ℕ) → to + n ≤ length xs → dp ≤ to → low_of dp (moved_up n from to xs) ≡ low_of dp xs
unfolding moved_up
low_moved zero from to dp xs h b = refl
low_moved (suc n) from to dp xs h b =
    let s : to + n < length (moved_up n from to xs) = omega (arith, length_moved n from to xs) in
    let v = get_or (moved_up n from to xs) (from + n) 0 in
    ap (low_of dp) (overwritten_byte (to + n) (moved_up n from to xs) v s)
    ∙ low_kept (to + n) (v ∷ []) (moved_up n from to xs) (omega arith) dp (omega arith)
    ∙ low_moved n from to dp xs (omega arith) b

pub line_moved : (n from to : ℕ) (xs : List ℕ) → to + n ≤ length xs → 256 ≤ to → line_of (moved_up n from to xs) ≡ line_of xs
unfolding moved_up
line_moved zero from to xs h b = refl
line_moved (suc n) from to xs h b =
    let s : to + n < length (moved_up n from to xs) = omega (arith, length_moved n from to xs) in
    let v = get_or (moved_up n from to xs) (from + n) 0 in
    ap line_of (overwritten_byte (to + n) (moved_up n from to xs) v s)
    ∙ line_kept (to + n) (v ∷ []) (moved_up n from to xs) (omega arith) (omega arith)
    ∙ line_moved n from to xs (omega arith) b

pub high_moved : (n from to here : ℕ) (xs : List ℕ) → 32768 ≤ from → from + n ≤ here → 32768 ≤ to → to + n ≤ here → here ≤ length xs → high_of here (moved_up n from to xs) ≡ moved_up n (from - 32768) (to - 32768) (high_of here xs)
unfolding moved_up
high_moved zero from to here xs b h c k l = refl
high_moved (suc n) from to here xs b h c k l =
    let m : length (moved_up n from to xs) ≡ length xs = length_moved n from to xs in
    let v = get_or (moved_up n from to xs) (from + n) 0 in
    let e : from + n - 32768 ≡ from - 32768 + n = omega arith in
    let f : to + n - 32768 ≡ to - 32768 + n = omega arith in
    let r = high_moved n from to here xs b (omega arith) c (omega arith) l in
    let g = get_or_high here (moved_up n from to xs) (from + n) (omega arith) (omega arith) in
    let s : to + n - 32768 < length (high_of here (moved_up n from to xs)) = omega (arith, length_high here (moved_up n from to xs) (omega arith)) in
    let w : v ≡ get_or (moved_up n (from - 32768) (to - 32768) (high_of here xs)) (from - 32768 + n) 0 =
    sym g ∙ ap (λ (p : List ℕ). get_or p (from + n - 32768) 0) r ∙ ap (λ i. get_or (moved_up n (from - 32768) (to - 32768) (high_of here xs)) i 0) e in
    ap (high_of here) (overwritten_byte (to + n) (moved_up n from to xs) v (omega arith))
    ∙ high_within (to + n) (v ∷ []) (moved_up n from to xs) (omega arith) here (omega arith) (omega arith) (omega arith)
    ∙ sym (overwritten_byte (to + n - 32768) (high_of here (moved_up n from to xs)) v s)
    ∙ ap (λ i. set (high_of here (moved_up n from to xs)) i v) f
    ∙ ap (λ (p : List ℕ). set p (to - 32768 + n) v) r
    ∙ ap (set (moved_up n (from - 32768) (to - 32768) (high_of here xs)) (to - 32768 + n)) w

pub moved_views : (n from to : ℕ) (xs image : List ℕ) → to + n ≤ length xs → image ≡ moved_up n from to xs → MovedInViews n from to xs image
moved_views n from to xs image h e = record {
  low_kept = λ dp b. ap (low_of dp) e ∙ low_moved n from to dp xs h b;
  high_within = λ here b u c k l. ap (high_of here) e ∙ high_moved n from to here xs b u c k l;
  line_kept = λ b. ap line_of e ∙ line_moved n from to xs h b;
}
