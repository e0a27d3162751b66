-- Laws of the views: what they hold, and how a write is carried by them.
use Rattle.std.proofs.Common.{◌≡◌, ℕ, ◌+◌, ◌-◌, ◌<◌, ◌≤◌, List, ◌++◌, length, get_or, take, drop, replicate, sym, refl, ap, ◌∙◌, arith, w16}
use Rattle.std.proofs.lemmas.List.{append_assoc, length-append, length-replicate, length-take, length-take-le, length-drop, take_at, drop_at, drop-append-le, drop-take, get_or-take, get_or-drop, get_or-append_right}
use borrow.Rule.Slice.PartMut.{put_mid}
use Rattle.std.specs.Int.{to_le_bytes}
use Rattle.image.specs.Cells.{cell, cell_at, set_cell, zeros}
use Rattle.image.specs.Writes.{overwritten}
use Rattle.image.specs.Views.{low_of, line_of, high_of, SeenInViews, CarriedByViews}
use Rattle.image.proofs.Overwriting.{take-before, take_upto, take_within, drop_behind, drop_within, behind_front, cell_bytes, overwritten_cell, overwritten_part}

-- LENGTHS
pub length_low : (dp : ℕ) (xs : List ℕ) → 256 ≤ dp → dp ≤ length xs → length (low_of dp xs) ≡ dp
unfolding low_of
length_low dp xs b h =
    length-append (zeros 256) (drop 256 (take dp xs))
    ∙ ap (λ n. 256 + n) (length-drop 256 (take dp xs) ∙ ap (λ n. n - 256) (length-take-le dp xs h))
    ∙ omega arith

pub length_high : (here : ℕ) (xs : List ℕ) → here ≤ length xs → length (high_of here xs) ≡ here - 32768
unfolding high_of
length_high here xs h = length-take-le (here - 32768) (drop 32768 xs) (simp length-drop (omega arith))

-- READS
pub get_or_low : (dp : ℕ) (xs : List ℕ) (a : ℕ) → 256 ≤ a → a < dp → get_or (low_of dp xs) a 0 ≡ get_or xs a 0
unfolding low_of
get_or_low dp xs a b h =
    let e : 256 + (a - 256) ≡ a = omega arith in
    get_or-append_right (zeros 256) (drop 256 (take dp xs)) 256 a 0 refl b
    ∙ get_or-drop 256 (take dp xs) (a - 256) 0 ∙ ap (λ i. get_or (take dp xs) i 0) e ∙ get_or-take dp xs a 0 h

pub get_or_high : (here : ℕ) (xs : List ℕ) (a : ℕ) → 32768 ≤ a → a < here → get_or (high_of here xs) (a - 32768) 0 ≡ get_or xs a 0
unfolding high_of
get_or_high here xs a b h =
    let e : 32768 + (a - 32768) ≡ a = omega arith in
    get_or-take (here - 32768) (drop 32768 xs) (a - 32768) 0 (omega arith) ∙ get_or-drop 32768 xs (a - 32768) 0 ∙ ap (λ i. get_or xs i 0) e

pub cell_low : (dp : ℕ) (xs : List ℕ) (a : ℕ) → 256 ≤ a → a + 1 < dp → cell_at (low_of dp xs) a ≡ cell_at xs a
unfolding cell_at
cell_low dp xs a b h =
    let p = get_or_low dp xs a b (omega arith) in
    let q = get_or_low dp xs (a + 1) (omega arith) h in
    cc

pub cell_high : (here : ℕ) (xs : List ℕ) (a : ℕ) → 32768 ≤ a → a + 1 < here → cell_at (high_of here xs) (a - 32768) ≡ cell_at xs a
unfolding cell_at
cell_high here xs a b h =
    let p = get_or_high here xs a b (omega arith) in
    let q = get_or_high here xs (a + 1) (omega arith) h in
    let e : a + 1 - 32768 ≡ a - 32768 + 1 = omega arith in
    cc

pub seen : (xs : List ℕ) (a x : ℕ) → x ≡ cell_at xs a → SeenInViews xs a x
seen xs a x e = record {
  in_low = λ dp b h. cell_low dp xs a b h ∙ sym e;
  in_high = λ here b h. cell_high here xs a b h ∙ sym e;
}

-- WRITES, each law at bytes that are overwritten
module _ (a : ℕ) (new xs : List ℕ) (fits : a + length new ≤ length xs) where
  pub low_kept : (dp : ℕ) → dp ≤ a → low_of dp (overwritten a new xs) ≡ low_of dp xs
  unfolding low_of
  low_kept dp h = ap (λ (p : List ℕ). zeros 256 ++ drop 256 p) (take-before dp a new xs h (omega arith))

  pub low_within : (dp : ℕ) → 256 ≤ a → a + length new ≤ dp → dp ≤ length xs → low_of dp (overwritten a new xs) ≡ overwritten a new (low_of dp xs)
  unfolding low_of
  low_within dp b h l =
      let s : a ≤ length (take dp xs) = simp length-take (omega arith) in
      ap (λ (p : List ℕ). zeros 256 ++ drop 256 p) (take_within dp a new xs h l)
      ∙ ap (λ (p : List ℕ). zeros 256 ++ p) (drop_within 256 a new (take dp xs) b s)
      ∙ sym (behind_front 256 a new (zeros 256) (drop 256 (take dp xs)) refl b)

  pub low_grown : 256 ≤ a → low_of (a + length new) (overwritten a new xs) ≡ low_of a xs ++ new
  unfolding low_of
  low_grown b =
      let s : 256 ≤ length (take a xs) = simp length-take (omega arith) in
      ap (λ (p : List ℕ). zeros 256 ++ drop 256 p) (take_upto a new xs (omega arith))
      ∙ ap (λ (p : List ℕ). zeros 256 ++ p) (drop-append-le 256 (take a xs) new s)
      ∙ sym (append_assoc (zeros 256) (drop 256 (take a xs)) new)

  pub low_above : (dp : ℕ) → 256 ≤ dp → a + length new ≤ 256 → low_of dp (overwritten a new xs) ≡ low_of dp xs
  unfolding low_of
  low_above dp b h =
      let e : 256 + (dp - 256) ≡ dp = omega arith in
      ap (λ i. zeros 256 ++ drop 256 (take i (overwritten a new xs))) (sym e)
      ∙ ap (λ (p : List ℕ). zeros 256 ++ p) (drop-take 256 (dp - 256) (overwritten a new xs))
      ∙ ap (λ (p : List ℕ). zeros 256 ++ take (dp - 256) p) (drop_behind 256 a new xs h (omega arith))
      ∙ ap (λ (p : List ℕ). zeros 256 ++ p) (sym (drop-take 256 (dp - 256) xs))
      ∙ ap (λ i. zeros 256 ++ drop 256 (take i xs)) e

  pub high_kept : (here : ℕ) → 32768 ≤ a → here ≤ a → high_of here (overwritten a new xs) ≡ high_of here xs
  unfolding high_of
  high_kept here b h =
      ap (take (here - 32768)) (drop_within 32768 a new xs b (omega arith))
      ∙ take-before (here - 32768) (a - 32768) new (drop 32768 xs) (omega arith) (simp length-drop (omega arith))

  pub high_within : (here : ℕ) → 32768 ≤ a → a + length new ≤ here → here ≤ length xs → high_of here (overwritten a new xs) ≡ overwritten (a - 32768) new (high_of here xs)
  unfolding high_of
  high_within here b h l =
      ap (take (here - 32768)) (drop_within 32768 a new xs b (omega arith))
      ∙ take_within (here - 32768) (a - 32768) new (drop 32768 xs) (omega arith) (simp length-drop (omega arith))

  pub high_grown : 32768 ≤ a → high_of (a + length new) (overwritten a new xs) ≡ high_of a xs ++ new
  unfolding high_of
  high_grown b =
      let e : a + length new - 32768 ≡ a - 32768 + length new = omega arith in
      ap (take (a + length new - 32768)) (drop_within 32768 a new xs b (omega arith))
      ∙ ap (λ i. take i (overwritten (a - 32768) new (drop 32768 xs))) e
      ∙ take_upto (a - 32768) new (drop 32768 xs) (simp length-drop (omega arith))

  pub high_above : (here : ℕ) → a + length new ≤ 32768 → high_of here (overwritten a new xs) ≡ high_of here xs
  unfolding high_of
  high_above here h = ap (take (here - 32768)) (drop_behind 32768 a new xs h (omega arith))

  pub line_kept : 256 ≤ a → line_of (overwritten a new xs) ≡ line_of xs
  unfolding line_of
  line_kept b =
      ap (take 128) (drop_within 128 a new xs (omega arith) (omega arith))
      ∙ take-before 128 (a - 128) new (drop 128 xs) (omega arith) (simp length-drop (omega arith))

  pub line_written : a ≡ 128 → length new ≡ 128 → line_of (overwritten a new xs) ≡ new
  unfolding line_of overwritten
  line_written e l =
      let s : length (take a xs) ≡ 128 = length-take-le a xs (omega arith) ∙ e in
      ap (take 128) (drop_at (take a xs) (new ++ drop (a + length new) xs) 128 s) ∙ take_at new (drop (a + length new) xs) 128 l

  pub carried : (image : List ℕ) → image ≡ overwritten a new xs → CarriedByViews a new xs image
  carried image e = record {
    low_kept = λ dp h. ap (low_of dp) e ∙ low_kept dp h;
    low_within = λ dp b h l. ap (low_of dp) e ∙ low_within dp b h l;
    low_grown = λ b. ap (low_of (a + length new)) e ∙ low_grown b;
    low_above = λ dp b h. ap (low_of dp) e ∙ low_above dp b h;
    high_kept = λ here b h. ap (high_of here) e ∙ high_kept here b h;
    high_within = λ here b h l. ap (high_of here) e ∙ high_within here b h l;
    high_grown = λ b. ap (high_of (a + length new)) e ∙ high_grown b;
    high_above = λ here h. ap (high_of here) e ∙ high_above here h;
    line_kept = λ b. ap line_of e ∙ line_kept b;
    line_written = λ p l. ap line_of e ∙ line_written p l;
  }

-- a part that was written through a borrow
pub carried_part : (a k : ℕ) (xs last new : List ℕ) → last ≡ new → k ≡ length new → a + length new ≤ length xs → CarriedByViews a new xs (put_mid a k xs last)
carried_part a k xs last new e n h = carried a new xs h _ (overwritten_part a k xs last new e n)

-- a part filled with one value
pub carried_fill : (a k n x : ℕ) (xs last : List ℕ) → last ≡ replicate (length (take k (drop a xs))) x → k ≡ n → a + n ≤ length xs → CarriedByViews a (replicate n x) xs (put_mid a k xs last)
carried_fill a k n x xs last e m h =
    let l : length (take k (drop a xs)) ≡ n = simp (length-take, length-drop) (omega arith) in
    carried_part a k xs last (replicate n x) (e ∙ ap (λ j. replicate j x) l) (m ∙ sym (length-replicate n x)) (omega (arith, length-replicate n x))

-- a cell written as the library's bytes
module _ (a k : ℕ) (xs last : List ℕ) (x : ℕ) (e : last ≡ to_le_bytes w16 x) (h : x < 65536) (two : k ≡ 2) where
  pub cell_put : put_mid a k xs last ≡ overwritten a (cell x) xs
  unfolding cell
  cell_put = overwritten_part a k xs last (cell x) (e ∙ cell_bytes x h) two

  pub cell_set : a + 1 < length xs → put_mid a k xs last ≡ set_cell xs a x
  cell_set l = cell_put ∙ sym (overwritten_cell a xs x l)

  pub carried_cell : a + 1 < length xs → CarriedByViews a (cell x) xs (put_mid a k xs last)
  unfolding cell
  carried_cell l = carried a (cell x) xs (omega arith) _ cell_put
