-- Laws of a list in which bytes are overwritten.
use Rattle.std.proofs.Common.{◌≡◌, ℕ, ◌+◌, ◌-◌, ◌/◌, ◌%◌, ◌<◌, ◌≤◌, List, [], ◌∷◌, ◌++◌, length, get_or, take, drop, set, sym, refl, ap, ◌∙◌, arith, w16}
use borrow.Rule.Slice.PartMut.{put_mid}
use lib.Seq.{take-append-add, drop-append-add}
use Rattle.std.proofs.lemmas.List.{append_assoc, length-append, length-take, length-take-le, length-drop, length_push, take-append-drop, take-append-le, take-take, take_at, drop-drop, drop_at, drop-append-le, drop-take, drop_more, set_at}
use Rattle.std.specs.Int.{to_le_bytes}
use Rattle.image.specs.Cells.{cell, set_cell}
use Rattle.image.specs.Writes.{overwritten}

-- new bytes behind those before a
front : (a : ℕ) (new xs : List ℕ) → a ≤ length xs → length (take a xs ++ new) ≡ a + length new
front a new xs h = length-append (take a xs) new ∙ ap (λ n. n + length new) (length-take-le a xs h)

split : (a : ℕ) (new xs : List ℕ) → overwritten a new xs ≡ (take a xs ++ new) ++ drop (a + length new) xs
unfolding overwritten
split a new xs = sym (append_assoc (take a xs) new (drop (a + length new) xs))

pub length-overwritten : (a : ℕ) (new xs : List ℕ) → a + length new ≤ length xs → length (overwritten a new xs) ≡ length xs
length-overwritten a new xs h =
    let l : length (take a xs ++ new) ≡ a + length new = front a new xs (omega arith) in
    let d = length-drop (a + length new) xs in
    let e = length-append (take a xs ++ new) (drop (a + length new) xs) in
    ap length (split a new xs) ∙ omega (arith, e, l, d)

-- WHAT LIES BEFORE, UP TO AND BEHIND THEM
pub take-before : (n a : ℕ) (new xs : List ℕ) → n ≤ a → a ≤ length xs → take n (overwritten a new xs) ≡ take n xs
unfolding overwritten
take-before n a new xs h l =
    let s : n ≤ length (take a xs) = simp length-take (omega arith) in
    take-append-le n (take a xs) (new ++ drop (a + length new) xs) s ∙ take-take n a xs h

pub take_upto : (a : ℕ) (new xs : List ℕ) → a ≤ length xs → take (a + length new) (overwritten a new xs) ≡ take a xs ++ new
take_upto a new xs l =
    ap (take (a + length new)) (split a new xs) ∙ take_at (take a xs ++ new) (drop (a + length new) xs) (a + length new) (front a new xs l)

pub drop_behind : (n a : ℕ) (new xs : List ℕ) → a + length new ≤ n → a ≤ length xs → drop n (overwritten a new xs) ≡ drop n xs
drop_behind n a new xs h l =
    let e : a + length new + (n - (a + length new)) ≡ n = omega arith in
    let d = ap (drop (a + length new)) (split a new xs) ∙ drop_at (take a xs ++ new) (drop (a + length new) xs) (a + length new) (front a new xs l) in
    ap (λ i. drop i (overwritten a new xs)) (sym e)
    ∙ sym (drop-drop (n - (a + length new)) (a + length new) (overwritten a new xs))
    ∙ ap (drop (n - (a + length new))) d
    ∙ drop-drop (n - (a + length new)) (a + length new) xs
    ∙ ap (λ i. drop i xs) e

-- OVERWRITING IN A PART
-- the part up to n, which holds them
pub take_within : (n a : ℕ) (new xs : List ℕ) → a + length new ≤ n → n ≤ length xs → take n (overwritten a new xs) ≡ overwritten a new (take n xs)
unfolding overwritten
take_within n a new xs h l =
    let k = a + length new in
    let s : a + length new ≤ length (take n xs) = simp length-take (omega arith) in
    let r : drop k (take n xs) ++ drop n xs ≡ drop k xs =
    sym (drop-append-le k (take n xs) (drop n xs) s) ∙ ap (drop k) (take-append-drop n xs) in
    let whole : overwritten a new (take n xs) ++ drop n xs ≡ overwritten a new xs =
    append_assoc (take a (take n xs)) (new ++ drop k (take n xs)) (drop n xs)
    ∙ ap (λ (p : List ℕ). p ++ ((new ++ drop k (take n xs)) ++ drop n xs)) (take-take a n xs (omega arith))
    ∙ ap (λ (p : List ℕ). take a xs ++ p) (append_assoc new (drop k (take n xs)) (drop n xs) ∙ ap (λ (p : List ℕ). new ++ p) r) in
    ap (take n) (sym whole)
    ∙ take_at (overwritten a new (take n xs)) (drop n xs) n (length-overwritten a new (take n xs) s ∙ length-take-le n xs l)

-- the part from n on, which holds them
pub drop_within : (n a : ℕ) (new xs : List ℕ) → n ≤ a → a ≤ length xs → drop n (overwritten a new xs) ≡ overwritten (a - n) new (drop n xs)
unfolding overwritten
drop_within n a new xs h l =
    let s : n ≤ length (take a xs) = simp length-take (omega arith) in
    let e : n + (a - n) ≡ a = omega arith in
    let f : n + (a - n + length new) ≡ a + length new = omega arith in
    drop-append-le n (take a xs) (new ++ drop (a + length new) xs) s
    ∙ ap (λ (p : List ℕ). p ++ (new ++ drop (a + length new) xs)) (ap (λ i. drop n (take i xs)) (sym e) ∙ drop-take n (a - n) xs)
    ∙ ap (λ (p : List ℕ). take (a - n) (drop n xs) ++ (new ++ p)) (ap (λ i. drop i xs) (sym f) ∙ sym (drop-drop (a - n + length new) n xs))

-- behind a front of length n
pub behind_front : (n a : ℕ) (new ps xs : List ℕ) → length ps ≡ n → n ≤ a → overwritten a new (ps ++ xs) ≡ ps ++ overwritten (a - n) new xs
unfolding overwritten
behind_front n a new ps xs l h =
    let e : length ps + (a - n) ≡ a = omega arith in
    let f : length ps + (a - n + length new) ≡ a + length new = omega arith in
    ap (λ i. take i (ps ++ xs) ++ (new ++ drop (a + length new) (ps ++ xs))) (sym e)
    ∙ ap (λ (p : List ℕ). p ++ (new ++ drop (a + length new) (ps ++ xs))) (take-append-add ps xs (a - n))
    ∙ ap (λ i. (ps ++ take (a - n) xs) ++ (new ++ drop i (ps ++ xs))) (sym f)
    ∙ ap (λ (p : List ℕ). (ps ++ take (a - n) xs) ++ (new ++ p)) (drop-append-add ps xs (a - n + length new))
    ∙ append_assoc ps (take (a - n) xs) (new ++ drop (a - n + length new) xs)

-- ONE BYTE MORE
pub overwritten_none : (a : ℕ) (xs : List ℕ) → overwritten a [] xs ≡ xs
unfolding overwritten
overwritten_none a xs = let e : a + 0 ≡ a = omega arith in ap (λ i. take a xs ++ drop i xs) e ∙ take-append-drop a xs

pub overwritten_more : (a : ℕ) (new xs : List ℕ) (i v : ℕ) → i ≡ a + length new → i < length xs → set (overwritten a new xs) i v ≡ overwritten a (new ++ v ∷ []) xs
unfolding overwritten
overwritten_more a new xs i v e h =
    let n : a + length (new ++ v ∷ []) ≡ a + length new + 1 = omega (arith, length_push new v) in
    let m = drop_more xs (a + length new) 0 (omega arith) in
    ap (λ (p : List ℕ). set p i v) (split a new xs ∙ ap (λ (p : List ℕ). (take a xs ++ new) ++ p) m)
    ∙ set_at (take a xs ++ new) (get_or xs (a + length new) 0) (drop (a + length new + 1) xs) v i (front a new xs (omega arith) ∙ sym e)
    ∙ ap (λ j. (take a xs ++ new) ++ v ∷ drop j xs) (sym n)
    ∙ append_assoc (take a xs) new (v ∷ drop (a + length (new ++ v ∷ [])) xs)
    ∙ ap (λ (p : List ℕ). take a xs ++ p) (sym (append_assoc new (v ∷ []) (drop (a + length (new ++ v ∷ [])) xs)))

-- a cell written byte by byte
pub overwritten_cell : (a : ℕ) (xs : List ℕ) (x : ℕ) → a + 1 < length xs → set_cell xs a x ≡ overwritten a (cell x) xs
unfolding set_cell cell
overwritten_cell a xs x h =
    let one : set xs a (x % 256) ≡ overwritten a (x % 256 ∷ []) xs =
    ap (λ (p : List ℕ). set p a (x % 256)) (sym (overwritten_none a xs)) ∙ overwritten_more a [] xs a (x % 256) (omega arith) (omega arith) in
    ap (λ (p : List ℕ). set p (a + 1) (x / 256)) one ∙ overwritten_more a (x % 256 ∷ []) xs (a + 1) (x / 256) refl h

-- a part that was written through a borrow
pub overwritten_part : (a k : ℕ) (xs last new : List ℕ) → last ≡ new → k ≡ length new → put_mid a k xs last ≡ overwritten a new xs
unfolding overwritten
overwritten_part a k xs last new e n =
    ap (λ i. take a xs ++ (last ++ drop i (drop a xs))) n
    ∙ ap (λ (p : List ℕ). take a xs ++ (p ++ drop (length new) (drop a xs))) e
    ∙ ap (λ (p : List ℕ). take a xs ++ (new ++ p)) (drop-drop (length new) a xs)

-- the bytes that a cell is written as are the cell
pub cell_bytes : (x : ℕ) → x < 65536 → to_le_bytes w16 x ≡ cell x
unfolding cell
cell_bytes x h = let e : x / 256 % 256 ≡ x / 256 = omega arith in ap (λ high. x % 256 ∷ high ∷ []) e
