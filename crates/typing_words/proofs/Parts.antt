-- What is typed, read from the image or made on the spot.
use Rattle.std.proofs.Common.{◌≡◌, ℕ, ◌+◌, ◌-◌, ◌<◌, ◌≤◌, true, ◌⊎◌, List, [], ◌∷◌, ◌++◌, length, take, drop, replicate, sym, ap, ◌∙◌, inl, inr, arith, drop-cons}
use lib.Seq.{take-append-add, drop-append-add}
use Rattle.std.proofs.lemmas.List.{get_or-replicate, take-take, drop-take, drop-drop}
use Rattle.image.specs.Cells.{zeros}
use Rattle.image.specs.Views.{low_of, high_of}
use Rattle.space_words.specs.Numbers.{reachable}
use Rattle.space_words.proofs.Written.{reached}

-- a part of what was cut off at an end
cut_part : (xs : List ℕ) (end a n : ℕ) → a + n ≤ end → take n (drop a (take end xs)) ≡ take n (drop a xs)
cut_part xs end a n h =
    let e : a + (end - a) ≡ end = omega arith in
    ap (λ y. take n (drop a (take y xs))) (sym e) ∙ ap (take n) (drop-take a (end - a) xs) ∙ take-take n (end - a) (drop a xs) (omega arith)

pub high_part : (here a n : ℕ) (xs : List ℕ) → reachable a n here ≡ true → take n (drop (a - 32768) (high_of here xs)) ≡ take n (drop a xs)
unfolding high_of
high_part here a n xs p = at (reached a n here p)
  where
    at : (n ≡ 0) ⊎ ((32768 ≤ a) × (a + n ≤ here)) → take n (drop (a - 32768) (high_of here xs)) ≡ take n (drop a xs)
    at (inl q) = rw q
    at (inr q) =
        let e : 32768 + (a - 32768) ≡ a = omega (arith, q.0) in
        cut_part (drop 32768 xs) (here - 32768) (a - 32768) n (omega (arith, q.0, q.1)) ∙ ap (take n) (drop-drop (a - 32768) 32768 xs) ∙ ap (λ y. take n (drop y xs)) e

pub low_part : (dp a n : ℕ) (xs : List ℕ) → 256 ≤ a → a + n ≤ dp → take n (drop a (low_of dp xs)) ≡ take n (drop a xs)
unfolding low_of
low_part dp a n xs b h =
    let e : 256 + (a - 256) ≡ a = omega arith in
    ap (λ y. take n (drop y (zeros 256 ++ drop 256 (take dp xs)))) (sym e)
    ∙ ap (take n) (drop-append-add (zeros 256) (drop 256 (take dp xs)) (a - 256))
    ∙ ap (take n) (drop-drop (a - 256) 256 (take dp xs))
    ∙ ap (λ y. take n (drop y (take dp xs))) e
    ∙ cut_part xs dp a n h

-- the part from f to f + k, where f is a and k is n
pub part_is : (xs : List ℕ) (f k a n : ℕ) → f ≡ a → k ≡ n → take (f + k - f) (drop f xs) ≡ take n (drop a xs)
part_is xs f k a n p q =
    let e : f + k - f ≡ n = omega arith in
    ap (λ y. take y (drop f xs)) e ∙ ap (λ y. take n (drop y xs)) p

-- a numeral in the front of 18 blanks, with one of them behind it
blank : (w : ℕ) → w ≤ 17 → take {A = ℕ} 1 (drop w (replicate 18 32)) ≡ 32 ∷ []
blank w h =
    let l : w < 18 = omega arith in
    ap (take 1) (drop-cons (replicate 18 32) w 0 l) ∙ ap (λ y. y ∷ []) (get_or-replicate 18 w 32 0 l)

pub numeral_typed : (text ys z : List ℕ) (w : ℕ) → w ≡ length text → ys ≡ text → z ≡ replicate 18 32 → w ≤ 17 → take (w + 1) (ys ++ drop w z) ≡ text ++ (32 ∷ [])
numeral_typed text ys z w e p q b =
    ap (λ (y : List ℕ). take (w + 1) (y ++ drop w z)) p
    ∙ ap (λ (y : List ℕ). take (w + 1) (text ++ drop w y)) q
    ∙ ap (λ y. take (y + 1) (text ++ drop w (replicate 18 32))) e
    ∙ take-append-add text (drop w (replicate 18 32)) 1
    ∙ ap (λ (y : List ℕ). text ++ y) (blank w b)
