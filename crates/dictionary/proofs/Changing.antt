-- Laws of bytes that are changed in their place.
use Rattle.std.proofs.Common.{◌≡◌, ℕ, ◌+◌, ◌-◌, ◌*◌, ◌/◌, ◌%◌, ◌<◌, ◌≤◌, List, [], ◌∷◌, ◌++◌, length, take, drop, set, sym, refl, ap, ◌∙◌, arith}
use Rattle.std.proofs.lemmas.List.{length-replicate, drop-take, take-take}
use lib.Seq.{take-append-add}
use Rattle.std.specs.Int.Bits.{bit_or, bit_and, or_add_and}
use Rattle.std.proofs.lemmas.Nat.Bits.{and_pow}
use Rattle.std.proofs.lemmas.Bool.Decides.{nat_tests}
use Rattle.image.specs.Cells.{cell, set_cell, zeros}
use Rattle.image.specs.Writes.{overwritten}
use Rattle.image.specs.Views.{low_of, CarriedByViews}
use Rattle.image.proofs.Laws.{length_low, low_within}
use Rattle.image.proofs.Overwriting.{overwritten_none, overwritten_more, overwritten_cell}
use Rattle.dictionary.specs.Dict.{Dict, marked, with_low}

pub length-cell : (x : ℕ) → length (cell x) ≡ 2
unfolding cell
length-cell x = refl

pub low_only : (D : Dict) (low new : List ℕ) → low ≡ new → with_low low D ≡ with_low new D
low_only D low new e = ap (λ l. with_low l D) e

-- a cell written in the dictionary
pub cell_in : (dp : ℕ) (old image : List ℕ) (a x : ℕ) → 256 ≤ a → a + 1 < dp → dp ≤ length old → CarriedByViews a (cell x) old image → low_of dp image ≡ set_cell (low_of dp old) a x
cell_in dp old image a x b h l v =
    let n = length-cell x in
    let m = length_low dp old (omega arith) l in
    v.low_within dp b (omega arith) l ∙ sym (overwritten_cell a (low_of dp old) x (omega arith))

-- a byte
byte_written : (xs : List ℕ) (a v : ℕ) → a < length xs → set xs a v ≡ overwritten a (v ∷ []) xs
byte_written xs a v h = ap (λ (p : List ℕ). set p a v) (sym (overwritten_none a xs)) ∙ overwritten_more a [] xs a v (omega arith) h

pub byte_in : (dp : ℕ) (xs : List ℕ) (a v : ℕ) → 256 ≤ a → a < dp → dp ≤ length xs → low_of dp (set xs a v) ≡ set (low_of dp xs) a v
byte_in dp xs a v b h l =
    let m = length_low dp xs (omega arith) l in
    ap (low_of dp) (byte_written xs a v (omega arith)) ∙ (low_within a (v ∷ []) xs (omega arith) dp b (omega arith) l ∙ sym (byte_written (low_of dp xs) a v (omega arith)))

pub set-written : (xs : List ℕ) (a v : ℕ) → a < length xs → set xs a v ≡ overwritten a (v ∷ []) xs
set-written = byte_written

-- a dictionary that ends earlier
pub low_cut : (end dp : ℕ) (image : List ℕ) → 256 ≤ end → end ≤ dp → dp ≤ length image → low_of end image ≡ take end (low_of dp image)
unfolding low_of
low_cut end dp image b h l =
    let e : 256 + (end - 256) ≡ end = omega arith in
    let z = length-replicate {A = ℕ} 256 0 in
    let t = take-append-add (zeros 256) (drop 256 (take dp image)) (end - 256) in
    let u : take (length (zeros 256) + (end - 256)) (zeros 256 ++ drop 256 (take dp image)) ≡ take end (zeros 256 ++ drop 256 (take dp image)) = ap (λ n. take n (zeros 256 ++ drop 256 (take dp image))) (omega (arith, z)) in
    ap (λ (p : List ℕ). zeros 256 ++ p) (ap (λ n. drop 256 (take n image)) (sym e) ∙ (drop-take 256 (end - 256) image ∙ sym (cut ∙ ap (take (end - 256)) refl)))
    ∙ (sym t ∙ u)
  where
    cut : take (end - 256) (drop 256 (take dp image)) ≡ take (end - 256) (drop 256 image)
    cut = let f : 256 + (dp - 256) ≡ dp = omega arith in
        ap (λ n. take (end - 256) (drop 256 (take n image))) (sym f) ∙ (ap (take (end - 256)) (drop-take 256 (dp - 256) image) ∙ take-take (end - 256) (dp - 256) (drop 256 image) (omega arith))

-- the bit of an immediate entry
pub or_is_marked : (count : ℕ) → bit_or count 64 ≡ marked count
or_is_marked count = let a = or_add_and count 64 in let b : bit_and count 64 ≡ count / 64 % 2 * 64 = and_pow count 6 in grind (arith, nat_tests)
