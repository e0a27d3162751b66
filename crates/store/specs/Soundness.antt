-- A card's blocks are as many as it counts, at most 65,535, and each has 1,024 bytes: a store hands this proof on.
use Rattle.std.specs.Prelude.{◌≡◌, ℕ, zero, suc, ◌+◌, ◌*◌, ◌/◌, ◌%◌, ◌<◌, ◌≤◌, Bool, true, false, cond, ◌&&◌, List, [], length, take, drop, ◌==◌, nat_le, slice_index_or, refl}
use Rattle.std.proofs.Common.{sym, ap, ◌∙◌, arith, div-mul-le_self, leb-true}
use Rattle.std.proofs.lemmas.List.{drop-drop, length-take, length-drop}
use Rattle.store.specs.Meaning.{Sound}
use Rattle.store.specs.Cards.{blocks_of, card_of, memory_blocks}

pub length-blocks_of : (k : ℕ) (bytes : List ℕ) → length (blocks_of k bytes) ≡ k
unfolding blocks_of
length-blocks_of zero bytes = refl
length-blocks_of (suc k) bytes = ap suc (length-blocks_of k (drop 1024 bytes))

pub suc_times : (m : ℕ) → suc m * 1024 ≡ 1024 + m * 1024
suc_times m = omega arith

-- block n begins at byte 1024 · n
pub get_or-blocks_of : (k n : ℕ) (bytes : List ℕ) → n < k → slice_index_or (blocks_of k bytes) n [] ≡ take 1024 (drop (n * 1024) bytes)
unfolding blocks_of
get_or-blocks_of zero n bytes h = absurd (omega arith)
get_or-blocks_of (suc k) zero bytes h = refl
get_or-blocks_of (suc k) (suc n) bytes h =
    let h' : n < k = omega arith in
    get_or-blocks_of k n (drop 1024 bytes) h' ∙ ap (take 1024) (drop-drop (n * 1024) 1024 bytes ∙ ap (λ i. drop i bytes) (sym (suc_times n)))

-- the blocks of a card lie within its bytes, and are few
pub blocks_within : (bytes : List ℕ) → (memory_blocks bytes * 1024 ≤ length bytes) × (memory_blocks bytes ≤ 65535)
blocks_within bytes =
    let n : ℕ = length bytes in
    let d : n / 1024 * 1024 ≤ n = div-mul-le_self n 1024 in
    let P : ℕ → Type 0 = λ k. (k * 1024 ≤ n) × (k ≤ 65535) in
    let few : P (cond (nat_le (n / 1024) 65535) (n / 1024) 0) =
    (elim (nat_le (n / 1024) 65535) as (λ b. nat_le (n / 1024) 65535 ≡ b → P (cond b (n / 1024) 0))
    [ true ↦ (λ e. (d, omega (arith, leb-true (n / 1024) 65535 e))) | false ↦ (λ e. (omega arith, omega arith)) ] refl) in
    elim (n % 1024 == 0) as (λ b. P (cond (b && nat_le (n / 1024) 65535) (n / 1024) 0))
    [ true ↦ few | false ↦ (omega arith, omega arith) ]

pub card_sound : (w : Bool) (bytes : List ℕ) → Sound (card_of w (memory_blocks bytes) bytes)
card_sound w bytes = record {
  few = (blocks_within bytes).1;
  counted = length-blocks_of (memory_blocks bytes) bytes;
  whole = λ k h.
      let w : memory_blocks bytes * 1024 ≤ length bytes = (blocks_within bytes).0 in
      let w' : k * 1024 + 1024 ≤ length bytes = omega arith in
      ap length (get_or-blocks_of (memory_blocks bytes) k bytes h) ∙ simp (length-take, length-drop) (omega arith);
}
