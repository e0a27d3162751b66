-- Laws of bytes cut into blocks.
use Rattle.std.proofs.Common.{◌≡◌, ℕ, zero, suc, ◌+◌, ◌-◌, ◌*◌, ◌<◌, ◌≤◌, true, List, ◌∷◌, ◌++◌, length, get_or, take, drop, set, sym, ap, ◌∙◌, arith}
use borrow.Rule.Slice.PartMut.{put_mid}
use Rattle.std.proofs.lemmas.List.{take_at, drop_at, drop-append-le, drop-take, drop-drop, length-take-le, length-take, length-drop, length-append, get_or-take, get_or-drop}
use Rattle.std.proofs.lemmas.Slice.{take-put_mid_below}
use Rattle.store.specs.Meaning.{block, written}
use Rattle.store.specs.Cards.{BlocksInOrder, blocks_of, card_of, memory_blocks, memory_card, whole_blocks}
use Rattle.store.specs.Soundness.{blocks_within, get_or-blocks_of, suc_times}

pub blocks_in_order : (bytes : List ℕ) → BlocksInOrder bytes
blocks_in_order bytes n i h l =
    let e : n * 1024 + i ≡ 1024 * n + i = omega arith in
    ap (λ b. get_or b i 0) (get_or-blocks_of (memory_blocks bytes) n bytes h)
    ∙ get_or-take 1024 (drop (n * 1024) bytes) i 0 l
    ∙ get_or-drop (n * 1024) bytes i 0
    ∙ ap (λ j. get_or bytes j 0) e

drop_put_mid_above : {X : Type 0} (c a k : ℕ) (xs ys : List X) → c + a ≤ length xs → drop c (put_mid (c + a) k xs ys) ≡ put_mid a k (drop c xs) ys
drop_put_mid_above c a k xs ys h =
    let l : length (take (c + a) xs) ≡ c + a = length-take-le (c + a) xs h in
    let l' : c ≤ length (take (c + a) xs) = omega arith in
    let e₁ = drop-append-le c (take (c + a) xs) (ys ++ drop k (drop (c + a) xs)) l' in
    let e₂ = drop-take c a xs in
    let e₃ = drop-drop a c xs in
    e₁ ∙ ap (λ p. p ++ (ys ++ drop k (drop (c + a) xs))) e₂ ∙ ap (λ p. take a (drop c xs) ++ (ys ++ drop k p)) (sym e₃)

-- bytes put where block n lies replace block n and nothing else
pub blocks_of_put : (k n : ℕ) (bytes ys : List ℕ) → n < k → length ys ≡ 1024 → k * 1024 ≤ length bytes → blocks_of k (put_mid (n * 1024) 1024 bytes ys) ≡ set (blocks_of k bytes) n ys
unfolding blocks_of
blocks_of_put zero n bytes ys h l w = absurd (omega arith)
blocks_of_put (suc k) zero bytes ys h l w =
    let t : take 1024 (ys ++ drop 1024 bytes) ≡ ys = take_at ys (drop 1024 bytes) 1024 l in
    let d : drop 1024 (ys ++ drop 1024 bytes) ≡ drop 1024 bytes = drop_at ys (drop 1024 bytes) 1024 l in
    cc
blocks_of_put (suc k) (suc n) bytes ys h l w =
    let h' : n < k = omega arith in
    let w' : k * 1024 ≤ length (drop 1024 bytes) = simp length-drop (omega arith) in
    let w'' : 1024 + n * 1024 ≤ length bytes = omega arith in
    let m = suc_times n in
    let r = blocks_of_put k n (drop 1024 bytes) ys h' l w' in
    let t = take-put_mid_below (1024 + n * 1024) 1024 bytes ys 1024 (omega arith) w'' in
    let d = drop_put_mid_above 1024 (n * 1024) 1024 bytes ys w'' in
    ap (λ a. take 1024 (put_mid a 1024 bytes ys) ∷ blocks_of k (drop 1024 (put_mid a 1024 bytes ys))) m
    ∙ ap (λ p. p ∷ blocks_of k (drop 1024 (put_mid (1024 + n * 1024) 1024 bytes ys))) t
    ∙ ap (λ p. take 1024 bytes ∷ blocks_of k p) d
    ∙ ap (λ p. take 1024 bytes ∷ p) r

-- what a read of block n, from where it begins, copies
pub read_at : (bytes got : List ℕ) (n a : ℕ) → a ≡ n * 1024 → n < memory_blocks bytes
    → got ≡ take ((a + 1024) - a) (drop a bytes)
    → got ≡ block (memory_card bytes) n
read_at bytes got n a s h e =
    let k : (a + 1024) - a ≡ 1024 = omega arith in
    e ∙ ap (λ j. take j (drop a bytes)) k ∙ ap (λ j. take 1024 (drop j bytes)) s ∙ sym (get_or-blocks_of (memory_blocks bytes) n bytes h)

-- what a write to block n, from where it begins, leaves
pub put_at : (bytes last ys : List ℕ) (n a : ℕ) → a ≡ n * 1024 → n < memory_blocks bytes → last ≡ ys → length ys ≡ 1024
    → memory_card (put_mid a ((a + 1024) - a) bytes last) ≡ written (memory_card bytes) n ys
put_at bytes last ys n a s h e l =
    let w : memory_blocks bytes * 1024 ≤ length bytes = (blocks_within bytes).0 in
    let w' : n * 1024 + 1024 ≤ length bytes = omega arith in
    let k : (a + 1024) - a ≡ 1024 = omega arith in
    let m : length (put_mid (n * 1024) 1024 bytes ys) ≡ length bytes = simp (length-append, length-take, length-drop) (omega arith) in
    ap (λ j. memory_card (put_mid a j bytes last)) k
    ∙ ap (λ j. memory_card (put_mid j 1024 bytes last)) s
    ∙ ap (λ p. memory_card (put_mid (n * 1024) 1024 bytes p)) e
    ∙ ap (λ j. card_of true (whole_blocks j) (put_mid (n * 1024) 1024 bytes ys)) m
    ∙ ap (λ b. record { count = memory_blocks bytes; writable = true; blocks = b }) (blocks_of_put (memory_blocks bytes) n bytes ys h l w)
