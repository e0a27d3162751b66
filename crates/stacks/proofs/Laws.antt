-- Laws of a stack in a slice.
use Rattle.std.proofs.Common.{◌≡◌, ℕ, ◌+◌, ◌-◌, ◌<◌, ◌≤◌, List, [], ◌∷◌, ◌++◌, reverse, length, get_or, take, drop, set, sym, refl, ap, ◌∙◌, arith}
use Rattle.std.proofs.lemmas.List.{take_more, take_more_set, reverse-append, length-reverse, length-take-le, get_or-reverse, get_or-take, length-drop, get_or-drop, same_lists, take-set-le, length_push, append_assoc, get_or_at, take_at, drop_at, take-append-drop, take-take, drop-take}
use Rattle.std.proofs.lemmas.Slice.{take-put_mid}
use borrow.Rule.Slice.PartMut.{put_mid}
use Rattle.stacks.specs.Stack.{stack_of, rolled}

pub stack_push : {X : Type 0} (d : ℕ) (xs : List X) (x : X) → d < length xs → stack_of (d + 1) (set xs d x) ≡ x ∷ stack_of d xs
unfolding stack_of
stack_push d xs x h = ap reverse (take_more_set xs d x h) ∙ reverse-append (take d xs) (x ∷ [])

pub stack_pop : {X : Type 0} (d : ℕ) (xs : List X) (z : X) → d < length xs → stack_of (d + 1) xs ≡ get_or xs d z ∷ stack_of d xs
unfolding stack_of
stack_pop d xs z h = ap reverse (take_more xs d z h) ∙ reverse-append (take d xs) (get_or xs d z ∷ [])

pub length_stack : {X : Type 0} (d : ℕ) (xs : List X) → d ≤ length xs → length (stack_of d xs) ≡ d
unfolding stack_of
length_stack d xs h = length-reverse (take d xs) ∙ length-take-le d xs h

-- a write at or past the depth does not touch the stack
pub stack_set : {X : Type 0} (d : ℕ) (xs : List X) (i : ℕ) (x : X) → d ≤ i → stack_of d (set xs i x) ≡ stack_of d xs
unfolding stack_of
stack_set d xs i x h = ap reverse (take-set-le d xs i x h)

-- the k-th from the top
pub get_or_stack : {X : Type 0} (d : ℕ) (xs : List X) (k : ℕ) (z : X) → k < d → d ≤ length xs → get_or (stack_of d xs) k z ≡ get_or xs (d - 1 - k) z
unfolding stack_of
get_or_stack d xs k z h l =
    let n : length (take d xs) ≡ d = length-take-le d xs l in
    let r : get_or (reverse (take d xs)) k z ≡ get_or (take d xs) (length (take d xs) - 1 - k) z = get_or-reverse (take d xs) k z (omega arith) in
    let t : get_or (take d xs) (d - 1 - k) z ≡ get_or xs (d - 1 - k) z = get_or-take d xs (d - 1 - k) z (omega arith) in
    r ∙ ap (λ m. get_or (take d xs) (m - 1 - k) z) n ∙ t

-- without its top k
pub drop_stack : {X : Type 0} (d : ℕ) (xs : List X) (k : ℕ) → k ≤ d → d ≤ length xs → drop k (stack_of d xs) ≡ stack_of (d - k) xs
drop_stack d xs k h l =
    let n : length (stack_of d xs) ≡ d = length_stack d xs l in
    let m : length (stack_of (d - k) xs) ≡ d - k = length_stack (d - k) xs (omega arith) in
    let e : length (drop k (stack_of d xs)) ≡ d - k = length-drop k (stack_of d xs) ∙ ap (λ j. j - k) n in
    same_lists _ _ (e ∙ sym m) (λ j z b.
    let g = get_or-drop k (stack_of d xs) j z in
    let p = get_or_stack d xs (k + j) z (omega arith) l in
    let q = get_or_stack (d - k) xs j z (omega arith) (omega arith) in
    let i : d - 1 - (k + j) ≡ d - k - 1 - j = omega arith in
    g ∙ p ∙ ap (λ u. get_or xs u z) i ∙ sym q)

-- a roll within the elements A, p, Q, which lie from the bottom up
roll_core : {X : Type 0} (A : List X) (p : X) (Q : List X) (z : X) (k : ℕ) → length Q ≡ k → reverse (A ++ (Q ++ p ∷ [])) ≡ rolled k (reverse (A ++ p ∷ Q)) z
roll_core A p Q z k h =
    let l : length (reverse Q) ≡ k = length-reverse Q ∙ h in
    let m : length (reverse Q ++ p ∷ []) ≡ k + 1 = length_push (reverse Q) p ∙ ap (λ n. n + 1) l in
    let a : reverse (A ++ (Q ++ p ∷ [])) ≡ p ∷ (reverse Q ++ reverse A) = reverse-append A (Q ++ p ∷ []) ∙ ap (λ (s : List _). s ++ reverse A) (reverse-append Q (p ∷ [])) in
    let b : reverse (A ++ p ∷ Q) ≡ (reverse Q ++ p ∷ []) ++ reverse A = reverse-append A (p ∷ Q) ∙ ap (λ (s : List _). s ++ reverse A) (reverse-append (p ∷ []) Q) in
    let b' : reverse (A ++ p ∷ Q) ≡ reverse Q ++ (p ∷ reverse A) = b ∙ append_assoc (reverse Q) (p ∷ []) (reverse A) in
    let x : get_or (reverse (A ++ p ∷ Q)) k z ≡ p = ap (λ s. get_or s k z) b' ∙ get_or_at (reverse Q) p (reverse A) z k l in
    let t : take k (reverse (A ++ p ∷ Q)) ≡ reverse Q = ap (take k) b' ∙ take_at (reverse Q) (p ∷ reverse A) k l in
    let u : drop (k + 1) (reverse (A ++ p ∷ Q)) ≡ reverse A = ap (drop (k + 1)) b ∙ drop_at (reverse Q ++ p ∷ []) (reverse A) (k + 1) m in
    cc

parts : {X : Type 0} (a m : ℕ) (xs : List X) → take (a + m) xs ≡ take a xs ++ take m (drop a xs)
parts a m xs = sym (take-append-drop a (take (a + m) xs)) ∙ ap (λ (s : List _). s ++ drop a (take (a + m) xs)) (take-take a (a + m) xs (omega arith)) ∙ ap (λ (s : List _). take a xs ++ s) (drop-take a m xs)

-- the part from `a` to the top turned round by one is the roll of what lies at `a`
pub stack_roll : {X : Type 0} (d k : ℕ) (xs ys : List X) (z : X) → k < d → d ≤ length xs → ys ≡ drop 1 (take (k + 1) (drop (d - 1 - k) xs)) ++ take 1 (take (k + 1) (drop (d - 1 - k) xs)) → stack_of d (put_mid (d - 1 - k) (k + 1) xs ys) ≡ rolled k (stack_of d xs) z
unfolding stack_of
stack_roll d k xs ys z h l e = at (take (k + 1) (drop (d - 1 - k) xs)) refl
  where
    n : length (take (k + 1) (drop (d - 1 - k) xs)) ≡ k + 1
    n = length-take-le (k + 1) (drop (d - 1 - k) xs) (simp length-drop (omega arith))

    at : (P : List _) → P ≡ take (k + 1) (drop (d - 1 - k) xs) → reverse (take d (put_mid (d - 1 - k) (k + 1) xs ys)) ≡ rolled k (reverse (take d xs)) z
    at [] q = absurd (omega (arith, ap length q, n))
    at (p ∷ Q) q =
        let w : ys ≡ Q ++ p ∷ [] = e ∙ ap (λ (s : List _). drop 1 s ++ take 1 s) (sym q) in
        let lq : length Q ≡ k = omega (arith, ap length q, n) in
        let ly : length ys ≡ k + 1 = ap length w ∙ length_push Q p ∙ ap (λ j. j + 1) lq in
        let i : d ≡ d - 1 - k + length ys = omega arith in
        let j : d ≡ d - 1 - k + (k + 1) = omega arith in
        let t : take d (put_mid (d - 1 - k) (k + 1) xs ys) ≡ take (d - 1 - k) xs ++ ys = take-put_mid (d - 1 - k) (k + 1) xs ys d i (omega arith) in
        let u : take d xs ≡ take (d - 1 - k) xs ++ take (k + 1) (drop (d - 1 - k) xs) = ap (λ v. take v xs) j ∙ parts (d - 1 - k) (k + 1) xs in
        let u' : take d xs ≡ take (d - 1 - k) xs ++ p ∷ Q = u ∙ ap (λ (s : List _). take (d - 1 - k) xs ++ s) (sym q) in
        ap reverse (t ∙ ap (λ (s : List _). take (d - 1 - k) xs ++ s) w) ∙ roll_core (take (d - 1 - k) xs) p Q z k lq ∙ ap (λ s. rolled k (reverse s) z) (sym u')
