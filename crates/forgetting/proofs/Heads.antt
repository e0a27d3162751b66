-- The heads of a vocabulary as entries join, and how they fall back.
use Rattle.std.proofs.Common.{◌≡◌, ℕ, zero, suc, ◌+◌, ◌*◌, ◌/◌, ◌%◌, ◌<◌, ◌≤◌, Bool, true, false, ◌⊎◌, List, ◌∷◌, ◌++◌, length, replicate, sym, refl, ap, ◌∙◌, inl, inr, append_assoc, arith, length-append}
use Rattle.std.proofs.lemmas.List.{get_or_append_left, get_or-replicate}
use Rattle.std.proofs.lemmas.Bool.{cases_eq, cases_lt, cases_order, lt-ltb, le-ltb}
use Rattle.image.specs.Cells.{at, cell_at, cell, set_cell}
use Rattle.forgetting.proofs.Raw.{link_of, fall}
use Rattle.forgetting.proofs.Stack.{Entry, spot, tail_of, frame, framed, Stack, base, push, image, Mem, Good, Under, here, there}
use Rattle.forgetting.proofs.CellLaws.{length-set_cell, cell_same, cell_other, cell_left, Apart}
use Rattle.forgetting.proofs.Spacing.{low_of, vocs_of, dp, heads_at, mem_image, dp_push, low_push, voc_room, vocs_apart, Spaced, tail_voc}
use Rattle.forgetting.proofs.Kept.{kept_at, under_pop, mem_up, good_under, dp_under, push_right, at_after, link_is, cell_from}

-- two heads are one or apart
pub spots : (u v k l : ℕ) → Spaced u v → k < 4 → l < 4 → (v + 2 * l ≡ u + 2 * k) ⊎ Apart (u + 2 * k) (v + 2 * l)
spots u v k l (inl e) hk hl = elim (cases_order k l) [
  | inl x ↦ inl (omega arith)
  | inr x ↦ elim x [ inl y ↦ inr (inr (omega arith)) | inr y ↦ inr (inl (omega arith)) ]
]
spots u v k l (inr (inl h)) hk hl = inr (inr (omega arith))
spots u v k l (inr (inr h)) hk hl = inr (inl (omega arith))

-- the head of an older vocabulary once e has joined
pub head_older : (e : Entry) (m : Stack) → Good (push e m) → (v k : ℕ) → Mem v (vocs_of m) → k < 4
    → ((v + 2 * k ≡ spot e) × (cell_at (low_of (push e m)) (v + 2 * k) ≡ dp m + 2)) ⊎ (cell_at (low_of (push e m)) (v + 2 * k) ≡ cell_at (low_of m) (v + 2 * k))
head_older e m g v k h l = elim (spots e.voc v e.thread k (vocs_apart m g.1 e.voc v g.0.voc_in h) g.0.thread_lt l) [
  | inl x ↦ inl (x, same ∙ (ap (cell_at (set_cell (low_of m) (spot e) (dp m + 2))) x ∙ cell_same (low_of m) (spot e) (dp m + 2) (omega (arith, voc_room m g.1 v h))))
  | inr x ↦ inr (same ∙ cell_other (low_of m) (spot e) (dp m + 2) (v + 2 * k) x)
]
  where
    same : cell_at (low_of (push e m)) (v + 2 * k) ≡ cell_at (set_cell (low_of m) (spot e) (dp m + 2)) (v + 2 * k)
    same = ap (λ z. cell_at z (v + 2 * k)) (low_push e m) ∙ cell_left (set_cell (low_of m) (spot e) (dp m + 2)) (framed e (image m)) (v + 2 * k) (simp length-set_cell (omega (arith, voc_room m g.1 v h)))

pub head_joined_lem : (e : Entry) (m : Stack) → Good (push e m) → cell_at (low_of (push e m)) (spot e) ≡ dp m + 2
head_joined_lem e m g = ap (λ z. cell_at z (spot e)) (low_push e m)
    ∙ (cell_left (set_cell (low_of m) (spot e) (dp m + 2)) (framed e (image m)) (spot e) (simp length-set_cell room) ∙ cell_same (low_of m) (spot e) (dp m + 2) room)
  where
    room : spot e + 1 < dp m
    room = omega (arith, voc_room m g.1 e.voc g.0.voc_in, g.0.thread_lt)

front : Entry → ℕ → List ℕ
front e l = cell e.view ++ (cell l ++ (e.count ∷ (e.name ++ (cell e.code ++ (cell e.body ++ e.rest)))))

frame_split : (e : Entry) (l k : ℕ) → frame e l k ≡ front e l ++ tail_of e.is_voc k
unfolding frame front cell
frame_split e l k = simp append_assoc

length_front : (e : Entry) (l : ℕ) → length (front e l) ≡ 9 + length e.name + length e.rest
unfolding front cell
length_front e l = simp length-append (omega arith)

-- the four heads and the vocabulary link of a vocabulary
pub tail_at : (e : Entry) (m : Stack) (i : ℕ) → at (low_of (push e m)) (heads_at e (image m) + i) ≡ at (tail_of e.is_voc (link_of (vocs_of m))) i
unfolding framed
tail_at e m i =
    ap (at (low_of (push e m))) place ∙ (push_right e m (9 + length e.name + length e.rest + i)
    ∙ (ap (λ z. at z (9 + length e.name + length e.rest + i)) (frame_split e l k) ∙ at_after (front e l) (tail_of e.is_voc k) (9 + length e.name + length e.rest) i (length_front e l)))
  where
    l : ℕ
    l = cell_at (low_of m) (spot e)

    k : ℕ
    k = link_of (vocs_of m)

    place : heads_at e (image m) + i ≡ dp m + (9 + length e.name + length e.rest + i)
    place = omega arith

zero_at : (b : Bool) (k i : ℕ) → b ≡ true → i < 8 → at (tail_of b k) i ≡ 0
unfolding tail_of
zero_at true k i q h = get_or_append_left (replicate 8 0) (cell k) 0 i h ∙ get_or-replicate 8 i 0 0 h
zero_at false k i q h = let z : ◌≡◌ {A = Bool} false true = q in absurd (Rattle.std.proofs.lemmas.Bool.false≢true z)

pub link_bytes : (b : Bool) (k : ℕ) → b ≡ true → (at (tail_of b k) 8 ≡ k % 256) × (at (tail_of b k) 9 ≡ k / 256)
unfolding tail_of cell
link_bytes true k q = (refl, refl)
link_bytes false k q = let z : ◌≡◌ {A = Bool} false true = q in absurd (Rattle.std.proofs.lemmas.Bool.false≢true z)

-- the vocabulary link
pub voc_link_is : {e : Entry} {s m : Stack} → Under (push e s) m → Good m → e.is_voc ≡ true → cell_at (low_of m) (heads_at e (image s) + 8) ≡ link_of (vocs_of s)
voc_link_is {e} {s} {m} u g q = cell_from (low_of m) (heads_at e (image s) + 8) (link_of (vocs_of s))
    (kept_at u g (heads_at e (image s) + 8) (omega arith) (omega (arith, dp_push e s, tail_voc e.is_voc q)) (inr (omega arith))
    ∙ (tail_at e s 8 ∙ (link_bytes e.is_voc (link_of (vocs_of s)) q).0))
    (kept_at u g (heads_at e (image s) + 8 + 1) (omega arith) (omega (arith, dp_push e s, tail_voc e.is_voc q)) (inr (omega arith))
    ∙ (ap (at (low_of (push e s))) place ∙ (tail_at e s 9 ∙ (link_bytes e.is_voc (link_of (vocs_of s)) q).1)))
  where
    place : heads_at e (image s) + 8 + 1 ≡ heads_at e (image s) + 9
    place = omega arith

pub head_new : (e : Entry) (m : Stack) (v k : ℕ) → e.is_voc ≡ true → v ≡ heads_at e (image m) → k < 4 → cell_at (low_of (push e m)) (v + 2 * k) ≡ 0
unfolding cell_at
head_new e m v k q h l = omega (arith, zero (v + 2 * k) (2 * k) (omega arith) (omega arith), zero (v + 2 * k + 1) (2 * k + 1) (omega arith) (omega arith))
  where
    zero : (a i : ℕ) → a ≡ heads_at e (image m) + i → i < 8 → at (low_of (push e m)) a ≡ 0
    zero a i x y = ap (at (low_of (push e m))) x ∙ (tail_at e m i ∙ zero_at e.is_voc (link_of (vocs_of m)) i q y)

-- every head names an entry below DP, or none
pub head_low : (m : Stack) → Good m → (v k : ℕ) → Mem v (vocs_of m) → k < 4 → cell_at (low_of m) (v + 2 * k) < dp m
unfolding image
head_low (base I) g v k h l = elim (rw g.vocs_are at h) [ inl x ↦ rw x (g.heads k l) | inr x ↦ absurd x ]
head_low (push e m) g v k h l = elim (mem_image e m v h) [
  | inl x ↦ elim (head_older e m g v k x l) [
    | inl y ↦ omega (arith, y.1, dp_push e m)
    | inr y ↦ omega (arith, y, dp_push e m, head_low m g.1 v k x l)
  ]
  | inr x ↦ omega (arith, dp_push e m, head_new e m v k x.0 x.1 l)
]

pub fall_down : (n : ℕ) (low : List ℕ) (w h : ℕ) → h < w → fall n low w h ≡ h
unfolding fall
fall_down zero low w h l = refl
fall_down (suc n) low w h l = rw (lt-ltb h w l)

pub fall_step : (n : ℕ) (low : List ℕ) (w h : ℕ) → w ≤ h → fall (suc n) low w h ≡ fall n low w (cell_at low h)
unfolding fall
fall_step n low w h l = rw (le-ltb h w l)

-- from the head in m, down to the head in s
pub falls : {s m : Stack} (M : Stack) → Under s m → Under m M → Good M → (v k : ℕ) → Mem v (vocs_of s) → k < 4 → (n : ℕ)
    → cell_at (low_of m) (v + 2 * k) < n → fall n (low_of M) (dp s + 2) (cell_at (low_of m) (v + 2 * k)) ≡ cell_at (low_of s) (v + 2 * k)
falls {s} M here t g v k h l n b = fall_down n (low_of M) (dp s + 2) (cell_at (low_of s) (v + 2 * k)) (omega (arith, head_low s (good_under t g) v k h l))
falls {s} M (there {e = e} {m = m} u) t g v k h l zero b = let z : ⊥ = omega arith in absurd z
falls {s} M (there {e = e} {m = m} u) t g v k h l (suc n) b = elim (head_older e m (good_under t g) v k (mem_up u v h) l) [
  | inl x ↦ ap (fall (suc n) (low_of M) (dp s + 2)) x.1
      ∙ (fall_step n (low_of M) (dp s + 2) (dp m + 2) (omega (arith, dp_under u))
      ∙ (ap (fall n (low_of M) (dp s + 2)) (link_is t g ∙ ap (cell_at (low_of m)) (sym x.0))
      ∙ falls M u (under_pop t) g v k h l n (omega (arith, x.1, head_low m (good_under t g).1 v k (mem_up u v h) l))))
  | inr x ↦ ap (fall (suc n) (low_of M) (dp s + 2)) x ∙ falls M u (under_pop t) g v k h l (suc n) (omega (arith, x))
]
