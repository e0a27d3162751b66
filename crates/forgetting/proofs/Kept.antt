-- What lies below an entry stays as it was under it.
use Rattle.std.proofs.Common.{◌≡◌, ℕ, ◌+◌, ◌/◌, ◌%◌, ◌<◌, ◌≤◌, ◌⊎◌, List, ◌++◌, length, refl, ap, ◌∙◌, inl, inr, arith}
use Rattle.std.proofs.lemmas.List.{get_or_append_left, get_or-append-add}
use Rattle.std.proofs.lemmas.Bool.{cases_lt}
use Rattle.image.specs.Cells.{at, cell_at, cell, set_cell}
use Rattle.forgetting.proofs.Stack.{Entry, spot, frame, framed, grow, Stack, push, image, Mem, Good, Under, here, there}
use Rattle.forgetting.proofs.CellLaws.{length-set_cell, at_other}
use Rattle.forgetting.proofs.Spacing.{mem_older, low_of, vocs_of, dp, heads_at, mem_image, dp_push, low_push, voc_room}

pub good_under : {s m : Stack} → Under s m → Good m → Good s
good_under here g = g
good_under (there u) g = good_under u g.1

pub dp_under : {s m : Stack} → Under s m → dp s ≤ dp m
dp_under here = omega arith
dp_under (there {e = e} {m = m} u) = omega (arith, dp_under u, dp_push e m)

-- a vocabulary of m that starts below DP of s is one of s
pub voc_under : {s m : Stack} → Under s m → (v : ℕ) → Mem v (vocs_of m) → v ≤ dp s + 2 → Mem v (vocs_of s)
voc_under here v h l = h
voc_under (there {e = e} {m = m} u) v h l = elim (mem_image e m v h) [
  | inl x ↦ voc_under u v x l
  | inr x ↦ let k : ⊥ = omega (arith, dp_under u, x.1) in absurd k
]

pub under_pop : {e : Entry} {m M : Stack} → Under (push e m) M → Under m M
under_pop here = there here
under_pop (there u) = there (under_pop u)

pub mem_image_older : (e : Entry) (m : Stack) (v : ℕ) → Mem v (vocs_of m) → Mem v (vocs_of (push e m))
unfolding image grow
mem_image_older e m v h = mem_older e.is_voc v (heads_at e (image m)) (vocs_of m) h

pub mem_up : {s m : Stack} → Under s m → (v : ℕ) → Mem v (vocs_of s) → Mem v (vocs_of m)
mem_up here v h = h
mem_up (there {e = e} {m = m} u) v h = mem_image_older e m v (mem_up u v h)

-- the byte a belongs to a head of one of vs
abbrev pub Head : List ℕ → ℕ → Type 0
Head vs a = (v : ℕ) × Mem v vs × (v ≤ a) × (a < v + 8)

pub push_left : (e : Entry) (m : Stack) (a : ℕ) → a < dp m → at (low_of (push e m)) a ≡ at (set_cell (low_of m) (spot e) (dp m + 2)) a
push_left e m a h = ap (λ l. at l a) (low_push e m) ∙ get_or_append_left (set_cell (low_of m) (spot e) (dp m + 2)) (framed e (image m)) 0 a (simp length-set_cell h)

pub at_after : (xs ys : List ℕ) (n j : ℕ) → length xs ≡ n → at (xs ++ ys) (n + j) ≡ at ys j
at_after xs ys n j h = rw (← h) (get_or-append-add xs ys j 0)

pub push_right : (e : Entry) (m : Stack) (j : ℕ) → at (low_of (push e m)) (dp m + j) ≡ at (framed e (image m)) j
push_right e m j = ap (λ l. at l (dp m + j)) (low_push e m) ∙ at_after (set_cell (low_of m) (spot e) (dp m + 2)) (framed e (image m)) (dp m) j (length-set_cell (low_of m) (spot e) (dp m + 2))

-- below s, entries above s change nothing but heads of the vocabularies of s
pub near : {s m : Stack} → Under s m → Good m → (a : ℕ) → a < dp s → (at (low_of m) a ≡ at (low_of s) a) ⊎ Head (vocs_of s) a
near here g a h = inl refl
near {s} (there {e = e} {m = m} u) g a h = elim (near u g.1 a h) [
  | inr x ↦ inr x
  | inl x ↦ elim (cases_lt a (spot e)) [
    | inl y ↦ inl (push_left e m a (omega (arith, dp_under u)) ∙ (at_other (low_of m) (spot e) (dp m + 2) a (omega arith) (omega arith) ∙ x))
    | inr y ↦ elim (cases_lt a (spot e + 2)) [
      | inl z ↦ inr (e.voc, voc_under u e.voc g.0.voc_in (omega arith), omega arith, omega (arith, g.0.thread_lt))
      | inr z ↦ inl (push_left e m a (omega (arith, dp_under u)) ∙ (at_other (low_of m) (spot e) (dp m + 2) a (omega arith) (omega arith) ∙ x))
    ]
  ]
]

-- what is no head of an entry stays as it was written
pub kept_at : {e : Entry} {s m : Stack} → Under (push e s) m → Good m → (a : ℕ) → dp s ≤ a → a < dp (push e s)
    → (a < heads_at e (image s)) ⊎ (heads_at e (image s) + 8 ≤ a) → at (low_of m) a ≡ at (low_of (push e s)) a
kept_at {e} {s} u g a q h o = elim (near u g a h) [
  | inl x ↦ x
  | inr x ↦ elim (mem_image e s x.0 x.1) [
    | inl y ↦ let k : ⊥ = omega (arith, voc_room s (good_under u g).1 x.0 y, x.3) in absurd k
    | inr y ↦ let k : ⊥ = omega (arith, y.1, x.2, x.3, o) in absurd k
  ]
]

pub kept : {e : Entry} {s m : Stack} → Under (push e s) m → Good m → (a j : ℕ) → a ≡ dp s + j → a < dp (push e s)
    → (a < heads_at e (image s)) ⊎ (heads_at e (image s) + 8 ≤ a) → at (low_of m) a ≡ at (framed e (image s)) j
kept {e} {s} u g a j q h o = kept_at u g a (omega arith) h o ∙ (ap (at (low_of (push e s))) q ∙ push_right e s j)

pub cell_from : (low : List ℕ) (a x : ℕ) → at low a ≡ x % 256 → at low (a + 1) ≡ x / 256 → cell_at low a ≡ x
unfolding cell_at
cell_from low a x p q = omega arith

-- the link cell
pub link_is : {e : Entry} {s m : Stack} → Under (push e s) m → Good m → cell_at (low_of m) (dp s + 2) ≡ cell_at (low_of s) (spot e)
unfolding framed frame cell
link_is {e} {s} {m} u g = cell_from (low_of m) (dp s + 2) (cell_at (low_of s) (spot e))
    (kept u g (dp s + 2) 2 refl (omega (arith, dp_push e s)) (inl (omega arith)))
    (kept u g (dp s + 2 + 1) 3 (omega arith) (omega (arith, dp_push e s)) (inl (omega arith)))
