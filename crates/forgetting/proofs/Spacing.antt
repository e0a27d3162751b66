-- Where the vocabularies and entries of a stack lie.
use Rattle.std.proofs.Common.{◌≡◌, ℕ, ◌+◌, ◌≤◌, Bool, true, false, cond, ◌⊎◌, List, ◌∷◌, ◌++◌, length, refl, inl, inr, arith, length-append}
use Rattle.image.specs.Cells.{cell_at, cell, set_cell}
use Rattle.forgetting.proofs.Raw.{link_of}
use Rattle.forgetting.proofs.Stack.{Entry, Image, spot, tail_of, frame, framed, grow, Stack, base, push, image, Mem, Good}
use Rattle.forgetting.proofs.CellLaws.{length-set_cell}

abbrev pub low_of : Stack → List ℕ
low_of m = (image m).low

abbrev pub vocs_of : Stack → List ℕ
vocs_of m = (image m).vocs

abbrev pub dp : Stack → ℕ
dp m = length (image m).low

-- where the heads of a vocabulary begun by e over I stand
abbrev pub heads_at : Entry → Image → ℕ
heads_at e I = length I.low + 9 + length e.name + length e.rest

pub length_tail : (b : Bool) (k : ℕ) → (length (tail_of b k) ≡ cond b 10 0)
unfolding tail_of cell
length_tail true k = refl
length_tail false k = refl

pub tail_voc : (b : Bool) → b ≡ true → cond {A = ℕ} b 10 0 ≡ 10
tail_voc b h = rw h

pub length_frame : (e : Entry) (l k : ℕ) → length (frame e l k) ≡ 9 + length e.name + length e.rest + cond e.is_voc 10 0
unfolding frame cell
length_frame e l k = simp length-append (omega (arith, length_tail e.is_voc k))

pub length_grow : (e : Entry) (I : Image) → length (grow e I).low ≡ heads_at e I + cond e.is_voc 10 0
unfolding grow framed
length_grow e I = simp (length-append, length-set_cell) (omega (arith, length_frame e (cell_at I.low (spot e)) (link_of I.vocs)))

pub mem_cond : (b : Bool) (v x : ℕ) (xs : List ℕ) → Mem v (cond b (x ∷ xs) xs) → Mem v xs ⊎ ((b ≡ true) × (v ≡ x))
mem_cond true v x xs (inl h) = inr (refl, h)
mem_cond true v x xs (inr h) = inl h
mem_cond false v x xs h = inl h

pub mem_older : (b : Bool) (v x : ℕ) (xs : List ℕ) → Mem v xs → Mem v (cond b (x ∷ xs) xs)
mem_older true v x xs h = inr h
mem_older false v x xs h = h

pub mem_grow : (e : Entry) (I : Image) (v : ℕ) → Mem v (grow e I).vocs → Mem v I.vocs ⊎ ((e.is_voc ≡ true) × (v ≡ heads_at e I))
unfolding grow
mem_grow e I v h = mem_cond e.is_voc v (heads_at e I) I.vocs h

pub mem_image : (e : Entry) (m : Stack) (v : ℕ) → Mem v (vocs_of (push e m)) → Mem v (vocs_of m) ⊎ ((e.is_voc ≡ true) × (v ≡ heads_at e (image m)))
unfolding image
mem_image e m v h = mem_grow e (image m) v h

pub dp_push : (e : Entry) (m : Stack) → dp (push e m) ≡ heads_at e (image m) + cond e.is_voc 10 0
unfolding image
dp_push e m = length_grow e (image m)

pub low_push : (e : Entry) (m : Stack) → low_of (push e m) ≡ set_cell (low_of m) (spot e) (dp m + 2) ++ framed e (image m)
unfolding image grow
low_push e m = refl

-- a vocabulary lies whole below DP
pub voc_room : (m : Stack) → Good m → (v : ℕ) → Mem v (vocs_of m) → v + 10 ≤ dp m
unfolding image
voc_room (base I) g v h = elim (rw g.vocs_are at h) [ inl e ↦ omega (arith, g.long) | inr x ↦ absurd x ]
voc_room (push e m) g v h = elim (mem_grow e (image m) v h) [
  | inl x ↦ omega (arith, voc_room m g.1 v x, length_grow e (image m))
  | inr x ↦ omega (arith, length_grow e (image m), tail_voc e.is_voc x.0)
]

abbrev pub Spaced : ℕ → ℕ → Type 0
Spaced u v = (u ≡ v) ⊎ ((u + 10 ≤ v) ⊎ (v + 10 ≤ u))

pub vocs_apart : (m : Stack) → Good m → (u v : ℕ) → Mem u (vocs_of m) → Mem v (vocs_of m) → Spaced u v
unfolding image
vocs_apart (base I) g u v h k = elim (rw g.vocs_are at h) [
  | inl a ↦ elim (rw g.vocs_are at k) [ inl b ↦ inl (omega arith) | inr x ↦ absurd x ]
  | inr x ↦ absurd x
]
vocs_apart (push e m) g u v h k = elim (mem_grow e (image m) u h) [
  | inl a ↦ elim (mem_grow e (image m) v k) [
    | inl b ↦ vocs_apart m g.1 u v a b
    | inr b ↦ inr (inl (omega (arith, voc_room m g.1 u a)))
  ]
  | inr a ↦ elim (mem_grow e (image m) v k) [
    | inl b ↦ inr (inr (omega (arith, voc_room m g.1 v b)))
    | inr b ↦ inl (omega arith)
  ]
]
