-- The vocabulary chain of a stack, and what is found in a thread.
use Rattle.std.proofs.Common.{◌≡◌, ℕ, zero, suc, ◌+◌, ◌-◌, ◌*◌, ◌/◌, ◌%◌, ◌<◌, ◌≤◌, Bool, true, false, cond, ◌⊎◌, List, [], ◌∷◌, ◌++◌, length, sym, refl, ap, ◌∙◌, ap₂, inl, inr, append_assoc, arith, length-append}
use Rattle.std.proofs.lemmas.Bool.{cases_eq, lt-ltb, le-ltb, ne_eqb}
use Rattle.image.specs.Cells.{at, cell_at, cell}
use Rattle.forgetting.proofs.Raw.{link_of, chain, left, first_at, youngest_in, youngest}
use Rattle.forgetting.proofs.Stack.{Entry, Image, spot, tail_of, frame, framed, grow, Stack, base, push, image, Mem, Good, Under, here, there, fence, newest_of, Walk, stop, next}
use Rattle.forgetting.proofs.CellLaws.{cell_of_bytes}
use Rattle.forgetting.proofs.Spacing.{low_of, vocs_of, dp, heads_at, mem_image, dp_push, voc_room, tail_voc}
use Rattle.forgetting.proofs.Kept.{good_under, dp_under, under_pop, at_after, link_is, cell_from, near, kept, mem_image_older}
use Rattle.forgetting.proofs.Heads.{head_joined_lem, head_low, head_older, head_new, voc_link_is}

pub vocs_push : (e : Entry) (m : Stack) → ((e.is_voc ≡ true) × (vocs_of (push e m) ≡ heads_at e (image m) ∷ vocs_of m)) ⊎ (vocs_of (push e m) ≡ vocs_of m)
unfolding image grow
vocs_push e m = go e.is_voc
  where
    go : (b : Bool) → ((b ≡ true) × (cond b (heads_at e (image m) ∷ vocs_of m) (vocs_of m) ≡ heads_at e (image m) ∷ vocs_of m)) ⊎ (cond b (heads_at e (image m) ∷ vocs_of m) (vocs_of m) ≡ vocs_of m)
    go true = inl (refl, refl)
    go false = inr refl

link_room : (vs : List ℕ) (n : ℕ) → 0 < n → ((v : ℕ) → Mem v vs → v + 10 ≤ n) → link_of vs < n
unfolding link_of
link_room [] n p h = p
link_room (v ∷ vs) n p h = omega (arith, h v (inl refl))

link_more : (v : ℕ) (vs : List ℕ) (n : ℕ) → link_of (v ∷ vs) < suc n → v + 8 ≤ n
unfolding link_of
link_more v vs n h = omega arith

pub low_long : (m : Stack) → Good m → 280 ≤ dp m
unfolding image
low_long (base I) g = g.long
low_long (push e m) g = omega (arith, low_long m g.1, dp_push e m)

pub link_low : (m : Stack) → Good m → link_of (vocs_of m) < dp m
link_low m g = link_room (vocs_of m) (dp m) (omega (arith, low_long m g)) (voc_room m g)

chain_zero : (n : ℕ) (low : List ℕ) → chain n low 0 ≡ []
unfolding chain
chain_zero zero low = refl
chain_zero (suc n) low = refl

chain_step : (n : ℕ) (low : List ℕ) (v : ℕ) (vs : List ℕ) → chain n low (cell_at low (v + 8)) ≡ vs → chain (suc n) low (link_of (v ∷ vs)) ≡ v ∷ vs
unfolding chain link_of
chain_step n low v vs h = rw (ne_eqb (v + 8) 0 (λ x. omega arith)) (ap₂ ◌∷◌ v_is h)
  where
    v_is : v + 8 - 8 ≡ v
    v_is = omega arith

ends_at : {I : Image} {M : Stack} → Under (base I) M → Good M → cell_at (low_of M) 278 ≡ 0
unfolding image
ends_at {I} {M} u g = cell_of_bytes (low_of M) I.low 278 (same 278 (omega arith) (omega arith)) (same 279 (omega arith) (omega arith)) ∙ (good_under u g).ends
  where
    same : (a : ℕ) → 278 ≤ a → a < 280 → at (low_of M) a ≡ at I.low a
    same a h l = elim (near u g a (omega (arith, (good_under u g).long))) [
      | inl x ↦ x
      | inr x ↦ elim (rw (good_under u g).vocs_are at x.1) [ inl y ↦ (let z : ⊥ = omega (arith, x.3) in absurd z) | inr y ↦ absurd y ]
    ]

-- the chain read from the image, or from what agrees with it below DP, is the vocabularies
pub chain_in : (m M : Stack) → Under m M → Good M → (low : List ℕ) → ((a : ℕ) → a < dp M → at low a ≡ at (low_of M) a)
    → (n : ℕ) → link_of (vocs_of m) < n → chain n low (link_of (vocs_of m)) ≡ vocs_of m
chain_in (base I) M u g low f zero h = let z : ⊥ = omega arith in absurd z
chain_in (base I) M u g low f (suc n) h = unfold image in rw (good_under u g).vocs_are (chain_step n low 270 []
    (rw (cell_of_bytes low (low_of M) 278 (f 278 (omega (arith, low_long M g))) (f 279 (omega (arith, low_long M g))) ∙ ends_at u g) (chain_zero n low)))
chain_in (push e m) M u g low f zero h = let z : ⊥ = omega arith in absurd z
chain_in (push e m) M u g low f (suc n) h = elim (vocs_push e m) [
  | inl x ↦ rw x.1 (chain_step n low (heads_at e (image m)) (vocs_of m)
      (rw (cell_of_bytes low (low_of M) (heads_at e (image m) + 8)
      (f (heads_at e (image m) + 8) (omega (arith, dp_under u, dp_push e m, tail_voc e.is_voc x.0)))
      (f (heads_at e (image m) + 8 + 1) (omega (arith, dp_under u, dp_push e m, tail_voc e.is_voc x.0))) ∙ voc_link_is u g x.0)
      (chain_in m M (under_pop u) g low f n (omega (arith, link_more (heads_at e (image m)) (vocs_of m) n (rw x.1 at h), link_low m (good_under u g).1)))))
  | inr x ↦ rw x (chain_in m M (under_pop u) g low f (suc n) (rw x at h))
]

pub chain_is : (m M : Stack) → Under m M → Good M → (n : ℕ) → link_of (vocs_of m) < n → chain n (low_of M) (link_of (vocs_of m)) ≡ vocs_of m
chain_is m M u g n h = chain_in m M u g (low_of M) (λ a x. refl) n h

left_all : (vs : List ℕ) (w : ℕ) → ((v : ℕ) → Mem v vs → v ≤ w) → left w vs ≡ vs
unfolding left
left_all [] w h = refl
left_all (v ∷ vs) w h = rw (le-ltb w v (h v (inl refl)))

left_more : (v : ℕ) (vs : List ℕ) (w : ℕ) → w < v → left w (v ∷ vs) ≡ left w vs
unfolding left
left_more v vs w h = rw (lt-ltb w v h)

-- those not named above the first entry above s
pub left_is : {s m : Stack} → Under s m → Good m → left (dp s + 2) (vocs_of m) ≡ vocs_of s
left_is {s} here g = left_all (vocs_of s) (dp s + 2) (λ v x. omega (arith, voc_room s g v x))
left_is {s} (there {e = e} {m = m} u) g = elim (vocs_push e m) [
  | inl x ↦ ap (left (dp s + 2)) x.1 ∙ (left_more (heads_at e (image m)) (vocs_of m) (dp s + 2) (omega (arith, dp_under u)) ∙ left_is u g.1)
  | inr x ↦ ap (left (dp s + 2)) x ∙ left_is u g.1
]

front7 : Entry → ℕ → List ℕ
front7 e l = cell e.view ++ (cell l ++ (e.count ∷ (e.name ++ cell e.code)))

frame_split7 : (e : Entry) (l k : ℕ) → frame e l k ≡ front7 e l ++ (cell e.body ++ (e.rest ++ tail_of e.is_voc k))
unfolding frame front7 cell
frame_split7 e l k = simp append_assoc

length_front7 : (e : Entry) (l : ℕ) → length (front7 e l) ≡ 7 + length e.name
unfolding front7 cell
length_front7 e l = simp length-append (omega arith)

body_bytes : (e : Entry) (l k : ℕ) → (at (frame e l k) (7 + length e.name + 0) ≡ e.body % 256) × (at (frame e l k) (7 + length e.name + 1) ≡ e.body / 256)
body_bytes e l k = rw (frame_split7 e l k) (
  at_after (front7 e l) more (7 + length e.name) 0 (length_front7 e l) ∙ (unfold cell in refl),
  at_after (front7 e l) more (7 + length e.name) 1 (length_front7 e l) ∙ (unfold cell in refl),
)
  where
    more : List ℕ
    more = cell e.body ++ (e.rest ++ tail_of e.is_voc k)

-- the first parameter cell of an entry holds what it was begun with
pub body_is : {e : Entry} {s m : Stack} → Under (push e s) m → Good m → cell_at (low_of m) (first_at (low_of m) (dp s + 2)) ≡ e.body
unfolding first_at
body_is {e} {s} {m} u g = ap (cell_at (low_of m)) place ∙ cell_from (low_of m) (dp s + (7 + length e.name + 0)) e.body
    (kept u g (dp s + (7 + length e.name + 0)) (7 + length e.name + 0) refl (omega (arith, dp_push e s)) (inl (omega arith)) ∙ (unfold framed in (body_bytes e (cell_at (low_of s) (spot e)) (link_of (vocs_of s))).0))
    (kept u g (dp s + (7 + length e.name + 0) + 1) (7 + length e.name + 1) (omega arith) (omega (arith, dp_push e s)) (inl (omega arith)) ∙ (unfold framed in (body_bytes e (cell_at (low_of s) (spot e)) (link_of (vocs_of s))).1))
  where
    count_is : at (low_of m) (dp s + 2 + 2) ≡ e.count
    count_is = kept u g (dp s + 2 + 2) 4 (omega arith) (omega (arith, dp_push e s)) (inl (omega arith)) ∙ (unfold framed frame cell in refl)

    place : dp s + 2 + 5 + at (low_of m) (dp s + 2 + 2) % 32 ≡ dp s + (7 + length e.name + 0)
    place = rw count_is (omega (arith, (good_under u g).0.counted))

-- every entry at the fence or above that a walk from a head comes to is on the stack
abbrev pub On : ℕ → ℕ → Stack → Type 0
On v y M = (e : Entry) × (s : Stack) × Under (push e s) M × (y ≡ dp s + 2) × Mem v (vocs_of s)

walk_le : {low : List ℕ} {h y : ℕ} → Walk low h y → y ≤ h
walk_le stop = omega arith
walk_le (next l r) = omega (arith, walk_le r)

walk_zero : (low : List ℕ) (h y : ℕ) → h ≡ 0 → Walk low h y → y ≡ 0
walk_zero low h y q r = omega (arith, walk_le r)

pub fence_low : (m : Stack) → Good m → fence m ≤ dp m
unfolding fence image
fence_low (base I) g = omega arith
fence_low (push e m) g = omega (arith, fence_low m g.1, dp_push e m)

pub fence_pos : (m : Stack) → Good m → 0 < fence m
unfolding fence
fence_pos (base I) g = omega (arith, g.long)
fence_pos (push e m) g = fence_pos m g.1

pub walk_split : {low : List ℕ} {h y : ℕ} → Walk low h y → (y ≡ h) ⊎ Walk low (cell_at low h) y
walk_split stop = inl refl
walk_split (next l r) = inr r

pub found : (m M : Stack) → Under m M → Good M → (v k : ℕ) → Mem v (vocs_of m) → k < 4 → (h y : ℕ) → h ≡ cell_at (low_of m) (v + 2 * k)
    → Walk (low_of M) h y → fence m ≤ y → On v y M
found (base I) M u g v k x l h y q r f = let z : ⊥ = omega (arith, walk_le r, head_low (base I) (good_under u g) v k x l, base_fence) in absurd z
  where
    base_fence : fence (base I) ≡ dp (base I)
    base_fence = unfold fence image in refl
found (push e m) M u g v k x l h y q r f = elim (mem_image e m v x) [
  | inl a ↦ elim (head_older e m (good_under u g) v k a l) [
    | inl b ↦ elim (walk_split r) [
      | inl c ↦ (e, m, u, c ∙ (q ∙ b.1), a)
      | inr c ↦ found m M (under_pop u) g v k a l (cell_at (low_of M) h) y (ap (cell_at (low_of M)) (q ∙ b.1) ∙ (link_is u g ∙ ap (cell_at (low_of m)) (sym b.0))) c (rw f_is at f)
    ]
    | inr b ↦ found m M (under_pop u) g v k a l h y (q ∙ b) r (rw f_is at f)
  ]
  | inr a ↦ let z : ⊥ = omega (arith, walk_le r, head_new e m v k a.0 a.1 l, f, f_pos) in absurd z
]
  where
    f_is : fence (push e m) ≡ fence m
    f_is = unfold fence in refl

    f_pos : 0 < fence (push e m)
    f_pos = fence_pos (push e m) (good_under u g)

-- the youngest entry that a head names
in_le : (v k : ℕ) (low : List ℕ) (x : ℕ) → ((j : ℕ) → j < k → cell_at low (v + 2 * j) ≤ x) → youngest_in v k low ≤ x
unfolding youngest_in
in_le v zero low x h = omega arith
in_le v (suc k) low x h = omega (arith, h k (omega arith), in_le v k low x (λ j l. h j (omega arith)))

in_ge : (v k : ℕ) (low : List ℕ) (j : ℕ) → j < k → cell_at low (v + 2 * j) ≤ youngest_in v k low
unfolding youngest_in
in_ge v zero low j l = let z : ⊥ = omega arith in absurd z
in_ge v (suc k) low j l = elim (cases_eq j k) [
  | inl x ↦ rw x (omega arith)
  | inr x ↦ omega (arith, in_ge v k low j (omega arith))
]

all_le : (vs : List ℕ) (low : List ℕ) (x : ℕ) → ((v j : ℕ) → Mem v vs → j < 4 → cell_at low (v + 2 * j) ≤ x) → youngest vs low ≤ x
unfolding youngest
all_le [] low x h = omega arith
all_le (v ∷ vs) low x h = omega (arith, in_le v 4 low x (λ j l. h v j (inl refl) l), all_le vs low x (λ u j y l. h u j (inr y) l))

all_ge : (vs : List ℕ) (low : List ℕ) (v j : ℕ) → Mem v vs → j < 4 → cell_at low (v + 2 * j) ≤ youngest vs low
unfolding youngest
all_ge [] low v j x l = elim x [ ]
all_ge (u ∷ vs) low v j (inl x) l = rw x (omega (arith, in_ge u 4 low j l))
all_ge (u ∷ vs) low v j (inr x) l = omega (arith, all_ge vs low v j x l)

pub youngest_is : (m : Stack) → Good m → youngest (vocs_of m) (low_of m) ≡ newest_of m
youngest_is (base I) g = unfold newest_of image in refl
youngest_is (push e m) g = omega (arith, upper, lower, top, is)
  where
    is : newest_of (push e m) ≡ dp m + 2
    is = unfold newest_of in refl

    upper : youngest (vocs_of (push e m)) (low_of (push e m)) ≤ dp m + 2
    upper = all_le (vocs_of (push e m)) (low_of (push e m)) (dp m + 2) (λ v j x l. elim (mem_image e m v x) [
      | inl a ↦ elim (head_older e m g v j a l) [
        | inl b ↦ omega (arith, b.1)
        | inr b ↦ omega (arith, b, head_low m g.1 v j a l)
      ]
      | inr a ↦ omega (arith, head_new e m v j a.0 a.1 l)
    ])

    lower : cell_at (low_of (push e m)) (spot e) ≤ youngest (vocs_of (push e m)) (low_of (push e m))
    lower = all_ge (vocs_of (push e m)) (low_of (push e m)) e.voc e.thread (mem_image_older e m e.voc g.0.voc_in) g.0.thread_lt

    top : cell_at (low_of (push e m)) (spot e) ≡ dp m + 2
    top = head_joined_lem e m g

pub forth_in : (m : Stack) → Good m → Mem 270 (vocs_of m)
unfolding image
forth_in (base I) g = rw g.vocs_are (inl refl)
forth_in (push e m) g = mem_image_older e m 270 (forth_in m g.1)
