-- A trim of a stack makes the stack below it.
use Rattle.std.proofs.Common.{◌≡◌, ℕ, zero, suc, ◌+◌, ◌-◌, ◌*◌, ◌<◌, ◌≤◌, Bool, true, false, cond, ◌≢◌, ◌⊎◌, List, [], ◌∷◌, ◌++◌, length, take, sym, refl, ap, ◌∙◌, inl, inr, arith}
use Rattle.std.proofs.lemmas.List.{get_or_append_left, get_or-append_right, ext_get_or, length-take-le, get_or-take}
use Rattle.std.proofs.lemmas.Bool.{cases_eq, cases_lt}
use Rattle.image.specs.Cells.{at, cell_at, set_cell, Bytes}
use Rattle.forgetting.proofs.Raw.{fall, trim_voc, trim_vocs}
use Rattle.forgetting.proofs.Stack.{spot, framed, grow, Stack, base, push, image, Mem, Good, Under, here}
use Rattle.forgetting.proofs.CellLaws.{length-set_cell, at_other, cell_of_bytes, at_low, at_high, low_of_lem, high_of_lem}
use Rattle.forgetting.proofs.Spacing.{low_of, vocs_of, dp, heads_at, dp_push, low_push, voc_room}
use Rattle.forgetting.proofs.Kept.{good_under, dp_under, near, Head, mem_up}
use Rattle.forgetting.proofs.Heads.{head_low, falls, fall_down, fall_step}

byte_cases : (a p : ℕ) → (a ≡ p) ⊎ ((a ≡ p + 1) ⊎ ((a ≢ p) × (a ≢ p + 1)))
byte_cases a p = elim (cases_eq a p) [
  | inl x ↦ inl x
  | inr x ↦ elim (cases_eq a (p + 1)) [ inl y ↦ inr (inl y) | inr y ↦ inr (inr (x, y)) ]
]

pub set-bytes : (low : List ℕ) (p x : ℕ) → p + 1 < length low → x < 65536 → Bytes low → Bytes (set_cell low p x)
set-bytes low p x h l b a = elim (byte_cases a p) [
  | inl y ↦ rw y (omega (arith, at_low low p x h))
  | inr z ↦ elim z [
    | inl y ↦ rw y (omega (arith, at_high low p x h))
    | inr y ↦ rw (at_other low p x a y.0 y.1) (b a)
  ]
]

pub append-bytes : (xs ys : List ℕ) → Bytes xs → Bytes ys → Bytes (xs ++ ys)
append-bytes xs ys b c a = elim (cases_lt a (length xs)) [
  | inl h ↦ rw (get_or_append_left xs ys 0 a h) (b a)
  | inr h ↦ rw (get_or-append_right xs ys (length xs) a 0 refl h) (c (a - length xs))
]

-- what the image holds is bytes
pub whole : (m : Stack) → Good m → Bytes (low_of m)
unfolding image
whole (base I) g = g.whole
whole (push e m) g = rw (low_push e m) (append-bytes (set_cell (low_of m) (spot e) (dp m + 2)) (framed e (image m))
    (set-bytes (low_of m) (spot e) (dp m + 2) (omega (arith, voc_room m g.1 e.voc g.0.voc_in, g.0.thread_lt)) (omega (arith, g.0.room, dp_push e m)) (whole m g.1))
    g.0.whole)

-- a walk reads nothing below w
pub fall_agree : (n : ℕ) (low new : List ℕ) (w h : ℕ) → ((a : ℕ) → w ≤ a → at low a ≡ at new a) → fall n low w h ≡ fall n new w h
fall_agree zero low new w h f = unfold fall in refl
fall_agree (suc n) low new w h f = elim (cases_lt h w) [
  | inl x ↦ fall_down (suc n) low w h x ∙ sym (fall_down (suc n) new w h x)
  | inr x ↦ fall_step n low w h x ∙ (ap (fall n low w) (cell_of_bytes low new h (f h x) (f (h + 1) (omega arith)))
      ∙ (fall_agree n low new w (cell_at new h) f ∙ sym (fall_step n new w h x)))
]

-- while M is trimmed to s: what is restored, and the bytes P that are still to do
pub record Going (s M : Stack) (P : ℕ → Type 0) (low : List ℕ) : Type 0 where
  pub size : length low ≡ dp M
  pub high : (a : ℕ) → dp s ≤ a → at low a ≡ at (low_of M) a
  pub todo : (a : ℕ) → P a → at low a ≡ at (low_of M) a
  pub done : (a : ℕ) → a < dp s → (at low a ≡ at (low_of s) a) ⊎ P a

abbrev Todo : ℕ → ℕ → List ℕ → ℕ → Type 0
Todo v k vs a = ((v ≤ a) × (a < v + 2 * k)) ⊎ Head vs a

going_step : (s M : Stack) → Under s M → Good M → (v k : ℕ) (vs : List ℕ) (low : List ℕ) → Mem v (vocs_of s) → k < 4 → ((u : ℕ) → Mem u vs → u + 10 ≤ v)
    → Going s M (Todo v (suc k) vs) low → Going s M (Todo v k vs) (set_cell low (v + 2 * k) (fall (length low) low (dp s + 2) (cell_at low (v + 2 * k))))
going_step s M u g v k vs low h l f c = rw value record {
  size = length-set_cell low p y ∙ c.size;
  high = λ a x. at_other low p y a (omega (arith, room)) (omega (arith, room)) ∙ c.high a x;
  todo = λ a x. at_other low p y a (omega (arith, before a x)) (omega (arith, before a x)) ∙ c.todo a (more a x);
  done = λ a x. elim (byte_cases a p) [
    | inl z ↦ inl (ap (at (set_cell low p y)) z ∙ (at_low low p y inside ∙ (low_of_lem (low_of s) p (whole s gs) ∙ ap (at (low_of s)) (sym z))))
    | inr t ↦ elim t [
      | inl z ↦ inl (ap (at (set_cell low p y)) z ∙ (at_high low p y inside ∙ (high_of_lem (low_of s) p (whole s gs) ∙ ap (at (low_of s)) (sym z))))
      | inr z ↦ elim (c.done a x) [ inl q ↦ inl (at_other low p y a z.0 z.1 ∙ q) | inr q ↦ inr (less a z.0 z.1 q) ]
    ]
  ];
}
  where
    gs : Good s
    gs = good_under u g

    p : ℕ
    p = v + 2 * k

    y : ℕ
    y = cell_at (low_of s) p

    room : p + 2 ≤ dp s
    room = omega (arith, voc_room s gs v h)

    inside : p + 1 < length low
    inside = omega (arith, room, c.size, dp_under u)

    before : (a : ℕ) → Todo v k vs a → a < p
    before a (inl x) = omega (arith, x)
    before a (inr x) = omega (arith, f x.0 x.1, x.3)

    more : (a : ℕ) → Todo v k vs a → Todo v (suc k) vs a
    more a (inl x) = inl (x.0, omega (arith, x.1))
    more a (inr x) = inr x

    less : (a : ℕ) → a ≢ p → a ≢ p + 1 → Todo v (suc k) vs a → Todo v k vs a
    less a q r (inl x) = inl (x.0, omega (arith, x.1))
    less a q r (inr x) = inr x

    was : cell_at low p ≡ cell_at (low_of M) p
    was = cell_of_bytes low (low_of M) p (c.todo p (inl (omega arith, omega arith))) (c.todo (p + 1) (inl (omega arith, omega arith)))

    value : fall (length low) low (dp s + 2) (cell_at low p) ≡ y
    value = fall_agree (length low) low (low_of M) (dp s + 2) (cell_at low p) (λ a x. c.high a (omega arith))
        ∙ (ap (fall (length low) (low_of M) (dp s + 2)) was
        ∙ falls M u here g v k h l (length low) (omega (arith, c.size, head_low M g v k (mem_up u v h) l)))

going_as : {s M : Stack} {low : List ℕ} (P Q : ℕ → Type 0) → ((a : ℕ) → Q a → P a) → ((a : ℕ) → P a → Q a) → Going s M P low → Going s M Q low
going_as P Q to from c = record {
  size = c.size;
  high = c.high;
  todo = λ a x. c.todo a (to a x);
  done = λ a x. elim (c.done a x) [ inl q ↦ inl q | inr q ↦ inr (from a q) ];
}

going_voc : (s M : Stack) → Under s M → Good M → (v k : ℕ) (vs : List ℕ) (low : List ℕ) → Mem v (vocs_of s) → k ≤ 4 → ((u : ℕ) → Mem u vs → u + 10 ≤ v)
    → Going s M (Todo v k vs) low → Going s M (Head vs) (trim_voc (dp s + 2) v k low)
unfolding trim_voc
going_voc s M u g v zero vs low h l f c = going_as (Todo v zero vs) (Head vs) (λ a x. inr x)
    (λ a x. elim x [ inl y ↦ (let z : ⊥ = omega (arith, y) in absurd z) | inr y ↦ y ]) c
going_voc s M u g v (suc k) vs low h l f c =
    going_voc s M u g v k vs (set_cell low (v + 2 * k) (fall (length low) low (dp s + 2) (cell_at low (v + 2 * k)))) h (omega arith) f
    (going_step s M u g v k vs low h (omega arith) f c)

-- vocabularies descend
abbrev pub Desc : List ℕ → Type 0
Desc [] = Unit {0}
Desc (v ∷ vs) = ((u : ℕ) → Mem u vs → u + 10 ≤ v) × Desc vs

going_vocs : (s M : Stack) → Under s M → Good M → (vs : List ℕ) (low : List ℕ) → ((v : ℕ) → Mem v vs → Mem v (vocs_of s)) → Desc vs
    → Going s M (Head vs) low → Going s M (Head []) (trim_vocs (dp s + 2) vs low)
unfolding trim_vocs
going_vocs s M u g [] low h d c = c
going_vocs s M u g (v ∷ vs) low h d c = going_vocs s M u g vs (trim_voc (dp s + 2) v 4 low) (λ x y. h x (inr y)) d.1
    (going_voc s M u g v 4 vs low (h v (inl refl)) (omega arith) d.0 (going_as (Head (v ∷ vs)) (Todo v 4 vs) to from c))
  where
    to : (a : ℕ) → Todo v 4 vs a → Head (v ∷ vs) a
    to a (inl x) = (v, inl refl, x.0, omega (arith, x.1))
    to a (inr x) = (x.0, inr x.1, x.2, x.3)

    from : (a : ℕ) → Head (v ∷ vs) a → Todo v 4 vs a
    from a x = elim x.1 [ inl y ↦ inl (omega (arith, x.2, y), omega (arith, x.3, y)) | inr y ↦ inr (x.0, y, x.2, x.3) ]

desc_cond : (b : Bool) (v : ℕ) (vs : List ℕ) → ((u : ℕ) → Mem u vs → u + 10 ≤ v) → Desc vs → Desc (cond b (v ∷ vs) vs)
desc_cond true v vs h d = (h, d)
desc_cond false v vs h d = d

pub desc : (m : Stack) → Good m → Desc (vocs_of m)
unfolding image grow
desc (base I) g = rw g.vocs_are ((λ u x. absurd x), tt)
desc (push e m) g = desc_cond e.is_voc (heads_at e (image m)) (vocs_of m) (λ u x. omega (arith, voc_room m g.1 u x)) (desc m g.1)

-- trimmed at the first entry above s, the image is that of s
pub trims : (s M : Stack) → Under s M → Good M → take (dp s) (trim_vocs (dp s + 2) (vocs_of s) (low_of M)) ≡ low_of s
trims s M u g = ext_get_or 0 (take (dp s) low) (low_of s) long (λ i h. get_or-take (dp s) low i 0 (omega (arith, long)) ∙ same i (omega (arith, long)))
  where
    low : List ℕ
    low = trim_vocs (dp s + 2) (vocs_of s) (low_of M)

    end : Going s M (Head []) low
    end = going_vocs s M u g (vocs_of s) (low_of M) (λ v x. x) (desc s (good_under u g))
        record { size = refl; high = λ a x. refl; todo = λ a x. refl; done = near u g }

    long : length (take (dp s) low) ≡ dp s
    long = length-take-le (dp s) low (omega (arith, end.size, dp_under u))

    same : (i : ℕ) → i < dp s → at low i ≡ at (low_of s) i
    same i h = elim (end.done i h) [ inl x ↦ x | inr x ↦ absurd x.1 ]
