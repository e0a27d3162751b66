-- The shape of a dictionary: a stack of joined entries, and perhaps an open one.
use Rattle.std.proofs.Common.{◌≡◌, ℕ, ◌+◌, ◌-◌, ◌/◌, ◌%◌, ◌<◌, ◌≤◌, Bool, true, false, ◌⊎◌, List, ◌∷◌, ◌++◌, length, set, refl, ap, ◌∙◌, subst, inl, inr, append_assoc, arith, length-append, length-set}
use Rattle.std.proofs.lemmas.List.{append-nil, set-append_left, set-append_right}
use Rattle.image.specs.Cells.{at, cell, set_cell}
use Rattle.forgetting.proofs.Raw.{link_of}
use Rattle.forgetting.proofs.Stack.{Entry, Image, tail_of, frame, framed, Stack, base, push, image, Mem, Fits, Good, Under, here, there, fence, newest_of}
use Rattle.forgetting.proofs.Moves.{Dict}
use Rattle.forgetting.proofs.Spacing.{low_of, vocs_of, dp, dp_push}
use Rattle.forgetting.proofs.Kept.{dp_under}

-- no entry open: the dictionary is the image of a stack
pub record Shut (F : ℕ) (D : Dict) (m : Stack) : Type 0 where
  pub low_is : D.low ≡ low_of m
  pub link_is : D.voc_link ≡ link_of (vocs_of m)
  pub newest_is : D.newest ≡ newest_of m
  pub context_in : Mem D.context (vocs_of m)
  pub current_in : Mem D.current (vocs_of m)
  pub open_is : D.opened ≡ 0
  pub fence_is : fence m ≡ F
  pub good : Good m

-- the entry e open over the stack m
pub record Opened (F : ℕ) (D : Dict) (e : Entry) (m : Stack) : Type 0 where
  pub low_is : D.low ≡ low_of m ++ framed e (image m)
  pub link_is : D.voc_link ≡ link_of (vocs_of m)
  pub newest_is : D.newest ≡ newest_of m
  pub context_in : Mem D.context (vocs_of m)
  pub current_is : D.current ≡ e.voc
  pub open_is : D.opened ≡ dp m + 2
  pub fence_is : fence m ≡ F
  pub good : Good m
  pub fits : Fits e (image m)
  pub plain : e.is_voc ≡ false
  pub code_is : e.code ≡ 201
  pub thread_is : e.thread ≡ at e.name 0 % 4
  pub named : 1 ≤ length e.name

pub data Shape : Type 0 where
  shut : Stack → Shape
  opened : Entry → Stack → Shape

abbrev pub Fit : ℕ → Dict → Shape → Type 0
Fit F D (shut m) = Shut F D m
Fit F D (opened e m) = Opened F D e m

-- the word begun over s with HERE at b is there
abbrev pub Over : Stack → ℕ → Stack → Type 0
Over s b m = (e : Entry) × Under (push e s) m × (e.body ≡ b)

abbrev pub Stand : Stack → ℕ → Shape → Type 0
Stand s b (shut m) = Over s b m
Stand s b (opened e m) = ((m ≡ s) × (e.body ≡ b)) ⊎ Over s b m

pub set_cell_left : (xs ys : List ℕ) (a x : ℕ) → a + 1 < length xs → set_cell (xs ++ ys) a x ≡ set_cell xs a x ++ ys
unfolding set_cell
set_cell_left xs ys a x h = rw (set-append_left xs ys a (x % 256) (omega arith)) (set-append_left (set xs a (x % 256)) ys (a + 1) (x / 256) (simp length-set h))

pub set_cell_right : (xs ys : List ℕ) (n a x : ℕ) → length xs ≡ n → n ≤ a → set_cell (xs ++ ys) a x ≡ xs ++ set_cell ys (a - n) x
unfolding set_cell
set_cell_right xs ys n a x e h = rw (set-append_right xs ys n a (x % 256) e h)
    (set-append_right xs (set ys (a - n) (x % 256)) n (a + 1) (x / 256) e (omega arith) ∙ ap (λ k. xs ++ set (set ys (a - n) (x % 256)) k (x / 256)) off)
  where
    off : a + 1 - n ≡ a - n + 1
    off = omega arith

-- what stands of an entry before its further parameter cells
unfoldable pub head9 : Entry → ℕ → List ℕ
head9 e l = cell e.view ++ (cell l ++ (e.count ∷ (e.name ++ (cell e.code ++ cell e.body))))

pub length_head9 : (e : Entry) (l : ℕ) → length (head9 e l) ≡ 9 + length e.name
unfolding head9 cell
length_head9 e l = simp length-append (omega arith)

pub frame_split9 : (e : Entry) (l k : ℕ) → frame e l k ≡ head9 e l ++ (e.rest ++ tail_of e.is_voc k)
unfolding frame head9 cell
frame_split9 e l k = simp append_assoc

tail_plain : (b : Bool) (k : ℕ) (xs : List ℕ) → b ≡ false → xs ++ tail_of b k ≡ xs
unfolding tail_of
tail_plain true k xs q = absurd (Rattle.std.proofs.lemmas.Bool.true≢false q)
tail_plain false k xs q = append-nil xs

pub frame_plain : (e : Entry) (l k : ℕ) → e.is_voc ≡ false → frame e l k ≡ head9 e l ++ e.rest
frame_plain e l k q = frame_split9 e l k ∙ ap (λ z. head9 e l ++ z) (tail_plain e.is_voc k e.rest q)

abbrev pub with_rest : Entry → List ℕ → Entry
with_rest e r = record { voc = e.voc; thread = e.thread; view = e.view; count = e.count; name = e.name; code = e.code; body = e.body; rest = r; is_voc = e.is_voc }

abbrev pub with_count : Entry → ℕ → Entry
with_count e c = record { voc = e.voc; thread = e.thread; view = e.view; count = c; name = e.name; code = e.code; body = e.body; rest = e.rest; is_voc = e.is_voc }

pub with_rest_head : (e : Entry) (r : List ℕ) (l : ℕ) → head9 (with_rest e r) l ≡ head9 e l
unfolding head9
with_rest_head e r l = refl

pub under_cases : (x : Stack) (f : Entry) (m : Stack) → Under x (push f m) → (x ≡ push f m) ⊎ Under x m
under_cases x f m here = inl refl
under_cases x f m (there u) = inr u

under_base_is : (x : Stack) (I : Image) → Under x (base I) → x ≡ base I
under_base_is x I here = refl

abbrev Pushed : Stack → Type 0
Pushed (base I) = ⊥
Pushed (push e m) = Unit {0}

pub under_base : {e : Entry} {s : Stack} {I : Image} → Under (push e s) (base I) → ⊥
under_base {e} {s} {I} u = subst Pushed (under_base_is (push e s) I u) tt

abbrev pub pop_of : Stack → Stack
pop_of (base I) = base I
pop_of (push e m) = m

abbrev pub body_of : Entry → Stack → ℕ
body_of f (base I) = f.body
body_of f (push e m) = e.body

-- of two entries on the stack the older lies under the younger
pub under_order : {e f : Entry} {s t M : Stack} → Under (push e s) M → Under (push f t) M → dp s < dp t → Under (push e s) t
under_order {e} {f} {s} {t} u here l = elim (under_cases (push e s) f t u) [
  | inl q ↦ (let z : ⊥ = omega (arith, ap (λ x. dp (pop_of x)) q) in absurd z)
  | inr v ↦ v
]
under_order {e} {f} {s} {t} u (there {e = i} {m = m} v) l = elim (under_cases (push e s) i m u) [
  | inl q ↦ (let z : ⊥ = omega (arith, ap (λ x. dp (pop_of x)) q, dp_under v, dp_push f t) in absurd z)
  | inr w ↦ under_order w v l
]
