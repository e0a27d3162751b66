-- Each move leads from shape to shape.
use Rattle.std.proofs.Common.{◌≡◌, ℕ, zero, suc, ◌+◌, ◌-◌, ◌*◌, ◌/◌, ◌%◌, ◌<◌, ◌≤◌, max, Bool, true, false, cond, ltb, ◌≢◌, List, [], ◌∷◌, ◌++◌, length, take, drop, set, sym, refl, ap, ◌∙◌, subst, ap₂, inl, inr, append_assoc, arith, length-append, length-set}
use Rattle.std.proofs.lemmas.List.{length-drop, set_past, get_or-set_same, get_or-set_other, get_or_past, get_or-append-add, set-append_right, take_at, get_or_append_left}
use Rattle.std.proofs.lemmas.Bool.{cases_lt, cases_eq, ltb-true, ltb-false, ne_eqb, cond_both}
use Rattle.image.specs.Cells.{at, cell_at, cell, set_cell, Bytes}
use Rattle.forgetting.proofs.Raw.{link_of, left, first_at, youngest, youngest_in, trim_vocs}
use Rattle.forgetting.proofs.Stack.{Entry, Image, spot, tail_of, frame, framed, grow, Stack, base, push, image, Mem, Booted, Fits, Good, Under, here, there, fence, newest_of}
use Rattle.forgetting.proofs.Moves.{marked, Dict, Move, colon, make, append, patch, semi, immediate, does, allot, seek, definitions, forget, give_up, apply, Allowed, Ends, entry_of, begun, chain_of, Begins, Appends, Patches, Doing, Finds}
use Rattle.forgetting.proofs.Story.{Begin}
use Rattle.forgetting.proofs.CellLaws.{length-set_cell, cell_of_bytes}
use Rattle.forgetting.proofs.Spacing.{low_of, vocs_of, dp, heads_at, low_push, length_grow, length_frame, voc_room}
use Rattle.forgetting.proofs.Kept.{good_under, under_pop, mem_image_older, voc_under, at_after, push_right, cell_from}
use Rattle.forgetting.proofs.Trims.{trims, set-bytes, append-bytes}
use Rattle.forgetting.proofs.Chains.{forth_in, chain_in, chain_is, left_is, body_is, found, On, youngest_is, link_low}
use Rattle.forgetting.proofs.Shape.{under_base, pop_of, body_of, under_cases, Shut, Opened, Shape, shut, opened, Fit, Stand, Over, set_cell_left, set_cell_right, head9, length_head9, frame_plain, with_rest, with_count, under_order}

-- what a move leaves: a shape again, and every word that the move does not end
abbrev pub Goes : ℕ → Move → Dict → Shape → Type 0
Goes F v D x = (y : Shape) × Fit F (apply v D) y × ((s : Stack) (b : ℕ) → Stand s b x → ¬ Ends v (dp s + 2) D → Stand s b y)

pub chain_of_lem : (F : ℕ) (D : Dict) (m : Stack) → Shut F D m → chain_of D ≡ vocs_of m
chain_of_lem F D m c = rw (c.low_is, c.link_is) (chain_is m m here c.good (dp m) (link_low m c.good))

pub fence_under : {s m : Stack} → Under s m → fence s ≡ fence m
unfolding fence
fence_under here = refl
fence_under (there u) = fence_under u

-- FORGET of the entry over s
module _ (F : ℕ) (D : Dict) (M s : Stack) (e : Entry) (c : Shut F D M) (u : Under (push e s) M) where
  left_over : left (dp s + 2) (chain_of D) ≡ vocs_of s
  left_over = ap (left (dp s + 2)) (chain_of_lem F D M c) ∙ left_is (under_pop u) c.good

  pub forget_low : (apply (forget (dp s + 2)) D).low ≡ low_of s
  unfolding apply
  forget_low = rw (left_over, c.low_is) (ap (λ k. take k (trim_vocs (dp s + 2) (vocs_of s) (low_of M))) two ∙ trims s M (under_pop u) c.good)
    where
      two : dp s + 2 - 2 ≡ dp s
      two = omega arith

  pub forget_top : (apply (forget (dp s + 2)) D).here ≡ e.body
  unfolding apply
  forget_top = rw c.low_is (body_is u c.good)

  pub forget_link : (apply (forget (dp s + 2)) D).voc_link ≡ link_of (vocs_of s)
  unfolding apply
  forget_link = ap link_of left_over

  pub forget_newest : (apply (forget (dp s + 2)) D).newest ≡ newest_of s
  unfolding apply
  forget_newest = ap₂ youngest left_over forget_low ∙ youngest_is s (good_under (under_pop u) c.good)

pub go_forget : (F : ℕ) (D : Dict) (M : Stack) (w : ℕ) → Shut F D M → Finds F w D → Goes F (forget w) D (shut M)
go_forget F D M w c f = rw o.3 (
  shut s,
  record {
    low_is = forget_low F D M s o.0 c o.2;
    link_is = forget_link F D M s o.0 c o.2;
    newest_is = forget_newest F D M s o.0 c o.2;
    context_in = unfold apply in cond_both (ltb (dp s + 2) D.context) 270 D.context (λ v. Mem v (vocs_of s)) (λ q. forth_in s gs)
        (λ q. voc_under (under_pop o.2) D.context c.context_in (omega (arith, ltb-false (dp s + 2) D.context q)));
    current_in = unfold apply in o.4;
    open_is = unfold apply in refl;
    fence_is = fence_under (under_pop o.2) ∙ c.fence_is;
    good = gs;
  },
  λ t b x n. (x.0, under_order x.1 o.2 (lower t n), x.2),
)
  where
    o : On D.current w M
    o = found M M here c.good D.current f.thread c.current_in f.thread_lt (cell_at (low_of M) (D.current + 2 * f.thread)) w refl
        (rw c.low_is at f.walk) (rw c.fence_is f.high)

    s : Stack
    s = o.1

    gs : Good s
    gs = good_under (under_pop o.2) c.good

    lower : (t : Stack) → ¬ (dp s + 2 ≤ dp t + 2) → dp t < dp s
    lower t n = omega arith

pub go_give_up_shut : (F : ℕ) (D : Dict) (m : Stack) → Shut F D m → Goes F give_up D (shut m)
unfolding apply
go_give_up_shut F D m c = (
  shut m,
  record {
    low_is = rw c.open_is c.low_is;
    link_is = c.link_is;
    newest_is = c.newest_is;
    context_in = c.context_in;
    current_in = c.current_in;
    open_is = refl;
    fence_is = c.fence_is;
    good = c.good;
  },
  λ s b x n. x,
)

pub go_give_up_open : (F : ℕ) (D : Dict) (e : Entry) (m : Stack) → Opened F D e m → Goes F give_up D (opened e m)
unfolding apply
go_give_up_open F D e m c = (
  shut m,
  record {
    low_is = rw (ne_eqb D.opened 0 (λ q. omega (arith, c.open_is)), c.open_is, c.low_is) (ap (λ k. take k (low_of m ++ framed e (image m))) two ∙ take_at (low_of m) (framed e (image m)) (dp m) refl);
    link_is = c.link_is;
    newest_is = c.newest_is;
    context_in = c.context_in;
    current_in = rw c.current_is c.fits.voc_in;
    open_is = refl;
    fence_is = c.fence_is;
    good = c.good;
  },
  λ s b x n. elim x [ inl y ↦ absurd (n (c.open_is ∙ ap (λ z. dp z + 2) y.0)) | inr y ↦ y ],
)
  where
    two : dp m + 2 - 2 ≡ dp m
    two = omega arith

-- what is begun fits
module _ (F : ℕ) (D : Dict) (m : Stack) (e : Entry) (c : Shut F D m) (a : Begins e D) where
  pub begun_is : begun e D ≡ low_of m ++ framed e (image m)
  unfolding framed
  begun_is = ap₂ (λ l k. l ++ frame e (cell_at l (spot e)) k) c.low_is c.link_is

  framed_is : frame e (cell_at D.low (spot e)) D.voc_link ≡ framed e (image m)
  unfolding framed
  framed_is = ap₂ (λ l k. frame e (cell_at l (spot e)) k) c.low_is c.link_is

  pub length_framed : length (framed e (image m)) ≡ 9 + length e.name + length e.rest + cond e.is_voc 10 0
  unfolding framed
  length_framed = length_frame e (cell_at (low_of m) (spot e)) (link_of (vocs_of m))

  pub begun_fits : e.voc ≡ D.current → e.thread ≡ at e.name 0 % 4 → Fits e (image m)
  begun_fits q r = record {
    voc_in = rw q c.current_in;
    thread_lt = omega arith;
    counted = a.counted;
    room = rw (length_grow e (image m)) (omega (arith, a.room, ap length begun_is, length-append (low_of m) (framed e (image m)), length_framed));
    whole = rw framed_is at a.whole;
    extra = a.extra;
  }

pub go_colon : (F : ℕ) (D : Dict) (m : Stack) (view count : ℕ) (name : List ℕ) → Shut F D m → Begins (entry_of D view count name 201 [] false) D → Goes F (colon view count name) D (shut m)
unfolding apply
go_colon F D m view count name c a = (
  opened e m,
  record {
    low_is = begun_is F D m e c a;
    link_is = c.link_is;
    newest_is = c.newest_is;
    context_in = c.current_in;
    current_is = refl;
    open_is = ap (λ l. length l + 2) c.low_is;
    fence_is = c.fence_is;
    good = c.good;
    fits = begun_fits F D m e c a refl refl;
    plain = refl;
    code_is = refl;
    thread_is = refl;
    named = a.named;
  },
  λ s b x n. inr x,
)
  where
    e : Entry
    e = entry_of D view count name 201 [] false

-- begun and joined, the bytes are those of the stack with the entry
pub joined_is : (e : Entry) (m : Stack) → Good (push e m) → set_cell (low_of m ++ framed e (image m)) (spot e) (dp m + 2) ≡ low_of (push e m)
joined_is e m g = set_cell_left (low_of m) (framed e (image m)) (spot e) (dp m + 2) (omega (arith, voc_room m g.1 e.voc g.0.voc_in, g.0.thread_lt)) ∙ sym (low_push e m)

link_cond : (b : Bool) (n k h : ℕ) (vs : List ℕ) → n ≡ h + cond b 10 0 → k ≡ link_of vs → cond b (n - 2) k ≡ link_of (cond b (h ∷ vs) vs)
unfolding link_of
link_cond true n k h vs p q = omega arith
link_cond false n k h vs p q = q

pub go_make : (F : ℕ) (D : Dict) (m : Stack) (view count : ℕ) (name : List ℕ) (code : ℕ) (rest : List ℕ) (is_voc : Bool) (more : ℕ) → Shut F D m
    → Begins (entry_of D view count name code rest is_voc) D → Goes F (make view count name code rest is_voc more) D (shut m)
unfolding apply newest_of fence
go_make F D m view count name code rest is_voc more c a = (
  shut (push e m),
  record {
    low_is = ap₂ (λ l k. set_cell l (spot e) (length k + 2)) (begun_is F D m e c a) c.low_is ∙ joined_is e m g;
    link_is = unfold image grow in link_cond is_voc (length (begun e D)) D.voc_link (heads_at e (image m)) (vocs_of m) long c.link_is;
    newest_is = ap (λ l. length l + 2) c.low_is;
    context_in = mem_image_older e m D.context c.context_in;
    current_in = mem_image_older e m D.current c.current_in;
    open_is = c.open_is;
    fence_is = c.fence_is;
    good = g;
  },
  λ s b x n. (x.0, there x.1, x.2),
)
  where
    e : Entry
    e = entry_of D view count name code rest is_voc

    g : Good (push e m)
    g = (begun_fits F D m e c a refl refl, c.good)

    long : length (begun e D) ≡ heads_at e (image m) + cond is_voc 10 0
    long = ap length (begun_is F D m e c a) ∙ (length-append (low_of m) (framed e (image m)) ∙ omega (arith, length_framed F D m e c a))

framed_plain : (e : Entry) (m : Stack) → e.is_voc ≡ false → framed e (image m) ≡ head9 e (cell_at (low_of m) (spot e)) ++ e.rest
unfolding framed
framed_plain e m q = frame_plain e (cell_at (low_of m) (spot e)) (link_of (vocs_of m)) q

framed_rest : (e : Entry) (m : Stack) (r : List ℕ) → e.is_voc ≡ false → framed (with_rest e r) (image m) ≡ head9 e (cell_at (low_of m) (spot e)) ++ r
unfolding head9
framed_rest e m r q = framed_plain (with_rest e r) m q

bytes_front : (xs ys : List ℕ) → Bytes (xs ++ ys) → Bytes xs
bytes_front xs ys b a = elim (cases_lt a (length xs)) [
  | inl h ↦ rw (get_or_append_left xs ys 0 a h) at (b a)
  | inr h ↦ rw (get_or_past xs a 0 h) (omega arith)
]

bytes_back : (xs ys : List ℕ) → Bytes (xs ++ ys) → Bytes ys
bytes_back xs ys b a = rw (get_or-append-add xs ys a 0) at (b (length xs + a))

-- the open entry with other further parameter cells
module _ (F : ℕ) (D : Dict) (e : Entry) (m : Stack) (c : Opened F D e m) (r : List ℕ) where
  l9 : ℕ
  l9 = cell_at (low_of m) (spot e)

  low9 : D.low ≡ low_of m ++ (head9 e (cell_at (low_of m) (spot e)) ++ e.rest)
  low9 = c.low_is ∙ ap (λ z. low_of m ++ z) (framed_plain e m c.plain)

  rest_fits : dp m + 9 + length e.name + length r ≤ 32768 → Bytes r → Fits (with_rest e r) (image m)
  rest_fits h b = record {
    voc_in = c.fits.voc_in;
    thread_lt = c.fits.thread_lt;
    counted = c.fits.counted;
    room = rw (length_grow (with_rest e r) (image m)) (omega (arith, ap (λ b. cond {A = ℕ} b 10 0) c.plain));
    whole = rw (framed_rest e m r c.plain) (append-bytes (head9 e (cell_at (low_of m) (spot e))) r
        (bytes_front (head9 e (cell_at (low_of m) (spot e))) e.rest (rw (framed_plain e m c.plain) at c.fits.whole)) b);
    extra = λ x. elim x [ inl y ↦ (let z : ⊥ = omega (arith, c.code_is) in absurd z) | inr y ↦ (let z : ⊥ = omega (arith, c.code_is) in absurd z) ];
  }

  rest_opened : (D' : Dict) → D'.low ≡ low_of m ++ (head9 e (cell_at (low_of m) (spot e)) ++ r) → D'.voc_link ≡ D.voc_link → D'.newest ≡ D.newest
      → D'.context ≡ D.context → D'.current ≡ D.current → D'.opened ≡ D.opened
      → dp m + 9 + length e.name + length r ≤ 32768 → Bytes r → Opened F D' (with_rest e r) m
  rest_opened D' p q₁ q₂ q₃ q₄ q₅ h b = record {
    low_is = p ∙ ap (λ z. low_of m ++ z) (sym (framed_rest e m r c.plain));
    link_is = q₁ ∙ c.link_is;
    newest_is = q₂ ∙ c.newest_is;
    context_in = rw q₃ c.context_in;
    current_is = q₄ ∙ c.current_is;
    open_is = q₅ ∙ c.open_is;
    fence_is = c.fence_is;
    good = c.good;
    fits = rest_fits h b;
    plain = c.plain;
    code_is = c.code_is;
    thread_is = c.thread_is;
    named = c.named;
  }

pub go_append : (F : ℕ) (D : Dict) (e : Entry) (m : Stack) (bs : List ℕ) → Opened F D e m → Appends bs D → Goes F (append bs) D (opened e m)
unfolding apply
go_append F D e m bs c a = (
  opened (with_rest e (e.rest ++ bs)) m,
  rest_opened F D e m c (e.rest ++ bs) (apply (append bs) D) bytes refl refl refl refl refl
      (omega (arith, a.room, ap length (low9 F D e m c bs), length-append (low_of m) (h ++ e.rest), length-append h e.rest, length-append e.rest bs, length_head9 e (cell_at (low_of m) (spot e))))
      (append-bytes e.rest bs (bytes_back h e.rest (rw (framed_plain e m c.plain) at c.fits.whole)) a.whole),
  λ s b x n. x,
)
  where
    h : List ℕ
    h = head9 e (cell_at (low_of m) (spot e))

    bytes : (apply (append bs) D).low ≡ low_of m ++ (h ++ (e.rest ++ bs))
    bytes = rw (low9 F D e m c bs) (simp append_assoc)

framed_count : (e : Entry) (I : Image) → at (framed e I) 4 ≡ e.count
unfolding framed frame cell
framed_count e I = refl

framed_name : (e : Entry) (I : Image) → 1 ≤ length e.name → at (framed e I) 5 ≡ at e.name 0
unfolding framed frame cell
framed_name e I h = get_or_append_left e.name _ 0 0 h

plain_vocs : (e : Entry) (m : Stack) → e.is_voc ≡ false → vocs_of (push e m) ≡ vocs_of m
unfolding image grow
plain_vocs e m q = rw q

open_at : (F : ℕ) (D : Dict) (e : Entry) (m : Stack) → Opened F D e m → (a j : ℕ) → a ≡ dp m + j → at D.low a ≡ at (framed e (image m)) j
open_at F D e m c a j q = ap₂ at c.low_is q ∙ at_after (low_of m) (framed e (image m)) (dp m) j refl

pub open_first : (F : ℕ) (D : Dict) (e : Entry) (m : Stack) → Opened F D e m → first_at D.low D.opened ≡ dp m + (7 + length e.name)
unfolding first_at
open_first F D e m c = rw (open_at F D e m c (D.opened + 2) 4 (omega (arith, c.open_is)) ∙ framed_count e (image m)) (omega (arith, c.open_is, c.fits.counted))

pub open_long : (F : ℕ) (D : Dict) (e : Entry) (m : Stack) → Opened F D e m → length D.low ≡ dp m + (9 + length e.name) + length e.rest
open_long F D e m c = ap length (low9 F D e m c []) ∙ (length-append (low_of m) (head9 e l ++ e.rest) ∙ omega (arith, length-append (head9 e l) e.rest, length_head9 e l))
  where
    l : ℕ
    l = cell_at (low_of m) (spot e)

pub go_patch : (F : ℕ) (D : Dict) (e : Entry) (m : Stack) (a x : ℕ) → Opened F D e m → Patches a x D → Goes F (patch a x) D (opened e m)
unfolding apply
go_patch F D e m a x c q = (
  opened (with_rest e r) m,
  rest_opened F D e m c r (apply (patch a x) D) bytes refl refl refl refl refl
      (rw (length-set_cell e.rest (a - n) x) (omega (arith, c.fits.room, length_grow e (image m))))
      (set-bytes e.rest (a - n) x (omega (arith, open_long F D e m c, q.below, from)) q.value (bytes_back h e.rest (rw (framed_plain e m c.plain) at c.fits.whole))),
  λ s b y z. y,
)
  where
    h : List ℕ
    h = head9 e (cell_at (low_of m) (spot e))

    n : ℕ
    n = dp m + (9 + length e.name)

    r : List ℕ
    r = set_cell e.rest (a - n) x

    front_long : length (low_of m ++ h) ≡ n
    front_long = length-append (low_of m) h ∙ ap (λ k. dp m + k) (length_head9 e (cell_at (low_of m) (spot e)))

    low_split : D.low ≡ (low_of m ++ h) ++ e.rest
    low_split = low9 F D e m c r ∙ sym (append_assoc (low_of m) h e.rest)

    from : n ≤ a
    from = omega (arith, q.above, open_first F D e m c)

    bytes : set_cell D.low a x ≡ low_of m ++ (h ++ r)
    bytes = rw low_split (set_cell_right (low_of m ++ h) e.rest n a x front_long from ∙ append_assoc (low_of m) h r)

pub go_semi : (F : ℕ) (D : Dict) (e : Entry) (m : Stack) → Opened F D e m → Goes F semi D (opened e m)
unfolding apply newest_of fence
go_semi F D e m c = (
  shut (push e m),
  record {
    low_is = rw (c.current_is, c.open_is, thread_of_lem, c.low_is) (joined_is e m g);
    link_is = c.link_is ∙ ap link_of (sym vocs_are);
    newest_is = c.open_is;
    context_in = mem_image_older e m D.context c.context_in;
    current_in = rw c.current_is (mem_image_older e m e.voc c.fits.voc_in);
    open_is = refl;
    fence_is = c.fence_is;
    good = g;
  },
  λ s b x n. elim x [ inl y ↦ subst (λ t. Over t b (push e m)) y.0 (e, here, y.1) | inr y ↦ (y.0, there y.1, y.2) ],
)
  where
    g : Good (push e m)
    g = (c.fits, c.good)

    vocs_are : vocs_of (push e m) ≡ vocs_of m
    vocs_are = plain_vocs e m c.plain

    thread_of_lem : at D.low (dp m + 2 + 3) % 4 ≡ e.thread
    thread_of_lem = ap (λ k. k % 4) (open_at F D e m c (dp m + 2 + 3) 5 (omega arith) ∙ framed_name e (image m) c.named) ∙ sym c.thread_is

-- IMMEDIATE and (;CODE) change the youngest entry only
swap_top : (s : Stack) (b : ℕ) (e f : Entry) (m : Stack) → f.body ≡ e.body → Over s b (push e m) → Over s b (push f m)
swap_top s b e f m q x = elim (under_cases (push x.0 s) e m x.1) [
  | inl y ↦ subst (λ t. Over t b (push f m)) (sym (ap pop_of y)) (f, here, q ∙ (sym (ap (body_of e) y) ∙ x.2))
  | inr y ↦ (x.0, there y, x.2)
]

set_count : (e : Entry) (I : Image) (c : ℕ) → set (framed e I) 4 c ≡ framed (with_count e c) I
unfolding framed frame cell
set_count e I c = refl

marked_same : (c : ℕ) → marked c % 32 ≡ c % 32
marked_same c = cond_both (ltb (c % 128) 64) (c + 64) c (λ x. x % 32 ≡ c % 32) (λ q. omega arith) (λ q. refl)

marked_byte : (c : ℕ) → c < 256 → marked c < 256
marked_byte c h = cond_both (ltb (c % 128) 64) (c + 64) c (λ x. x < 256) (λ q. omega (arith, ltb-true (c % 128) 64 q)) (λ q. h)

set_bytes_1 : (low : List ℕ) (i x : ℕ) → x < 256 → Bytes low → Bytes (set low i x)
set_bytes_1 low i x h b a = elim (cases_lt i (length low)) [
  | inl l ↦ elim (cases_eq a i) [ inl q ↦ rw (q, get_or-set_same low i x 0 l) h | inr q ↦ rw (get_or-set_other low i a x 0 q) (b a) ]
  | inr l ↦ rw (set_past low i x l) (b a)
]

-- another youngest entry of the same size in its place
module _ (e f : Entry) (m : Stack) (p : f.is_voc ≡ e.is_voc) (q : length f.name ≡ length e.name) (r : length f.rest ≡ length e.rest) where
  same_vocs : vocs_of (push f m) ≡ vocs_of (push e m)
  unfolding image grow
  same_vocs = rw (p, q, r)

  same_room : length (grow e (image m)).low ≤ 32768 → length (grow f (image m)).low ≤ 32768
  same_room h = rw (length_grow f (image m), p, q, r) (rw (length_grow e (image m)) at h)

  retop : (F : ℕ) (D D' : Dict) → Shut F D (push e m) → D'.low ≡ low_of (push f m) → D'.voc_link ≡ D.voc_link → D'.newest ≡ D.newest
      → D'.context ≡ D.context → D'.current ≡ D.current → D'.opened ≡ D.opened → Fits f (image m) → Shut F D' (push f m)
  unfolding newest_of fence
  retop F D D' c l q₁ q₂ q₃ q₄ q₅ t = record {
    low_is = l;
    link_is = q₁ ∙ (c.link_is ∙ ap link_of (sym same_vocs));
    newest_is = q₂ ∙ c.newest_is;
    context_in = rw (q₃, same_vocs) c.context_in;
    current_in = rw (q₄, same_vocs) c.current_in;
    open_is = q₅ ∙ c.open_is;
    fence_is = c.fence_is;
    good = (t, c.good.1);
  }

top_at : (F : ℕ) (D : Dict) (e : Entry) (m : Stack) → Shut F D (push e m) → (a j : ℕ) → a ≡ dp m + j → at D.low a ≡ at (framed e (image m)) j
top_at F D e m c a j q = ap₂ at c.low_is q ∙ push_right e m j

newest_top : (F : ℕ) (D : Dict) (e : Entry) (m : Stack) → Shut F D (push e m) → D.newest ≡ dp m + 2
unfolding newest_of
newest_top F D e m c = c.newest_is

-- a write into the youngest entry
top_set : (F : ℕ) (D : Dict) (e : Entry) (m : Stack) → Shut F D (push e m) → D.low ≡ set_cell (low_of m) (spot e) (dp m + 2) ++ framed e (image m)
top_set F D e m c = c.low_is ∙ low_push e m

pub go_immediate_top : (F : ℕ) (D : Dict) (e : Entry) (m : Stack) → Shut F D (push e m) → Goes F immediate D (shut (push e m))
unfolding apply
go_immediate_top F D e m c = (shut (push f m), retop e f m refl refl refl F D (apply immediate D) c bytes refl refl refl refl refl fit, λ s b x n. swap_top s b e f m refl x)
  where
    g : Good (push e m)
    g = c.good

    c' : ℕ
    c' = marked e.count

    f : Entry
    f = with_count e c'

    now_is : at D.low (D.newest + 2) ≡ e.count
    now_is = top_at F D e m c (D.newest + 2) 4 (omega (arith, newest_top F D e m c)) ∙ framed_count e (image m)

    four : D.newest + 2 - dp m ≡ 4
    four = omega (arith, newest_top F D e m c)

    bytes : set D.low (D.newest + 2) (marked (at D.low (D.newest + 2))) ≡ low_of (push f m)
    bytes = ap (λ k. set D.low (D.newest + 2) (marked k)) now_is
        ∙ (ap (λ l. set l (D.newest + 2) c') (top_set F D e m c)
        ∙ (set-append_right (set_cell (low_of m) (spot e) (dp m + 2)) (framed e (image m)) (dp m) (D.newest + 2) c' (length-set_cell (low_of m) (spot e) (dp m + 2)) (omega (arith, newest_top F D e m c))
        ∙ (ap (λ k. set_cell (low_of m) (spot e) (dp m + 2) ++ set (framed e (image m)) k c') four
        ∙ (ap (λ z. set_cell (low_of m) (spot e) (dp m + 2) ++ z) (set_count e (image m) c') ∙ sym (low_push f m)))))

    fit : Fits f (image m)
    fit = record {
      voc_in = g.0.voc_in;
      thread_lt = g.0.thread_lt;
      counted = marked_same e.count ∙ g.0.counted;
      room = same_room e f m refl refl refl g.0.room;
      whole = rw (← set_count e (image m) c') (set_bytes_1 (framed e (image m)) 4 c' (marked_byte e.count (rw (framed_count e (image m)) at (g.0.whole 4))) g.0.whole);
      extra = g.0.extra;
    }

-- (;CODE)
abbrev with_does : Entry → ℕ → Entry
with_does e x = record { voc = e.voc; thread = e.thread; view = e.view; count = e.count; name = e.name; code = 205; body = e.body; rest = cell x ++ drop 2 e.rest; is_voc = e.is_voc }

front5 : Entry → ℕ → List ℕ
front5 e l = cell e.view ++ (cell l ++ (e.count ∷ e.name))

length_front5 : (e : Entry) (l : ℕ) → length (front5 e l) ≡ 5 + length e.name
unfolding front5 cell
length_front5 e l = simp length-append (omega arith)

frame_split5 : (e : Entry) (l k : ℕ) → frame e l k ≡ front5 e l ++ (cell e.code ++ (cell e.body ++ (e.rest ++ tail_of e.is_voc k)))
unfolding frame front5 cell
frame_split5 e l k = simp append_assoc

set_code : (c d : ℕ) (z : List ℕ) → set_cell (cell c ++ z) 0 d ≡ cell d ++ z
unfolding set_cell cell
set_code c d z = refl

set_extra : (c b x : ℕ) (rest tail : List ℕ) → 2 ≤ length rest → set_cell (cell c ++ (cell b ++ (rest ++ tail))) 4 x ≡ cell c ++ (cell b ++ ((cell x ++ drop 2 rest) ++ tail))
unfolding set_cell cell
set_extra c b x [] tail h = let z : ⊥ = omega arith in absurd z
set_extra c b x (r ∷ []) tail h = let z : ⊥ = omega arith in absurd z
set_extra c b x (r ∷ (q ∷ rest)) tail h = refl

set_does : (e : Entry) (l k x : ℕ) → 2 ≤ length e.rest → set_cell (set_cell (frame e l k) (5 + length e.name) 205) (9 + length e.name) x ≡ frame (with_does e x) l k
set_does e l k x h =
    ap (λ z. set_cell (set_cell z (5 + length e.name) 205) (9 + length e.name) x) (frame_split5 e l k)
    ∙ (ap (λ z. set_cell z (9 + length e.name) x) (set_cell_right (front5 e l) (cell e.code ++ more) n (5 + length e.name) 205 (length_front5 e l) (omega arith)
    ∙ (ap (λ j. front5 e l ++ set_cell (cell e.code ++ more) j 205) none ∙ ap (λ z. front5 e l ++ z) (set_code e.code 205 more)))
    ∙ (set_cell_right (front5 e l) (cell 205 ++ more) n (9 + length e.name) x (length_front5 e l) (omega arith)
    ∙ (ap (λ j. front5 e l ++ set_cell (cell 205 ++ more) j x) four
    ∙ (ap (λ z. front5 e l ++ z) (set_extra 205 e.body x e.rest (tail_of e.is_voc k) h) ∙ back))))
  where
    n : ℕ
    n = 5 + length e.name

    more : List ℕ
    more = cell e.body ++ (e.rest ++ tail_of e.is_voc k)

    none : 5 + length e.name - n ≡ 0
    none = omega arith

    four : 9 + length e.name - n ≡ 4
    four = omega arith

    back : front5 e l ++ (cell 205 ++ (cell e.body ++ ((cell x ++ drop 2 e.rest) ++ tail_of e.is_voc k))) ≡ frame (with_does e x) l k
    back = (unfold front5 in sym (frame_split5 (with_does e x) l k))

does_bytes : (e : Entry) (m : Stack) (x : ℕ) → 2 ≤ length e.rest
    → set_cell (set_cell (framed e (image m)) (5 + length e.name) 205) (9 + length e.name) x ≡ framed (with_does e x) (image m)
unfolding framed
does_bytes e m x h = set_does e (cell_at (low_of m) (spot e)) (link_of (vocs_of m)) x h

code_bytes : (e : Entry) (I : Image) → (at (framed e I) (5 + length e.name + 0) ≡ e.code % 256) × (at (framed e I) (5 + length e.name + 1) ≡ e.code / 256)
unfolding framed
code_bytes e I = rw (frame_split5 e (cell_at I.low (spot e)) (link_of I.vocs))
    (at_after (front5 e l) more (5 + length e.name) 0 (length_front5 e l) ∙ (unfold cell in refl), at_after (front5 e l) more (5 + length e.name) 1 (length_front5 e l) ∙ (unfold cell in refl))
  where
    l : ℕ
    l = cell_at I.low (spot e)

    more : List ℕ
    more = cell e.code ++ (cell e.body ++ (e.rest ++ tail_of e.is_voc (link_of I.vocs)))

pub go_does_top : (F : ℕ) (D : Dict) (e : Entry) (m : Stack) (x : ℕ) → Shut F D (push e m) → Doing x D → Goes F (does x) D (shut (push e m))
unfolding apply
go_does_top F D e m x c a = (shut (push f m), retop e f m refl refl long F D (apply (does x) D) c bytes refl refl refl refl refl fit, λ s b y n. swap_top s b e f m refl y)
  where
    g : Good (push e m)
    g = c.good

    f : Entry
    f = with_does e x

    base' : List ℕ
    base' = set_cell (low_of m) (spot e) (dp m + 2)

    base_long : length base' ≡ dp m
    base_long = length-set_cell (low_of m) (spot e) (dp m + 2)

    count_is : at D.low (D.newest + 2) ≡ e.count
    count_is = top_at F D e m c (D.newest + 2) 4 (omega (arith, newest_top F D e m c)) ∙ framed_count e (image m)

    first : first_at D.low D.newest ≡ dp m + 7 + length e.name
    first = unfold first_at in rw count_is (omega (arith, newest_top F D e m c, g.0.counted))

    code_is : cell_at D.low (first_at D.low D.newest - 2) ≡ e.code
    code_is = cell_from D.low (first_at D.low D.newest - 2) e.code
        (top_at F D e m c (first_at D.low D.newest - 2) (5 + length e.name + 0) (omega (arith, first)) ∙ (code_bytes e (image m)).0)
        (top_at F D e m c (first_at D.low D.newest - 2 + 1) (5 + length e.name + 1) (omega (arith, first)) ∙ (code_bytes e (image m)).1)

    roomy : (2 ≤ length e.rest) × (e.is_voc ≡ false)
    roomy = g.0.extra (elim a.code [ inl y ↦ inl (sym code_is ∙ y) | inr y ↦ inr (sym code_is ∙ y) ])

    long : length f.rest ≡ length e.rest
    long = length-append (cell x) (drop 2 e.rest) ∙ (unfold cell in omega (arith, length-drop 2 e.rest, roomy.0))

    p₁ : first_at D.low D.newest - 2 - dp m ≡ 5 + length e.name
    p₁ = omega (arith, first)

    p₂ : first_at D.low D.newest + 2 - dp m ≡ 9 + length e.name
    p₂ = omega (arith, first)

    bytes : set_cell (set_cell D.low (first_at D.low D.newest - 2) 205) (first_at D.low D.newest + 2) x ≡ low_of (push f m)
    bytes = ap (λ z. set_cell (set_cell z (first_at D.low D.newest - 2) 205) (first_at D.low D.newest + 2) x) (top_set F D e m c)
        ∙ (ap (λ z. set_cell z (first_at D.low D.newest + 2) x) (set_cell_right base' (framed e (image m)) (dp m) (first_at D.low D.newest - 2) 205 base_long (omega (arith, first)))
        ∙ (set_cell_right base' (set_cell (framed e (image m)) (first_at D.low D.newest - 2 - dp m) 205) (dp m) (first_at D.low D.newest + 2) x base_long (omega (arith, first))
        ∙ (ap₂ (λ i j. base' ++ set_cell (set_cell (framed e (image m)) i 205) j x) p₁ p₂
        ∙ (ap (λ z. base' ++ z) (does_bytes e m x roomy.0) ∙ sym (low_push f m)))))

    framed_long : length (framed e (image m)) ≡ 9 + length e.name + length e.rest + cond e.is_voc 10 0
    framed_long = unfold framed in length_frame e (cell_at (low_of m) (spot e)) (link_of (vocs_of m))

    fit : Fits f (image m)
    fit = record {
      voc_in = g.0.voc_in;
      thread_lt = g.0.thread_lt;
      counted = g.0.counted;
      room = same_room e f m refl refl long g.0.room;
      whole = rw (← does_bytes e m x roomy.0) (set-bytes (set_cell (framed e (image m)) (5 + length e.name) 205) (9 + length e.name) x
          (rw (length-set_cell (framed e (image m)) (5 + length e.name) 205) (omega (arith, framed_long, roomy.0))) a.value
          (set-bytes (framed e (image m)) (5 + length e.name) 205 (omega (arith, framed_long)) (omega arith) g.0.whole));
      extra = λ y. (rw long roomy.0, roomy.1);
    }

-- boot's own newest is no created word
pub no_does_base : (F : ℕ) (D : Dict) (I : Image) (x : ℕ) → Shut F D (base I) → Doing x D → ⊥
no_does_base F D I x c a = elim a.code [ inl y ↦ omega (arith, low) | inr y ↦ omega (arith, low) ]
  where
    newest_is : D.newest ≡ youngest I.vocs I.low
    newest_is = unfold newest_of in c.newest_is

    low_is : D.low ≡ I.low
    low_is = unfold image in c.low_is

    low : cell_at D.low (first_at D.low D.newest - 2) < 202
    low = rw (newest_is, low_is) c.good.kernel

set_other_cell : (low : List ℕ) (i x a : ℕ) → a ≢ i → a + 1 ≢ i → cell_at (set low i x) a ≡ cell_at low a
set_other_cell low i x a p q = cell_of_bytes (set low i x) low a (get_or-set_other low i a x 0 p) (get_or-set_other low i (a + 1) x 0 q)

in_same : (low new : List ℕ) (v k : ℕ) → ((j : ℕ) → j < k → cell_at new (v + 2 * j) ≡ cell_at low (v + 2 * j)) → youngest_in v k new ≡ youngest_in v k low
unfolding youngest_in
in_same low new v zero h = refl
in_same low new v (suc k) h = ap₂ max (h k (omega arith)) (in_same low new v k (λ j l. h j (omega arith)))

forth_youngest : (low new : List ℕ) (vs : List ℕ) → vs ≡ 270 ∷ [] → ((j : ℕ) → j < 4 → cell_at new (270 + 2 * j) ≡ cell_at low (270 + 2 * j)) → youngest vs new ≡ youngest vs low
unfolding youngest
forth_youngest low new vs q h = rw q (ap (λ k. max k 0) (in_same low new 270 4 h))

pub go_immediate_base : (F : ℕ) (D : Dict) (I : Image) → Shut F D (base I) → Goes F immediate D (shut (base I))
unfolding apply image newest_of fence
go_immediate_base F D I c = (
  shut (base J),
  record {
    low_is = rw (c.newest_is, c.low_is) refl;
    link_is = c.link_is;
    newest_is = c.newest_is ∙ sym young;
    context_in = c.context_in;
    current_in = c.current_in;
    open_is = c.open_is;
    fence_is = length-set I.low i k ∙ c.fence_is;
    good = record {
      vocs_are = g.vocs_are;
      ends = set_other_cell I.low i k 278 (omega (arith, g.newest_from)) (omega (arith, g.newest_from)) ∙ g.ends;
      long = rw (length-set I.low i k) g.long;
      room = rw (length-set I.low i k) g.room;
      heads = λ j l. rw (length-set I.low i k, set_other_cell I.low i k (270 + 2 * j) (omega (arith, g.newest_from)) (omega (arith, g.newest_from))) (g.heads j l);
      whole = set_bytes_1 I.low i k (marked_byte (at I.low i) (g.whole i)) g.whole;
      newest_from = rw young g.newest_from;
      newest_to = rw (young, length-set I.low i k) g.newest_to;
      kernel = rw (young, first_same, set_other_cell I.low i k (first_at I.low y - 2) (omega (arith, first_from)) (omega (arith, first_from))) g.kernel;
    };
  },
  λ s b x n. absurd (no_base x.1),
)
  where
    g : Booted I
    g = c.good

    y : ℕ
    y = youngest I.vocs I.low

    i : ℕ
    i = y + 2

    k : ℕ
    k = marked (at I.low i)

    J : Image
    J = record { low = set I.low i k; vocs = I.vocs }

    young : youngest I.vocs (set I.low i k) ≡ y
    young = forth_youngest I.low (set I.low i k) I.vocs g.vocs_are (λ j l. set_other_cell I.low i k (270 + 2 * j) (omega (arith, g.newest_from)) (omega (arith, g.newest_from)))

    first_same : first_at (set I.low i k) y ≡ first_at I.low y
    first_same = unfold first_at in ap (λ z. y + 5 + z) (ap (λ z. z % 32) (get_or-set_same I.low i k 0 (omega (arith, g.newest_to))) ∙ marked_same (at I.low i))

    first_from : y + 5 ≤ first_at I.low y
    first_from = unfold first_at in omega arith

    no_base : {e : Entry} {s : Stack} → Under (push e s) (base I) → ⊥
    no_base u = under_base u

pub go_allot : (F : ℕ) (D : Dict) (m : Stack) (h : ℕ) → Shut F D m → Goes F (allot h) D (shut m)
unfolding apply
go_allot F D m h c = (
  shut m,
  record {
    low_is = c.low_is;
    link_is = c.link_is;
    newest_is = c.newest_is;
    context_in = c.context_in;
    current_in = c.current_in;
    open_is = c.open_is;
    fence_is = c.fence_is;
    good = c.good;
  },
  λ s b x n. x,
)

pub go_seek_shut : (F : ℕ) (D : Dict) (m : Stack) (v : ℕ) → Shut F D m → Mem v (chain_of D) → Goes F (seek v) D (shut m)
unfolding apply
go_seek_shut F D m v c h = (
  shut m,
  record {
    low_is = c.low_is;
    link_is = c.link_is;
    newest_is = c.newest_is;
    context_in = rw (chain_of_lem F D m c) at h;
    current_in = c.current_in;
    open_is = c.open_is;
    fence_is = c.fence_is;
    good = c.good;
  },
  λ s b x n. x,
)

pub chain_of_open : (F : ℕ) (D : Dict) (e : Entry) (m : Stack) → Opened F D e m → chain_of D ≡ vocs_of m
chain_of_open F D e m c = rw (c.low_is, c.link_is) (chain_in m m here c.good (low_of m ++ framed e (image m)) (λ a h. get_or_append_left (low_of m) (framed e (image m)) 0 a h)
    (length (low_of m ++ framed e (image m))) (omega (arith, link_low m c.good, length-append (low_of m) (framed e (image m)))))

pub go_seek_open : (F : ℕ) (D : Dict) (e : Entry) (m : Stack) (v : ℕ) → Opened F D e m → Mem v (chain_of D) → Goes F (seek v) D (opened e m)
unfolding apply
go_seek_open F D e m v c h = (
  opened e m,
  record {
    low_is = c.low_is;
    link_is = c.link_is;
    newest_is = c.newest_is;
    context_in = rw (chain_of_open F D e m c) at h;
    current_is = c.current_is;
    open_is = c.open_is;
    fence_is = c.fence_is;
    good = c.good;
    fits = c.fits;
    plain = c.plain;
    code_is = c.code_is;
    thread_is = c.thread_is;
    named = c.named;
  },
  λ s b x n. x,
)

pub go_definitions : (F : ℕ) (D : Dict) (m : Stack) → Shut F D m → Goes F definitions D (shut m)
unfolding apply
go_definitions F D m c = (
  shut m,
  record {
    low_is = c.low_is;
    link_is = c.link_is;
    newest_is = c.newest_is;
    context_in = c.context_in;
    current_in = c.context_in;
    open_is = c.open_is;
    fence_is = c.fence_is;
    good = c.good;
  },
  λ s b x n. x,
)

pub not_open : {A : Type 0} (F : ℕ) (D : Dict) (e : Entry) (m : Stack) → Opened F D e m → D.opened ≡ 0 → A
not_open F D e m c h = let z : ⊥ = omega (arith, c.open_is) in absurd z

pub step : (F : ℕ) (D : Dict) (x : Shape) (v : Move) → Fit F D x → Allowed F v D → Goes F v D x
step F D (shut m) (colon view count name) c a = go_colon F D m view count name c a
step F D (shut m) (make view count name code rest is_voc more) c a = go_make F D m view count name code rest is_voc more c a
step F D (shut m) (append bs) c a = absurd (a.is_open c.open_is)
step F D (shut m) (patch i y) c a = absurd (a.is_open c.open_is)
step F D (shut m) semi c a = absurd (a c.open_is)
step F D (shut (base I)) immediate c a = go_immediate_base F D I c
step F D (shut (push e m)) immediate c a = go_immediate_top F D e m c
step F D (shut (base I)) (does y) c a = absurd (no_does_base F D I y c a)
step F D (shut (push e m)) (does y) c a = go_does_top F D e m y c a
step F D (shut m) (allot h) c a = go_allot F D m h c
step F D (shut m) (seek v) c a = go_seek_shut F D m v c a
step F D (shut m) definitions c a = go_definitions F D m c
step F D (shut m) (forget w) c a = go_forget F D m w c a
step F D (shut m) give_up c a = go_give_up_shut F D m c
step F D (opened e m) (colon view count name) c a = not_open F D e m c a.shut
step F D (opened e m) (make view count name code rest is_voc more) c a = not_open F D e m c a.shut
step F D (opened e m) (append bs) c a = go_append F D e m bs c a
step F D (opened e m) (patch i y) c a = go_patch F D e m i y c a
step F D (opened e m) semi c a = go_semi F D e m c
step F D (opened e m) immediate c a = not_open F D e m c a
step F D (opened e m) (does y) c a = not_open F D e m c a.shut
step F D (opened e m) (allot h) c a = not_open F D e m c a
step F D (opened e m) (seek v) c a = go_seek_open F D e m v c a
step F D (opened e m) definitions c a = not_open F D e m c a
step F D (opened e m) (forget w) c a = not_open F D e m c a.shut
step F D (opened e m) give_up c a = go_give_up_open F D e m c

-- a word has begun over the stack as it was, with HERE as it was
pub begin_stands : (F : ℕ) (D : Dict) (m : Stack) (v : Move) → Shut F D m → Begin v → Allowed F v D → (y : Shape) × Fit F (apply v D) y × Stand m D.here y
unfolding go_colon go_make
begin_stands F D m (colon view count name) c b a = let g = go_colon F D m view count name c a in (g.0, g.1, inl (refl, refl))
begin_stands F D m (make view count name code rest is_voc more) c b a = let g = go_make F D m view count name code rest is_voc more c a in (g.0, g.1, (_, here, refl))
begin_stands F D m (append bs) c b a = absurd b
begin_stands F D m (patch i x) c b a = absurd b
begin_stands F D m semi c b a = absurd b
begin_stands F D m immediate c b a = absurd b
begin_stands F D m (does x) c b a = absurd b
begin_stands F D m (allot h) c b a = absurd b
begin_stands F D m (seek v) c b a = absurd b
begin_stands F D m definitions c b a = absurd b
begin_stands F D m (forget w) c b a = absurd b
begin_stands F D m give_up c b a = absurd b
