-- The law, over moves.
use Rattle.std.proofs.Common.{◌≡◌, ℕ, ◌+◌, ◌<◌, [], ◌∷◌, length, drop, sym, refl, ap, ◌∙◌, subst, ap₂, inl, arith}
use Rattle.forgetting.proofs.Raw.{chain, link_of}
use Rattle.forgetting.proofs.Stack.{Stack, base, image, fence, newest_of}
use Rattle.forgetting.proofs.Moves.{Dict, Move, colon, make, append, patch, semi, immediate, does, allot, seek, definitions, forget, give_up, apply, Allowed, Finds}
use Rattle.forgetting.proofs.Story.{Boots, Run, start, and_then, Keeps, still, and_still, Begin, Same, Forgotten}
use Rattle.forgetting.proofs.Spacing.{dp, dp_push}
use Rattle.forgetting.proofs.Kept.{dp_under}
use Rattle.forgetting.proofs.Chains.{On}
use Rattle.forgetting.proofs.Shape.{Shut, Shape, shut, opened, Fit, Stand, Over}
use Rattle.forgetting.proofs.Steps.{begin_stands, not_open, step, forget_low, forget_top, forget_link}

boot_fit : (Z : Dict) → Boots Z → Shut (length Z.low) Z (base (record { low = Z.low; vocs = 270 ∷ [] }))
unfolding image newest_of fence link_of
boot_fit Z b = record {
  low_is = refl;
  link_is = b.link_is;
  newest_is = b.newest_is;
  context_in = inl b.context_is;
  current_in = inl b.current_is;
  open_is = b.open_is;
  fence_is = refl;
  good = b.booted;
}

pub run_fit : (Z D : Dict) → Boots Z → Run (length Z.low) Z D → (x : Shape) × Fit (length Z.low) D x
run_fit Z D b start = (shut (base (record { low = Z.low; vocs = 270 ∷ [] })), boot_fit Z b)
run_fit Z D b (and_then {A = A} v r a) = let f = run_fit Z A b r in let g = step (length Z.low) A f.0 v f.1 a in (g.0, g.1)

keeps_fit : (F : ℕ) (s : Stack) (b : ℕ) (D E : Dict) (x : Shape) → Fit F D x → Stand s b x → Keeps F (dp s + 2) D E → (y : Shape) × Fit F E y × Stand s b y
keeps_fit F s b D E x f t still = (x, f, t)
keeps_fit F s b D E x f t (and_still {A = A} v r a n) =
    let g = keeps_fit F s b D A x f t r in
    let h = step F A g.0 v g.1 a in (h.0, h.1, h.2 s b g.2 n)

begin_shut : (F : ℕ) (D : Dict) (v : Move) → Begin v → Allowed F v D → D.opened ≡ 0
begin_shut F D (colon view count name) b a = a.shut
begin_shut F D (make view count name code rest is_voc more) b a = a.shut
begin_shut F D (append bs) b a = absurd b
begin_shut F D (patch i x) b a = absurd b
begin_shut F D semi b a = absurd b
begin_shut F D immediate b a = absurd b
begin_shut F D (does x) b a = absurd b
begin_shut F D (allot h) b a = absurd b
begin_shut F D (seek v) b a = absurd b
begin_shut F D definitions b a = absurd b
begin_shut F D (forget w) b a = absurd b
begin_shut F D give_up b a = absurd b

finish : (F : ℕ) (D E : Dict) (m : Stack) (y : Shape) → Shut F D m → Fit F E y → Stand m D.here y → Finds F (dp m + 2) E → Same (apply (forget (dp m + 2)) E) D
finish F D E m (opened e M) c f t q = not_open F E e M f q.shut
finish F D E m (shut M) c f t q = record {
  dp = ap length bytes;
  here = forget_top F E M m t.0 f t.1 ∙ t.2;
  voc_link = link;
  chain = ap₂ (λ l k. chain (length l) l k) bytes link;
  bytes = ap (drop 256) bytes;
}
  where
    bytes : (apply (forget (dp m + 2)) E).low ≡ D.low
    bytes = forget_low F E M m t.0 f t.1 ∙ sym c.low_is

    link : (apply (forget (dp m + 2)) E).voc_link ≡ D.voc_link
    link = forget_link F E M m t.0 f t.1 ∙ sym c.link_is

pub forgotten : Forgotten
forgotten Z D E v z r b a k f = go x.0 x.1
  where
    F : ℕ
    F = length Z.low

    x : (x : Shape) × Fit F D x
    x = run_fit Z D z r

    go : (y : Shape) → Fit F D y → Same (apply (forget (length D.low + 2)) E) D
    go (opened e m) c = not_open F D e m c (begin_shut F D v b a)
    go (shut m) c =
        let n : length D.low ≡ dp m = ap length c.low_is in
        let s : (y : Shape) × Fit F (apply v D) y × Stand m D.here y = begin_stands F D m v c b a in
        let h : (y : Shape) × Fit F E y × Stand m D.here y = keeps_fit F m D.here (apply v D) E s.0 s.1 s.2 (subst (λ i. Keeps F (i + 2) (apply v D) E) n k) in
        subst (λ i. Same (apply (forget (i + 2)) E) D) (sym n) (finish F D E m h.0 c h.1 h.2 (subst (λ i. Finds F (i + 2) E) n f))

-- the order of addresses is the order of beginning: what is begun while the word over s stands lies above it,
pub younger_above : (F : ℕ) (A : Dict) (M s : Stack) (b : ℕ) → Shut F A M → Stand s b (shut M) → dp s + 2 < length A.low + 2
younger_above F A M s b c t = omega (arith, ap length c.low_is, dp_under t.1, dp_push t.0 s)

-- and what FORGET could find when it began lies below it
pub older_below : (v y : ℕ) (m : Stack) → On v y m → y < dp m + 2
older_below v y m o = omega (arith, o.3, dp_under o.2, dp_push o.0 o.1)

-- trim at a standing word absorbs every move that does not end it
pub absorbs : (F : ℕ) (D : Dict) (M N s : Stack) (b : ℕ) (v : Move) → Shut F D M → Over s b M → Shut F (apply v D) N → Over s b N
    → ((apply (forget (dp s + 2)) (apply v D)).low ≡ (apply (forget (dp s + 2)) D).low) × ((apply (forget (dp s + 2)) (apply v D)).voc_link ≡ (apply (forget (dp s + 2)) D).voc_link)
    × ((apply (forget (dp s + 2)) (apply v D)).here ≡ (apply (forget (dp s + 2)) D).here)
absorbs F D M N s b v c t d u = (
  forget_low F (apply v D) N s u.0 d u.1 ∙ sym (forget_low F D M s t.0 c t.1),
  forget_link F (apply v D) N s u.0 d u.1 ∙ sym (forget_link F D M s t.0 c t.1),
  (forget_top F (apply v D) N s u.0 d u.1 ∙ u.2) ∙ sym (forget_top F D M s t.0 c t.1 ∙ t.2),
)
