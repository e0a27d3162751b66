-- Laws of the vocabulary chain.
use Rattle.std.proofs.Common.{◌≡◌, ℕ, zero, suc, ◌+◌, ◌-◌, ◌*◌, ◌<◌, ◌≤◌, max, Bool, true, false, ◌&&◌, ◌||◌, eqb, ltb, leb, ◌≢◌, ◌⊎◌, List, [], ◌∷◌, length, take, sym, refl, ap, ◌∙◌, inl, inr, arith}
use Rattle.std.proofs.lemmas.Bool.{eq-eqb, ne_eqb, ltb-true, leb-true, lt-ltb, le-ltb, and_parts, or_cases, cases_eq, cond-true, cond-false, false≢true}
use Rattle.std.proofs.lemmas.List.{get_or-take}
use Rattle.image.specs.Cells.{cell_at, at}
use Rattle.dictionary.specs.Trim.{trim_voc, trim_vocs, chain, left, link_of, youngest_in, youngest}
use Rattle.trimming.proofs.CellLaws.{cell_of_bytes, at_other, length-set_cell}
use Rattle.dictionary.specs.Trim.{in_chain, chained, threads}
use Rattle.trimming.specs.Chains.{Falls, KeptAt, Kept, none, some}
use Rattle.trimming.proofs.FallLaws.{threads_fall, falls_agree}

-- THE CHAIN, as it is asked
pub in_chain_parts : (low : List ℕ) (w before k : ℕ) → in_chain low w before k ≡ true → (266 ≤ k) × (k + 2 ≤ before) × ((w < k - 8) ⊎ ((k + 4 ≤ w) × (threads low w (k - 8) ≡ true)))
unfolding in_chain
in_chain_parts low w before k h =
    let p = and_parts (leb 266 k) _ h in
    let q = and_parts (leb (k + 2) before) _ p.1 in (
      leb-true 266 k p.0,
      leb-true (k + 2) before q.0,
      elim (or_cases (ltb w (k - 8)) _ q.1) [
        | inl a ↦ inl (ltb-true w (k - 8) a)
        | inr b ↦ (let r = and_parts (leb (k + 4) w) _ b in inr (leb-true (k + 4) w r.0, r.1))
      ],
    )

pub chained_end : (n : ℕ) (low : List ℕ) (w before k : ℕ) → k ≡ 0 → chained (suc n) low w before k ≡ true
unfolding chained
chained_end n low w before k h = ap (λ b. b || (in_chain low w before k && chained n low w (k - 8) (cell_at low k))) (eq-eqb k 0 h)

pub chained_broken : (n : ℕ) (low : List ℕ) (w before k : ℕ) → k ≢ 0 → in_chain low w before k ≡ false → chained (suc n) low w before k ≡ false
unfolding chained
chained_broken n low w before k h o = ap (λ b. b || (in_chain low w before k && chained n low w (k - 8) (cell_at low k))) (ne_eqb k 0 h) ∙ ap (λ b. b && chained n low w (k - 8) (cell_at low k)) o

pub chained_next : (n : ℕ) (low : List ℕ) (w before k : ℕ) → k ≢ 0 → in_chain low w before k ≡ true → chained (suc n) low w before k ≡ chained n low w (k - 8) (cell_at low k)
unfolding chained
chained_next n low w before k h o = ap (λ b. b || (in_chain low w before k && chained n low w (k - 8) (cell_at low k))) (ne_eqb k 0 h) ∙ ap (λ b. b && chained n low w (k - 8) (cell_at low k)) o

-- where the questions have come
pub record Asking (low : List ℕ) (w before k : ℕ) (r : Bool) : Type 0 where
  pub fuel : ℕ
  pub enough : before ≤ fuel
  pub goes : r ≡ chained (suc fuel) low w before k

pub asking_start : (dp : ℕ) (low : List ℕ) (w k : ℕ) → Asking low w dp k (chained (dp + 1) low w dp k)
asking_start dp low w k = record { fuel = dp; enough = omega arith; goes = let e : dp + 1 ≡ suc dp = omega arith in ap (λ n. chained n low w dp k) e }

pub asking_more : (low : List ℕ) (w before k : ℕ) (r : Bool) → Asking low w before k r → k ≢ 0 → in_chain low w before k ≡ true → Asking low w (k - 8) (cell_at low k) r
asking_more low w before k r a h o = go a.fuel a.enough a.goes
  where
    go : (n : ℕ) → before ≤ n → r ≡ chained (suc n) low w before k → Asking low w (k - 8) (cell_at low k) r
    go zero l g = let p = in_chain_parts low w before k o in (let z : ⊥ = omega (arith, p.1) in absurd z)
    go (suc n) l g = let p = in_chain_parts low w before k o in record { fuel = n; enough = omega (arith, p.1); goes = g ∙ chained_next (suc n) low w before k h o }

pub asking_end : (low : List ℕ) (w before k : ℕ) (r : Bool) → Asking low w before k r → k ≡ 0 → r ≡ true
asking_end low w before k r a h = a.goes ∙ chained_end a.fuel low w before k h

pub asking_broken : (low : List ℕ) (w before k : ℕ) (r : Bool) → Asking low w before k r → k ≢ 0 → in_chain low w before k ≡ false → r ≡ false
asking_broken low w before k r a h o = a.goes ∙ chained_broken a.fuel low w before k h o

-- THE CHAIN, as a relation: the vocabularies vs from the link k down, all asked
pub data Chained (low : List ℕ) (w : ℕ) : ℕ → ℕ → List ℕ → Type 0 where
  ends : {before k : ℕ} → k ≡ 0 → Chained low w before k []
  more : {before k : ℕ} {vs : List ℕ} → in_chain low w before k ≡ true → Chained low w (k - 8) (cell_at low k) vs → Chained low w before k ((k - 8) ∷ vs)

chain_end : (m : ℕ) (low : List ℕ) (k : ℕ) → k ≡ 0 → chain m low k ≡ []
unfolding chain
chain_end zero low k h = refl
chain_end (suc m) low k h = cond-true (eqb k 0) _ _ (eq-eqb k 0 h)

chain_next : (m : ℕ) (low : List ℕ) (k : ℕ) → k ≢ 0 → chain (suc m) low k ≡ (k - 8) ∷ chain m low (cell_at low k)
unfolding chain
chain_next m low k h = cond-false (eqb k 0) _ _ (ne_eqb k 0 h)

pub chained_on : (n : ℕ) (low : List ℕ) (w before k m : ℕ) → chained n low w before k ≡ true → before ≤ m → Chained low w before k (chain m low k)
chained_on zero low w before k m h l = let z : ◌≡◌ {A = Bool} false true = (unfold chained in h) in absurd (false≢true z)
chained_on (suc n) low w before k m h l = elim (cases_eq k 0) [
  | inl z ↦ rw (chain_end m low k z) (ends z)
  | inr z ↦ deep z (in_chain low w before k) refl m l (λ e j o. chained_on n low w (k - 8) (cell_at low k) j e o)
]
  where
    deep : k ≢ 0 → (q : Bool) → in_chain low w before k ≡ q → (m : ℕ) → before ≤ m
        → (chained n low w (k - 8) (cell_at low k) ≡ true → (j : ℕ) → k - 8 ≤ j → Chained low w (k - 8) (cell_at low k) (chain j low (cell_at low k))) → Chained low w before k (chain m low k)
    deep z false q m l r = absurd (false≢true (sym (chained_broken n low w before k z q) ∙ h))
    deep z true q zero l r = let p = in_chain_parts low w before k q in absurd (omega (arith, p.1))
    deep z true q (suc m) l r = let p = in_chain_parts low w before k q in
        rw (chain_next m low k z) (more q (r (sym (chained_next n low w before k z q) ∙ h) m (omega (arith, p.1))))

chained_le : (low : List ℕ) (w before k : ℕ) (vs : List ℕ) → Chained low w before k vs → k ≤ before
chained_le low w before k vs (ends z) = omega arith
chained_le low w before k vs (more q r) = let p = in_chain_parts low w before k q in omega (arith, p.1)

-- those not named above w stay
pub chained_kept : (low : List ℕ) (w before k : ℕ) (vs : List ℕ) → Chained low w before k vs → k ≤ w + 8 → Kept low w before k vs
chained_kept low w before k vs (ends z) h = none z
chained_kept low w before k vs (more {vs = us} q r) h =
    let p = in_chain_parts low w before k q in
    let l = chained_le low w (k - 8) (cell_at low k) us r in
    elim p.2 [
      | inl x ↦ absurd (omega (arith, x))
      | inr x ↦ some (record { above = p.0; below = p.1; under = x.0; can = threads_fall low w (k - 8) x.1 }) (chained_kept low w (k - 8) (cell_at low k) us r (omega (arith, l, p.0)))
    ]

pub kept_left : (low : List ℕ) (w before k : ℕ) (vs : List ℕ) → Kept low w before k vs → left w vs ≡ vs
unfolding left
kept_left low w before k vs (none z) = refl
kept_left low w before k vs (some {vs = us} a r) = cond-false (ltb w (k - 8)) _ _ (le-ltb w (k - 8) (omega (arith, a.under)))

pub kept_link : (low : List ℕ) (w before k : ℕ) (vs : List ℕ) → Kept low w before k vs → k ≡ link_of vs
unfolding link_of
kept_link low w before k vs (none z) = z
kept_link low w before k vs (some {vs = us} a r) = omega (arith, a.above)

pub kept_wide : (low : List ℕ) (w before wide k : ℕ) (vs : List ℕ) → before ≤ wide → Kept low w before k vs → Kept low w wide k vs
kept_wide low w before wide k vs l (none z) = none z
kept_wide low w before wide k vs l (some a r) = some (record { above = a.above; below = omega (arith, a.below); under = a.under; can = a.can }) r

-- skipping those that go
pub record Skipping (low : List ℕ) (w dp k : ℕ) (all : List ℕ) : Type 0 where
  pub before : ℕ
  pub vs : List ℕ
  pub within : before ≤ dp
  pub chain : Chained low w before k vs
  pub same : left w all ≡ left w vs

pub skip_facts : (low : List ℕ) (w dp k : ℕ) (all : List ℕ) → Skipping low w dp k all → w + 8 < k → (k + 2 ≤ dp) × (cell_at low k < k) × Skipping low w dp (cell_at low k) all × (266 ≤ k)
skip_facts low w dp k all s h = go s.before s.vs s.within s.chain s.same
  where
    go : (b : ℕ) (vs : List ℕ) → b ≤ dp → Chained low w b k vs → left w all ≡ left w vs → (k + 2 ≤ dp) × (cell_at low k < k) × Skipping low w dp (cell_at low k) all × (266 ≤ k)
    go b vs l (ends z) e = absurd (omega arith)
    go b vs l (more {vs = us} q r) e =
        let p = in_chain_parts low w b k q in
        let o = chained_le low w (k - 8) (cell_at low k) us r in (
          omega (arith, p.1),
          omega (arith, p.0, o),
          record {
            before = k - 8;
            vs = us;
            within = omega (arith, p.1);
            chain = r;
            same = e ∙ (unfold left in cond-true (ltb w (k - 8)) _ _ (lt-ltb w (k - 8) (omega arith)));
          },
          p.0,
        )

pub skip_kept : (low : List ℕ) (w dp k : ℕ) (all : List ℕ) → Skipping low w dp k all → k ≤ w + 8 → Kept low w dp k (left w all)
skip_kept low w dp k all s h =
    let t = chained_kept low w s.before k s.vs s.chain h in
    rw (s.same, kept_left low w s.before k s.vs t) (kept_wide low w s.before dp k s.vs s.within t)

pub kept_chain : (low : List ℕ) (w before k m : ℕ) (vs : List ℕ) → before ≤ m → Kept low w before k vs → chain m low k ≡ vs
kept_chain low w before k m vs l (none z) = chain_end m low k z
kept_chain low w before k zero vs l (some {vs = us} a r) = absurd (omega (arith, a.above, a.below))
kept_chain low w before k (suc m) vs l (some {vs = us} a r) = chain_next m low k (λ z. omega (arith, a.above)) ∙ ap (λ t. (k - 8) ∷ t) (kept_chain low w (k - 8) (cell_at low k) m us (omega (arith, a.below)) r)

-- MOVING the heads
pub length-trim_voc : (w v k : ℕ) (low : List ℕ) → length (trim_voc w v k low) ≡ length low
unfolding trim_voc
length-trim_voc w v zero low = refl
length-trim_voc w v (suc k) low = length-trim_voc w v k _ ∙ length-set_cell low _ _

pub at_trim_voc : (w v k : ℕ) (low : List ℕ) (a : ℕ) → (a < v) ⊎ (v + 2 * k ≤ a) → at (trim_voc w v k low) a ≡ at low a
unfolding trim_voc
at_trim_voc w v zero low a h = refl
at_trim_voc w v (suc k) low a (inl h) = at_trim_voc w v k _ a (inl h) ∙ at_other low (v + 2 * k) _ a (omega arith) (omega arith)
at_trim_voc w v (suc k) low a (inr h) = at_trim_voc w v k _ a (inr (omega arith)) ∙ at_other low (v + 2 * k) _ a (omega arith) (omega arith)

-- the vocabularies below leave what lies above them
at_trim_vocs : (low : List ℕ) (w before k : ℕ) (vs : List ℕ) → Kept low w before k vs → (new : List ℕ) (a : ℕ) → before ≤ a → at (trim_vocs w vs new) a ≡ at new a
unfolding trim_vocs
at_trim_vocs low w before k vs (none z) new a h = refl
at_trim_vocs low w before k vs (some {vs = us} c r) new a h =
    at_trim_vocs low w (k - 8) (cell_at low k) us r (trim_voc w (k - 8) 4 new) a (omega (arith, c.below)) ∙ at_trim_voc w (k - 8) 4 new a (inr (omega (arith, c.above, c.below)))

youngest_in_agree : (v k : ℕ) (low new : List ℕ) → ((a : ℕ) → v ≤ a → a < v + 2 * k → at low a ≡ at new a) → youngest_in v k low ≡ youngest_in v k new
unfolding youngest_in
youngest_in_agree v zero low new f = refl
youngest_in_agree v (suc k) low new f =
    let e = cell_of_bytes low new (v + 2 * k) (f (v + 2 * k) (omega arith) (omega arith)) (f (v + 2 * k + 1) (omega arith) (omega arith)) in
    let i = youngest_in_agree v k low new (λ a x y. f a x (omega arith)) in
    cc

youngest_cons : (v : ℕ) (vs low : List ℕ) → youngest (v ∷ vs) low ≡ max (youngest_in v 4 low) (youngest vs low)
unfolding youngest
youngest_cons v vs low = refl

youngest_nil : (low : List ℕ) → youngest [] low ≡ 0
unfolding youngest
youngest_nil low = refl

trim_vocs_cons : (w v : ℕ) (vs low : List ℕ) → trim_vocs w (v ∷ vs) low ≡ trim_vocs w vs (trim_voc w v 4 low)
unfolding trim_vocs
trim_vocs_cons w v vs low = refl

trim_vocs_nil : (w : ℕ) (low : List ℕ) → trim_vocs w [] low ≡ low
unfolding trim_vocs
trim_vocs_nil w low = refl

young_more : (x y z h n : ℕ) → x ≡ max y z → z ≡ max h n → x ≡ max (max h y) n
young_more x y z h n p q = omega arith

-- where the writing has come: vs are still to move
pub record Moving (start : List ℕ) (w k young : ℕ) (low all : List ℕ) : Type 0 where
  pub before : ℕ
  pub vs : List ℕ
  pub kept : Kept start w before k vs
  pub goes : trim_vocs w all start ≡ trim_vocs w vs low
  pub size : length low ≡ length start
  pub below : (a : ℕ) → a < k + 2 → at low a ≡ at start a
  pub above : (a : ℕ) → w ≤ a → at low a ≡ at start a
  pub newest : youngest all (take (w - 2) (trim_vocs w all start)) ≡ max young (youngest vs (take (w - 2) (trim_vocs w all start)))

pub moving_start : (start : List ℕ) (w before k : ℕ) (vs : List ℕ) → Kept start w before k vs → Moving start w k 0 start vs
moving_start start w before k vs h = record { before = before; vs = vs; kept = h; goes = refl; size = refl; below = λ a _. refl; above = λ a _. refl; newest = omega arith }

kept_some : (low : List ℕ) (w before k : ℕ) (vs : List ℕ) → Kept low w before k vs → k ≢ 0 → KeptAt low w before k × ((us : List ℕ) × (vs ≡ (k - 8) ∷ us) × Kept low w (k - 8) (cell_at low k) us)
kept_some low w before k vs (none z) h = absurd (h z)
kept_some low w before k vs (some {vs = us} a r) h = (a, (us, refl, r))

pub moving_facts : (start : List ℕ) (w k young : ℕ) (low all : List ℕ) → Moving start w k young low all → k ≢ 0 → (266 ≤ k) × (k + 4 ≤ w) × Falls low w (k - 8) 4
moving_facts start w k young low all m h =
    let p = (kept_some start w m.before k m.vs m.kept h).0 in
    (p.above, p.under, falls_agree start low w (k - 8) 4 (sym m.size) (λ a b. sym (m.above a b)) (λ a b c. sym (m.below a (omega (arith, p.above)))) p.can)

kept_lower : (low : List ℕ) (w before k : ℕ) (vs : List ℕ) → 2 ≤ before → Kept low w before k vs → k + 2 ≤ before
kept_lower low w before k vs h (none z) = omega arith
kept_lower low w before k vs h (some a r) = a.below

pub moving_more : (start : List ℕ) (w k young : ℕ) (low new all : List ℕ) → Moving start w k young low all → k ≢ 0 → new ≡ trim_voc w (k - 8) 4 low
    → (cell_at new k < k) × Moving start w (cell_at new k) (max (youngest_in (k - 8) 4 new) young) new all
moving_more start w k young low new all m h e = go (kept_some start w m.before k m.vs m.kept h)
  where
    go : KeptAt start w m.before k × ((us : List ℕ) × (m.vs ≡ (k - 8) ∷ us) × Kept start w (k - 8) (cell_at start k) us) → (cell_at new k < k) × Moving start w (cell_at new k) (max (youngest_in (k - 8) 4 new) young) new all
    go (p, (us, q, r)) = (
      rw link (omega (arith, under, p.above)),
      record {
        before = k - 8;
        vs = us;
        kept = rw link r;
        goes = final;
        size = ap length e ∙ (length-trim_voc w (k - 8) 4 low ∙ m.size);
        below = λ a x. ap (λ z. at z a) e ∙ (at_trim_voc w (k - 8) 4 low a (inl (omega (arith, under, link))) ∙ m.below a (omega (arith, under, link, p.above)));
        above = λ a x. ap (λ z. at z a) e ∙ (at_trim_voc w (k - 8) 4 low a (inr (omega (arith, p.above, p.under))) ∙ m.above a x);
        newest = young_more _ young _ _ _ m.newest (ap (λ t. youngest t G) q ∙ (youngest_cons (k - 8) us G ∙ ap (λ x. max x (youngest us G)) heads));
      },
    )
      where
        G : List ℕ
        G = take (w - 2) (trim_vocs w all start)

        under : cell_at start k + 2 ≤ k - 8
        under = kept_lower start w (k - 8) (cell_at start k) us (omega (arith, p.above)) r

        byte : (a : ℕ) → k ≤ a → a < k + 2 → at new a ≡ at start a
        byte a x y = ap (λ z. at z a) e ∙ (at_trim_voc w (k - 8) 4 low a (inr (omega (arith, p.above))) ∙ m.below a y)

        link : cell_at new k ≡ cell_at start k
        link = cell_of_bytes new start k (byte k (omega arith) (omega arith)) (byte (k + 1) (omega arith) (omega arith))

        final : trim_vocs w all start ≡ trim_vocs w us new
        final = m.goes ∙ (ap (λ t. trim_vocs w t low) q ∙ (trim_vocs_cons w (k - 8) us low ∙ ap (trim_vocs w us) (sym e)))

        heads : youngest_in (k - 8) 4 G ≡ youngest_in (k - 8) 4 new
        heads = youngest_in_agree (k - 8) 4 G new (λ a x y. get_or-take (w - 2) (trim_vocs w all start) a 0 (omega (arith, p.under)) ∙ (ap (λ z. at z a) final ∙ at_trim_vocs start w (k - 8) (cell_at start k) us r new a x))

pub moving_end : (start : List ℕ) (w k young : ℕ) (low all : List ℕ) → Moving start w k young low all → k ≡ 0 → (low ≡ trim_vocs w all start) × (young ≡ youngest all (take (w - 2) (trim_vocs w all start)))
moving_end start w k young low all m h = go m.vs m.kept m.goes m.newest
  where
    go : (vs : List ℕ) → Kept start w m.before k vs → trim_vocs w all start ≡ trim_vocs w vs low → youngest all (take (w - 2) (trim_vocs w all start)) ≡ max young (youngest vs (take (w - 2) (trim_vocs w all start)))
        → (low ≡ trim_vocs w all start) × (young ≡ youngest all (take (w - 2) (trim_vocs w all start)))
    go vs (none z) e y = (sym (e ∙ trim_vocs_nil w low), omega (arith, y, youngest_nil (take (w - 2) (trim_vocs w all start))))
    go vs (some a r) e y = absurd (omega (arith, a.above))

-- the same, with the next link and the youngest entry as the code has them
pub moving_again : (start : List ℕ) (w k young : ℕ) (low new all : List ℕ) (next y yin : ℕ) → Moving start w k young low all → k ≢ 0 → new ≡ trim_voc w (k - 8) 4 low
    → next ≡ cell_at new k → yin ≡ youngest_in (k - 8) 4 new → y ≡ max yin young → (next < k) × Moving start w next y new all
moving_again start w k young low new all next y yin m h e p q r =
    let t = moving_more start w k young low new all m h e in
    rw (p, r, q) t
