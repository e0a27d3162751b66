-- Laws of falling heads.
use Rattle.std.proofs.Common.{◌≡◌, ℕ, zero, suc, ◌+◌, ◌-◌, ◌*◌, ◌<◌, ◌≤◌, Bool, true, false, ltb, List, length, is_some, Some, None, Option, sym, refl, ap, ◌∙◌, subst, inl, inr, arith}
use Rattle.std.proofs.lemmas.Bool.{lt-ltb, le-ltb, and_parts, cases_lt, cond-true, cond-false}
use Rattle.image.specs.Cells.{cell_at, at, set_cell}
use Rattle.dictionary.specs.Trim.{fall, trim_voc}
use Rattle.trimming.proofs.CellLaws.{cell_of_bytes, at_other, length-set_cell}
use Rattle.trimming.proofs.CellLaws.{fall_down, fall_step}
use Rattle.dictionary.specs.Trim.{ordered}
use Rattle.dictionary.specs.Trim.{drops, fell, lands, falls_at, threads}
use Rattle.trimming.specs.Chains.{Falls}
use Rattle.entries.specs.Entries.{first_at}
use Rattle.trimming.proofs.CellLaws.{in_parts}

-- STEPS
pub drops_end : (n : ℕ) (low : List ℕ) (w before e : ℕ) → e < w → drops (suc n) low w before e ≡ Some e
unfolding drops
drops_end n low w before e h = cond-true (ltb e w) _ _ (lt-ltb e w h)

pub drops_broken : (n : ℕ) (low : List ℕ) (w before e : ℕ) → w ≤ e → ordered low before e ≡ false → drops (suc n) low w before e ≡ None
unfolding drops
drops_broken n low w before e h o = cond-false (ltb e w) _ _ (le-ltb e w h) ∙ cond-false (ordered low before e) _ _ o

pub drops_next : (n : ℕ) (low : List ℕ) (w before e : ℕ) → w ≤ e → ordered low before e ≡ true → drops (suc n) low w before e ≡ drops n low w e (cell_at low e)
unfolding drops
drops_next n low w before e h o = cond-false (ltb e w) _ _ (le-ltb e w h) ∙ cond-true (ordered low before e) _ _ o

-- where a fall has come
pub record Down (low : List ℕ) (w before e : ℕ) (r : Option ℕ) : Type 0 where
  pub fuel : ℕ
  pub enough : before ≤ fuel
  pub goes : r ≡ drops (suc fuel) low w before e

pub down_start : (dp : ℕ) (low : List ℕ) (w h : ℕ) → length low ≡ dp → Down low w dp h (fell low w h)
unfolding fell
down_start dp low w h l = record { fuel = length low; enough = omega arith; goes = ap (λ n. drops (suc (length low)) low w n h) l }

pub down_more : (low : List ℕ) (w before e : ℕ) (r : Option ℕ) → Down low w before e r → w ≤ e → ordered low before e ≡ true → Down low w e (cell_at low e) r
down_more low w before e r a h o = go a.fuel a.enough a.goes
  where
    go : (n : ℕ) → before ≤ n → r ≡ drops (suc n) low w before e → Down low w e (cell_at low e) r
    go zero l g = let p = in_parts low before e o in (let z : ⊥ = omega arith in absurd z)
    go (suc n) l g = let p = in_parts low before e o in record { fuel = n; enough = omega arith; goes = g ∙ drops_next (suc n) low w before e h o }

pub down_end : (low : List ℕ) (w before e : ℕ) (r : Option ℕ) → Down low w before e r → e < w → r ≡ Some e
down_end low w before e r a h = a.goes ∙ drops_end a.fuel low w before e h

pub down_broken : (low : List ℕ) (w before e : ℕ) (r : Option ℕ) → Down low w before e r → w ≤ e → ordered low before e ≡ false → r ≡ None
down_broken low w before e r a h o = a.goes ∙ drops_broken a.fuel low w before e h o

-- what a fall that ends answers is the raw fall
abbrev Same : Option ℕ → ℕ → Type 0
Same (Some x) y = y ≡ x
Same None y = Unit {0}

drops_fall : (n : ℕ) (low : List ℕ) (w before e m : ℕ) → before ≤ m → Same (drops n low w before e) (fall m low w e)
drops_fall zero low w before e m l = unfold drops in tt
drops_fall (suc n) low w before e m l = elim (cases_lt e w) [
  | inl h ↦ rw (drops_end n low w before e h) (fall_down m low w e h)
  | inr h ↦ deep (ordered low before e) refl h m l (λ j o. drops_fall n low w e (cell_at low e) j o)
]
  where
    deep : (q : Bool) → ordered low before e ≡ q → w ≤ e → (m : ℕ) → before ≤ m → ((j : ℕ) → e ≤ j → Same (drops n low w e (cell_at low e)) (fall j low w (cell_at low e))) → Same (drops (suc n) low w before e) (fall m low w e)
    deep false hq h m l k = rw (drops_broken n low w before e h hq) tt
    deep true hq h zero l k = let p = in_parts low before e hq in (let z : ⊥ = omega arith in absurd z)
    deep true hq h (suc m) l k = let p = in_parts low before e hq in rw (drops_next n low w before e h hq, fall_step m low w e h) (k m (omega arith))

pub fell_fall : (low : List ℕ) (w h x : ℕ) → fell low w h ≡ Some x → x ≡ fall (length low) low w h
unfolding fell
fell_fall low w h x e = sym (subst (λ r. Same r (fall (length low) low w h)) e (drops_fall (suc (length low)) low w (length low) h (length low) (omega arith)))

-- a fall reads nothing below w
order_agree : (low new : List ℕ) (w before e : ℕ) → w ≤ e → length low ≡ length new → ((a : ℕ) → w ≤ a → at low a ≡ at new a) → ordered low before e ≡ ordered new before e
unfolding first_at
order_agree low new w before e h l f = let c = f (e + 2) (omega arith) in cc

pub drops_agree : (n : ℕ) (low new : List ℕ) (w before e : ℕ) → length low ≡ length new → ((a : ℕ) → w ≤ a → at low a ≡ at new a) → drops n low w before e ≡ drops n new w before e
drops_agree zero low new w before e l f = unfold drops in refl
drops_agree (suc n) low new w before e l f = elim (cases_lt e w) [
  | inl h ↦ drops_end n low w before e h ∙ sym (drops_end n new w before e h)
  | inr h ↦ deep h (ordered low before e) refl (drops_agree n low new w e (cell_at new e) l f)
]
  where
    deep : w ≤ e → (q : Bool) → ordered low before e ≡ q → drops n low w e (cell_at new e) ≡ drops n new w e (cell_at new e) → drops (suc n) low w before e ≡ drops (suc n) new w before e
    deep h false q k = drops_broken n low w before e h q ∙ sym (drops_broken n new w before e h (sym (order_agree low new w before e h l f) ∙ q))
    deep h true q k = drops_next n low w before e h q ∙ (ap (drops n low w e) (cell_of_bytes low new e (f e h) (f (e + 1) (omega arith)))
        ∙ (k ∙ sym (drops_next n new w before e h (sym (order_agree low new w before e h l f) ∙ q))))

pub fell_agree : (low new : List ℕ) (w h : ℕ) → length low ≡ length new → ((a : ℕ) → w ≤ a → at low a ≡ at new a) → fell low w h ≡ fell new w h
unfolding fell
fell_agree low new w h l f = drops_agree (suc (length low)) low new w (length low) h l f ∙ ap (λ n. drops (suc n) new w n h) l

-- what the questions say of a vocabulary's heads
lands_ok : (low : List ℕ) (r : Option ℕ) → lands low r ≡ true → is_some r ≡ true
lands_ok low (Some x) h = refl
lands_ok low None h = h

falls_ok : (low : List ℕ) (w a : ℕ) → falls_at low w a ≡ true → is_some (fell low w (cell_at low a)) ≡ true
unfolding falls_at
falls_ok low w a h = lands_ok low (fell low w (cell_at low a)) h

pub threads_fall : (low : List ℕ) (w v : ℕ) → threads low w v ≡ true → Falls low w v 4
unfolding threads
threads_fall low w v h =
    let p = and_parts _ _ h in
    let q = and_parts _ _ p.1 in
    let r = and_parts _ _ q.1 in
    four (falls_ok low w v p.0) (falls_ok low w (v + 2) q.0) (falls_ok low w (v + 4) r.0) (falls_ok low w (v + 6) r.1)
  where
    four : is_some (fell low w (cell_at low v)) ≡ true → is_some (fell low w (cell_at low (v + 2))) ≡ true → is_some (fell low w (cell_at low (v + 4))) ≡ true → is_some (fell low w (cell_at low (v + 6))) ≡ true → Falls low w v 4
    four a b c d zero l = let z : v ≡ v + 2 * 0 = omega arith in subst (λ x. is_some (fell low w (cell_at low x)) ≡ true) z a
    four a b c d (suc zero) l = b
    four a b c d (suc (suc zero)) l = c
    four a b c d (suc (suc (suc zero))) l = d
    four a b c d (suc (suc (suc (suc k)))) l = let z : ⊥ = omega arith in absurd z

-- the heads can fall in another list that has the same heads, and the same bytes from w on
pub falls_agree : (low new : List ℕ) (w v k : ℕ) → length low ≡ length new → ((a : ℕ) → w ≤ a → at low a ≡ at new a) → ((a : ℕ) → v ≤ a → a < v + 2 * k → at low a ≡ at new a) → Falls low w v k → Falls new w v k
falls_agree low new w v k l f g h i b =
    let e = cell_of_bytes low new (v + 2 * i) (g (v + 2 * i) (omega arith) (omega arith)) (g (v + 2 * i + 1) (omega arith) (omega arith)) in
    let t = fell_agree low new w (cell_at new (v + 2 * i)) l f in
    ap is_some (sym (ap (fell low w) e ∙ t)) ∙ h i b

-- and after the uppermost of them has fallen
pub falls_set : (low : List ℕ) (w v k x : ℕ) → v + 2 * (k + 1) ≤ w → Falls low w v (k + 1) → Falls (set_cell low (v + 2 * k) x) w v k
falls_set low w v k x l h = falls_agree low (set_cell low (v + 2 * k) x) w v k (sym (length-set_cell low (v + 2 * k) x))
    (λ a b. sym (at_other low (v + 2 * k) x a (omega arith) (omega arith)))
    (λ a b c. sym (at_other low (v + 2 * k) x a (omega arith) (omega arith)))
    (λ i b. h i (omega arith))

-- a head moved as the code moves it
pub lowered : (low : List ℕ) (w a h x : ℕ) → h ≡ cell_at low a → fell low w h ≡ Some x → x ≡ fall (length low) low w (cell_at low a)
lowered low w a h x q e = fell_fall low w (cell_at low a) x (ap (fell low w) (sym q) ∙ e)

pub trim_step : (w v k : ℕ) (low : List ℕ) → 0 < k → trim_voc w v k low ≡ trim_voc w v (k - 1) (set_cell low (v + 2 * (k - 1)) (fall (length low) low w (cell_at low (v + 2 * (k - 1)))))
unfolding trim_voc
trim_step w v zero low h = let z : ⊥ = omega arith in absurd z
trim_step w v (suc k) low h = let e : k ≡ suc k - 1 = omega arith in
    ap (λ j. trim_voc w v j (set_cell low (v + 2 * j) (fall (length low) low w (cell_at low (v + 2 * j))))) e

pub trim_done : (w v k : ℕ) (low : List ℕ) → k ≡ 0 → trim_voc w v k low ≡ low
unfolding trim_voc
trim_done w v zero low h = refl
trim_done w v (suc k) low h = let z : ⊥ = omega arith in absurd z

-- one head less to move
pub record Lowering (w v k : ℕ) (low final : List ℕ) : Type 0 where
  pub few : k ≤ 4
  pub goes : final ≡ trim_voc w v k low
  pub can : Falls low w v k

pub lower_more : (w v k : ℕ) (low new final : List ℕ) → v + 8 ≤ w → 0 < k → Lowering w v k low final
    → new ≡ set_cell low (v + 2 * (k - 1)) (fall (length low) low w (cell_at low (v + 2 * (k - 1)))) → Lowering w v (k - 1) new final
lower_more w v k low new final l h r e = record {
  few = omega (arith, r.few);
  goes = r.goes ∙ (trim_step w v k low h ∙ ap (trim_voc w v (k - 1)) (sym e));
  can = rw e (falls_set low w v (k - 1) _ (omega (arith, r.few)) (λ i b. r.can i (omega arith)));
}

-- the same, with the head where the code has it
pub lower_at : (w v k a : ℕ) (low new final : List ℕ) → a ≡ v + 2 * (k - 1) → v + 8 ≤ w → 0 < k → Lowering w v k low final
    → new ≡ set_cell low a (fall (length low) low w (cell_at low a)) → Lowering w v (k - 1) new final
lower_at w v k a low new final q l h r e = lower_more w v k low new final l h r (e ∙ ap (λ b. set_cell low b (fall (length low) low w (cell_at low b))) q)
