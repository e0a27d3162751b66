-- Laws of a walk down the vocabulary chain.
use Rattle.std.proofs.Common.{◌≡◌, ℕ, zero, suc, ◌+◌, ◌-◌, ◌<◌, ◌≤◌, Bool, true, false, cond, ◌&&◌, ◌||◌, eqb, ltb, leb, ◌≢◌, List, [], ◌∷◌, length, Some, None, Ok, Err, Result, sym, refl, ap, ◌∙◌, subst, arith}
use Rattle.std.proofs.lemmas.Bool.{eqb-true, eqb-false, eq-eqb, ne_eqb, ltb-true, leb-true, and_parts, cond-true, cond-false, false≢true}
use Rattle.fault.specs.declared.Fault.{Fault}
use Rattle.fault.specs.declared.Place.{Place}
use Rattle.fault.specs.declared.Reason.TheVariants.{BrokenLink, BadToken}
use Rattle.fault.specs.Numbers.{fault_of}
use Rattle.image.specs.Cells.{cell_at}
use Rattle.entries.specs.Search.{missing, broken, hit}
use Rattle.entries.specs.Threads.{answered}
use Rattle.dictionary.specs.Dict.{Dict, with_context}
use Rattle.dictionary.specs.Lent.{Did}
use Rattle.dictionary.specs.Trim.{chain, chain_in_order, is_chain, link_in_order, on_chain, member}
use Rattle.dictionary.specs.Seeks.{vocabulary_linked, chain_asked, stays, sought}

pub link_parts : (dp before k : ℕ) → link_in_order dp before k ≡ true → (266 ≤ k) × (k < before) × (k + 2 ≤ dp)
link_parts dp before k h =
    let p = and_parts (leb 266 k && ltb k before) (leb (k + 2) dp) h in
    let q = and_parts (leb 266 k) (ltb k before) p.0 in
    (leb-true 266 k q.0, ltb-true k before q.1, leb-true (k + 2) dp p.1)

-- STEPS
module _ (n : ℕ) (low : List ℕ) (dp before k : ℕ) where
  order_end : k ≡ 0 → chain_in_order (suc n) low dp before k ≡ true
  unfolding chain_in_order
  order_end h = rw (eq-eqb k 0 h, chain_in_order) refl

  order_broken : k ≢ 0 → link_in_order dp before k ≡ false → chain_in_order (suc n) low dp before k ≡ false
  unfolding chain_in_order
  order_broken h o = rw (ne_eqb k 0 h, chain_in_order) (rw o refl)

  order_next : k ≢ 0 → link_in_order dp before k ≡ true → chain_in_order (suc n) low dp before k ≡ chain_in_order n low dp k (cell_at low k)
  unfolding chain_in_order
  order_next h o = rw (ne_eqb k 0 h, chain_in_order) (rw o refl)

chain_end : (m : ℕ) (low : List ℕ) (k : ℕ) → k ≡ 0 → chain m low k ≡ []
unfolding chain
chain_end zero low k h = refl
chain_end (suc m) low k h = cond-true (eqb k 0) _ _ (eq-eqb k 0 h)

chain_next : (m : ℕ) (low : List ℕ) (k : ℕ) → k ≢ 0 → chain (suc m) low k ≡ (k - 8) ∷ chain m low (cell_at low k)
unfolding chain
chain_next m low k h = cond-false (eqb k 0) _ _ (ne_eqb k 0 h)

-- where the walk has come, with `found` so far
pub record Walking (low : List ℕ) (dp v before k : ℕ) (found ordered on : Bool) : Type 0 where
  pub fuel : ℕ
  pub enough : before ≤ fuel
  pub asks : ordered ≡ chain_in_order (suc fuel) low dp before k
  pub steps : ℕ
  pub many : before ≤ steps
  pub finds : on ≡ (found || member v (chain steps low k))

pub walking_start : (D : Dict) (dp v : ℕ) → length D.low ≡ dp → Walking D.low dp v dp D.voc_link false (is_chain D) (on_chain v D)
walking_start D dp v l = record {
  fuel = dp;
  enough = omega arith;
  asks = ap (λ n. chain_in_order (suc n) D.low n n D.voc_link) l;
  steps = dp;
  many = omega arith;
  finds = ap (λ n. member v (chain n D.low D.voc_link)) l;
}

or_assoc : (a b c : Bool) → (a || (b || c)) ≡ ((a || b) || c)
or_assoc true b c = refl
or_assoc false b c = refl

pub walking_more : (low : List ℕ) (dp v before k x next : ℕ) (found new ordered on : Bool) → Walking low dp v before k found ordered on → k ≡ x → k ≢ 0 → link_in_order dp before k ≡ true
    → new ≡ (found || eqb v (x - 8)) → next ≡ cell_at low x → Walking low dp v x next new ordered on
walking_more low dp v before k x next found new ordered on w e z o f c = subst (λ y. Walking low dp v x y new ordered on) (sym c) (subst (λ b. Walking low dp v x (cell_at low x) b ordered on) (sym f)
    (subst (λ y. Walking low dp v y (cell_at low y) (found || eqb v (y - 8)) ordered on) e (go w.fuel w.enough w.asks w.steps w.many w.finds)))
  where
    go : (n : ℕ) → before ≤ n → ordered ≡ chain_in_order (suc n) low dp before k → (m : ℕ) → before ≤ m → on ≡ (found || member v (chain m low k)) → Walking low dp v k (cell_at low k) (found || eqb v (k - 8)) ordered on
    go zero l a m r g = let p = link_parts dp before k o in absurd (omega arith)
    go (suc n) l a zero r g = let p = link_parts dp before k o in absurd (omega arith)
    go (suc n) l a (suc m) r g = let p = link_parts dp before k o in record {
      fuel = n;
      enough = omega arith;
      asks = a ∙ order_next (suc n) low dp before k z o;
      steps = m;
      many = omega arith;
      finds = g ∙ (ap (λ vs. found || member v vs) (chain_next m low k z) ∙ or_assoc found (eqb v (k - 8)) (member v (chain m low (cell_at low k))));
    }

or_false : (a : Bool) → (a || false) ≡ a
or_false true = refl
or_false false = refl

pub walking_end : (low : List ℕ) (dp v before k : ℕ) (found ordered on : Bool) → Walking low dp v before k found ordered on → k ≡ 0 → (ordered ≡ true) × (on ≡ found)
walking_end low dp v before k found ordered on w h =
    (w.asks ∙ order_end w.fuel low dp before k h, w.finds ∙ (ap (λ vs. found || member v vs) (chain_end w.steps low k h) ∙ or_false found))

pub walking_broken : (low : List ℕ) (dp v before k : ℕ) (found ordered on : Bool) → Walking low dp v before k found ordered on → k ≢ 0 → link_in_order dp before k ≡ false → ordered ≡ false
walking_broken low dp v before k found ordered on w h o = w.asks ∙ order_broken w.fuel low dp before k h o

-- what the answer at one link says
module _ (told : Place) (dp before e : ℕ) where
  pub link_some : (x : ℕ) → Ok (Some x) ≡ answered told (vocabulary_linked dp before e) → (e ≡ x) × (e ≢ 0) × (link_in_order dp before e ≡ true)
  link_some x h = go (eqb e 0) (link_in_order dp before e) refl refl h
    where
      go : (p q : Bool) → eqb e 0 ≡ p → link_in_order dp before e ≡ q → Ok (Some x) ≡ answered told (cond p missing (cond q (hit e) broken)) → (e ≡ x) × (e ≢ 0) × (link_in_order dp before e ≡ true)
      go true q hp hq k = absurd (false≢true (cc))
      go false false hp hq k = absurd (false≢true (cc))
      go false true hp hq k = (cc, eqb-false e 0 hp, hq)

  pub link_none : Ok None ≡ answered told (vocabulary_linked dp before e) → e ≡ 0
  link_none h = go (eqb e 0) (link_in_order dp before e) refl refl h
    where
      go : (p q : Bool) → eqb e 0 ≡ p → link_in_order dp before e ≡ q → Ok None ≡ answered told (cond p missing (cond q (hit e) broken)) → e ≡ 0
      go true q hp hq k = eqb-true e 0 hp
      go false false hp hq k = absurd (false≢true (cc))
      go false true hp hq k = absurd (false≢true (cc))

  pub link_broken : (f : Fault) → Err f ≡ answered told (vocabulary_linked dp before e) → (f ≡ fault_of BrokenLink told) × (e ≢ 0) × (link_in_order dp before e ≡ false)
  link_broken f h = go (eqb e 0) (link_in_order dp before e) refl refl h
    where
      go : (p q : Bool) → eqb e 0 ≡ p → link_in_order dp before e ≡ q → Err f ≡ answered told (cond p missing (cond q (hit e) broken)) → (f ≡ fault_of BrokenLink told) × (e ≢ 0) × (link_in_order dp before e ≡ false)
      go true q hp hq k = absurd (false≢true (cc))
      go false false hp hq k = (cc, eqb-false e 0 hp, hq)
      go false true hp hq k = absurd (false≢true (cc))

-- the answers
pub asked_broken : (v : ℕ) (told : Place) (D : Dict) (r : Result Bool Fault) (y f : Fault) → is_chain D ≡ false → f ≡ fault_of BrokenLink told → r ≡ Err y → y ≡ f → r ≡ chain_asked v told D
asked_broken v told D r y f h q e p = e ∙ (ap Err (p ∙ q) ∙ sym (cond-false (is_chain D) _ _ h))

pub asked_found : (v : ℕ) (told : Place) (D : Dict) (found : Bool) → (is_chain D ≡ true) × (on_chain v D ≡ found) → Ok found ≡ chain_asked v told D
asked_found v told D found h = ap Ok (sym h.1) ∙ sym (cond-true (is_chain D) _ _ h.0)

-- SEEKING
-- what an answer of the chain says
pub chain_says : (v : ℕ) (told : Place) (D : Dict) (b : Bool) → Ok b ≡ chain_asked v told D → (is_chain D ≡ true) × (on_chain v D ≡ b)
chain_says v told D b h = go (is_chain D) refl h
  where
    go : (c : Bool) → is_chain D ≡ c → Ok b ≡ cond c (Ok (on_chain v D)) (Err (fault_of BrokenLink told)) → (is_chain D ≡ true) × (on_chain v D ≡ b)
    go true i k = (i, cc)
    go false i k = absurd (false≢true (cc))

pub seek_no : (v : ℕ) (told : Place) (D : Dict) (f : Fault) → is_chain D ≡ true → (on_chain v D && stays v D) ≡ false → f ≡ fault_of BadToken told → Did (sought v told D) D (Err f) D
seek_no v told D f i h e = (cond-true (is_chain D) _ _ i ∙ (cond-false (on_chain v D && stays v D) _ _ h ∙ ap Err (sym e)), refl)

pub seek_yes : (v : ℕ) (told : Place) (D E : Dict) → is_chain D ≡ true → (on_chain v D && stays v D) ≡ true → E ≡ with_context v D → sought v told D ≡ Ok E
seek_yes v told D E i h e = cond-true (is_chain D) _ _ i ∙ (cond-true (on_chain v D && stays v D) _ _ h ∙ ap Ok (sym e))

-- on the chain, and whether it stays
pub both : (v : ℕ) (D : Dict) (a b : Bool) → on_chain v D ≡ a → a ≡ true → stays v D ≡ b → (on_chain v D && stays v D) ≡ b
both v D a b p q r = ap (λ x. x && stays v D) (p ∙ q) ∙ r
