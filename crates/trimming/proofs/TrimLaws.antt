-- What the questions before a trim say, and what the trim makes.
use Rattle.std.proofs.Common.{◌≡◌, ℕ, ◌+◌, ◌-◌, ◌<◌, ◌≤◌, true, cond, ◌||◌, ltb, leb, ◌⊎◌, List, length, take, sym, refl, ap, ◌∙◌, subst, inl, inr, arith}
use Rattle.std.proofs.lemmas.Bool.Decides.{nat_tests}
use Rattle.std.proofs.lemmas.Bool.{and_parts, or_cases, leb-true, ltb-true}
use Rattle.image.specs.Cells.{cell_at}
use Rattle.image.specs.Views.{low_of}
use Rattle.image.proofs.Laws.{length_low}
use Rattle.entries.specs.Entries.{first_at, name_length}
use Rattle.dictionary.specs.Dict.{Dict}
use Rattle.dictionary.specs.Kept.{kept_end}
use Rattle.dictionary.specs.Trim.{ordered, chain, left, link_of, trim_vocs, youngest, chained, can_forget, forgotten}
use Rattle.dictionary.specs.Lent.{dict_of}
use Rattle.dictionary.specs.declared.registers.Dictionary.{Dictionary}
use Rattle.dictionary.proofs.Changing.{low_cut}
use Rattle.trimming.specs.Chains.{Kept}
use Rattle.trimming.specs.Asks.{in_order_for}
use Rattle.entries.proofs.Walks as walks
use Rattle.trimming.proofs.CellLaws.{in_parts}
use Rattle.trimming.proofs.ChainLaws.{kept_chain}

pub record Trims (w dp : ℕ) (D : Dict) : Type 0 where
  pub whole : w + 7 + name_length D.low w ≤ dp
  pub current : D.current + 12 ≤ w
  pub context : (w < D.context) ⊎ (D.context + 12 ≤ w)
  pub chain : chained (dp + 1) D.low w dp D.voc_link ≡ true

pub trims : (w dp : ℕ) (D : Dict) → length D.low ≡ dp → can_forget w D ≡ true → Trims w dp D
unfolding can_forget
trims w dp D l h =
    let p = and_parts (ordered D.low (length D.low) w) _ h in
    let q = and_parts (leb (D.current + 12) w) _ p.1 in
    let r = and_parts (ltb w D.context || leb (D.context + 12) w) _ q.1 in
    let i = in_parts D.low (length D.low) w p.0 in
    record {
      whole = omega (arith, i.2);
      current = leb-true (D.current + 12) w q.0;
      context = elim (or_cases (ltb w D.context) (leb (D.context + 12) w) r.0) [ inl a ↦ inl (ltb-true w D.context a) | inr b ↦ inr (leb-true (D.context + 12) w b) ];
      chain = ap (λ n. chained (n + 1) D.low w n D.voc_link) (sym l) ∙ r.1;
    }

abbrev built : List ℕ → ℕ → ℕ → ℕ → ℕ → ℕ → ℕ → Dict
built low here voc_link newest context current opened = record { low = low; here = here; voc_link = voc_link; newest = newest; context = context; current = current; opened = opened }

-- the trim's dictionary from its parts
pub trim_makes : (w dp : ℕ) (D : Dict) (low : List ℕ) (here first voc_link newest context opened : ℕ) → length D.low ≡ dp
    → Kept D.low w dp first (left w (chain dp D.low D.voc_link))
    → low ≡ take (w - 2) (trim_vocs w (chain dp D.low first) D.low)
    → here ≡ cell_at D.low (first_at D.low w)
    → first ≡ link_of (left w (chain dp D.low D.voc_link))
    → voc_link ≡ first
    → newest ≡ youngest (chain dp D.low first) (take (w - 2) (trim_vocs w (chain dp D.low first) D.low))
    → context ≡ cond (ltb w D.context) 270 D.context
    → opened ≡ 0
    → built low here voc_link newest context D.current opened ≡ forgotten w D
unfolding forgotten
trim_makes w dp D low here first voc_link newest context opened l k a b c v d e o =
    let s = kept_chain D.low w dp first dp _ (omega arith) k in
    let n : left w (chain (length D.low) D.low D.voc_link) ≡ left w (chain dp D.low D.voc_link) = ap (λ j. left w (chain j D.low D.voc_link)) l in
    cc

pub facts : (self : Dictionary) (image : List ℕ) (w : ℕ) → length image ≡ 65536 → can_forget w (dict_of self image) ≡ true → Trims w self.ends.dp (dict_of self image)
facts self image w l h = trims w self.ends.dp (dict_of self image) (length_low self.ends.dp image (omega arith) (omega arith)) h

pub still : (w context r : ℕ) → r ≡ cond (ltb w context) 270 context → 282 ≤ w → 270 ≤ context → (w < context) ⊎ (context + 12 ≤ w) → (270 ≤ r) × (r + 10 ≤ w - 2)
still w context r e h l (inl k) = grind (arith, nat_tests)
still w context r e h l (inr k) = grind (arith, nat_tests)

pub kept_now : (low : List ℕ) (w dp k : ℕ) (vs : List ℕ) → Kept low w dp k vs → Kept low w dp k (chain dp low k)
kept_now low w dp k vs h = subst (Kept low w dp k) (sym (kept_chain low w dp k dp vs (omega arith) h)) h

pub cut_to : (k n : ℕ) (image final : List ℕ) → 256 ≤ k → k ≤ n → n ≤ length image → low_of n image ≡ final → low_of k image ≡ take k final
cut_to k n image final b h l e = low_cut k n image b h l ∙ ap (take k) e

-- with no open entry the dictionary stays up to DP
pub shut_end : (dp opened : ℕ) → opened ≡ 0 → kept_end dp opened ≡ dp
shut_end dp opened e = rw e refl

-- what was asked before the trim
pub record Asked (fence w dp : ℕ) (D : Dict) : Type 0 where
  pub low : 258 ≤ w
  pub whole : first_at D.low w + 2 ≤ dp
  pub all : fence ≤ w → can_forget w D ≡ true

pub asked : (fence w dp : ℕ) (D : Dict) → length D.low ≡ dp → in_order_for fence w D ≡ true → Asked fence w dp D
asked fence w dp D l h =
    let p = and_parts (ordered D.low (length D.low) w) (ltb w fence || can_forget w D) h in
    let i = walks.in_parts D.low (length D.low) (length D.low) w p.0 in
    record { low = i.0; whole = omega (arith, i.2); all = λ f. elim (or_cases (ltb w fence) (can_forget w D) p.1) [ inl a ↦ (let b = ltb-true w fence a in absurd (omega arith)) | inr b ↦ b ] }
