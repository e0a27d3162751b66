-- What is found lies in the dictionary.
use Rattle.std.proofs.Common.{◌≡◌, ℕ, zero, suc, ◌+◌, ◌≤◌, Bool, true, false, eqb, List, length, sym, refl, ◌∙◌, subst, arith}
use Rattle.std.proofs.lemmas.Bool.{eqb-true, eqb-false}
use Rattle.image.specs.Cells.{at, cell_at}
use Rattle.entries.specs.Entries.{first_at, is_named, forth, spelled, head_at}
use Rattle.entries.specs.Search.{Found, missing, broken, hit, in_order, walk, search_in}
use Rattle.entries.proofs.Walks.{in_parts, walk_end, walk_broken, walk_hit, walk_next}
use Rattle.dictionary.specs.Dict.{Dict}
use Rattle.dictionary.specs.Search.{or_else, searched}

abbrev pub Whole : List ℕ → ℕ → ℕ → Type 0
Whole low dp x = (258 ≤ x) × (first_at low x + 2 ≤ dp)

no_missing : (x : ℕ) → missing ≡ hit x → ⊥
no_missing x e = let z : ◌≡◌ {A = ℕ} 0 1 = cc in omega arith

no_broken : (x : ℕ) → broken ≡ hit x → ⊥
no_broken x e = let z : ◌≡◌ {A = ℕ} 0 1 = cc in omega arith

same_hit : (x y : ℕ) → hit x ≡ hit y → x ≡ y
same_hit x y e = cc

walk_step : (n : ℕ) (low : List ℕ) (dp : ℕ) (name : List ℕ) (before e x : ℕ) (p q s : Bool) → eqb e 0 ≡ p → in_order low dp before e ≡ q → is_named low e name ≡ s → (walk n low dp name e (cell_at low e) ≡ hit x → Whole low dp x) → walk (suc n) low dp name before e ≡ hit x → Whole low dp x
walk_step n low dp name before e x true q s hp hq hs ih h = absurd (no_missing x (sym (walk_end n low dp name before e (eqb-true e 0 hp)) ∙ h))
walk_step n low dp name before e x false false s hp hq hs ih h = absurd (no_broken x (sym (walk_broken n low dp name before e (eqb-false e 0 hp) hq) ∙ h))
walk_step n low dp name before e x false true true hp hq hs ih h =
    let p = in_parts low dp before e hq in
    subst (λ y. Whole low dp y) (same_hit e x (sym (walk_hit n low dp name before e (eqb-false e 0 hp) hq hs) ∙ h)) (p.0, p.2)
walk_step n low dp name before e x false true false hp hq hs ih h = ih (sym (walk_next n low dp name before e (eqb-false e 0 hp) hq hs) ∙ h)

walk_whole : (n : ℕ) (low : List ℕ) (dp : ℕ) (name : List ℕ) (before e x : ℕ) → walk n low dp name before e ≡ hit x → Whole low dp x
unfolding walk
walk_whole zero low dp name before e x h = absurd (no_broken x h)
walk_whole (suc n) low dp name before e x h = walk_step n low dp name before e x (eqb e 0) (in_order low dp before e) (is_named low e name) refl refl refl (walk_whole n low dp name e (cell_at low e) x) h

pub whole_in : (low : List ℕ) (voc : ℕ) (name : List ℕ) (x : ℕ) → search_in low voc name ≡ hit x → Whole low (length low) x
unfolding search_in
whole_in low voc name x h = walk_whole (suc (length low)) low (length low) (spelled name) (length low) (cell_at low (head_at voc (at (spelled name) 0))) x h

else_hit : (P : Type 0) (f : Found) (next : Unit {0} → Found) (x : ℕ) → (f ≡ hit x → P) → (next tt ≡ hit x → P) → or_else f next ≡ hit x → P
else_hit P missing next x a b h = b h
else_hit P broken next x a b h = absurd (no_broken x h)
else_hit P (hit y) next x a b h = a h

pub whole_found : (D : Dict) (name : List ℕ) (x : ℕ) → searched D name ≡ hit x → Whole D.low (length D.low) x
unfolding searched
whole_found D name x h =
    else_hit (Whole D.low (length D.low) x) (search_in D.low D.context name) (λ _. or_else (search_in D.low D.current name) λ _. search_in D.low forth name) x (whole_in D.low D.context name x)
    (λ g. else_hit (Whole D.low (length D.low) x) (search_in D.low D.current name) (λ _. search_in D.low forth name) x (whole_in D.low D.current name x) (whole_in D.low forth name x) g) h
