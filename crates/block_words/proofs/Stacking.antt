-- The open loads as a list.
use Rattle.std.proofs.Common.{◌≡◌, ℕ, ◌+◌, ◌-◌, ◌<◌, ◌≤◌, true, false, eqb, ◌≢◌, ◌⊎◌, List, ◌∷◌, length, get_or, set, sym, ap, ◌∙◌, subst, inl, inr, arith, get_or-set_other, get_or-set_same}
use Rattle.std.proofs.lemmas.Bool.Decides.{eqb_tells}
use Rattle.stacks.specs.Stack.{stack_of}
use Rattle.stacks.proofs.Laws.{stack_push, stack_pop}
use Rattle.definition.specs.declared.registers.Loads.{Loads}
use Rattle.definition.specs.declared.registers.Position.{Position}
use Rattle.definition.specs.Ranges.{eight, line_start, load_at}
use Rattle.definition.specs.View.{loads_of}

-- with one position replaced, offsets stay within the longest text
offsets_set : (xs : List Position) (n : ℕ) (p : Position) → n < length xs → p.offset ≤ 1024 → ((k : ℕ) → (get_or xs k line_start).offset ≤ 1024) → (k : ℕ) → (get_or (set xs n p) k line_start).offset ≤ 1024
offsets_set xs n p h b f k = at (eqb_tells k n)
  where
    at : ((eqb k n ≡ true) × (k ≡ n)) ⊎ ((eqb k n ≡ false) × (k ≡ n → ⊥)) → (get_or (set xs n p) k line_start).offset ≤ 1024
    at (inl u) = rw (u.1, get_or-set_same xs n p line_start h) b
    at (inr u) =
        let ne : k ≢ n = u.1 in
        rw (get_or-set_other xs n k p line_start ne) (f k)

-- q is l with p put behind its open loads
module _ (l q : Loads) (p : Position) (h : l.count < 8) (e : eight q ≡ set (eight l) l.count p) (n : q.count ≡ l.count) where
  pub opened : stack_of (q.count + 1) (eight q) ≡ p ∷ loads_of l
  opened = ap (λ d. stack_of (d + 1) (eight q)) n ∙ ap (stack_of (l.count + 1)) e ∙ stack_push l.count (eight l) p h

  pub opened_offsets : p.offset ≤ 1024 → ((k : ℕ) → (load_at l k).offset ≤ 1024) → (k : ℕ) → (get_or (eight q) k line_start).offset ≤ 1024
  opened_offsets b f k =
      let P : List Position → Type 0 = λ ys. (get_or ys k line_start).offset ≤ 1024 in
      subst P (sym e) (offsets_set (eight l) l.count p h b f k)

-- the innermost load and the others
pub closed : (l : Loads) (x : Position) (d : ℕ) → 0 < l.count → l.count ≤ 8 → d ≡ l.count - 1 → x ≡ get_or (eight l) d line_start → loads_of l ≡ x ∷ stack_of d (eight l)
closed l x d h b e p =
    let f : l.count ≡ d + 1 = omega arith in
    let lt : d < 8 = omega arith in
    ap (λ y. stack_of y (eight l)) f ∙ stack_pop d (eight l) line_start lt ∙ ap (λ (y : Position). y ∷ stack_of d (eight l)) (sym p)
