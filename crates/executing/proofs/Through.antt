-- EXECUTE is all one step with the word that it executes.
use Rattle.std.proofs.Common.{◌≡◌, ℕ, suc, ◌+◌, ◌-◌, ◌<◌, ◌≤◌, true, false, List, [], ◌∷◌, length, drop, Ok, Err, sym, refl, ap, ◌∙◌, subst, arith}
use Rattle.fault.specs.declared.Fault.{Fault}
use Rattle.fault.specs.declared.Reason.TheVariants.{BadToken, StackUnderflow}
use Rattle.store.specs.Meaning.{Meaning}
use Rattle.stacks.specs.Stack.{stack_of}
use Rattle.stacks.proofs.Laws.{drop_stack}
use Rattle.image.specs.Cells.{cell_at}
use Rattle.image.specs.Views.{low_of}
use Rattle.image.proofs.Laws.{cell_low}
use Rattle.definition.specs.declared.registers.Mark.{Mark}
use Rattle.definition.specs.declared.registers.Seat.{Seat}
use Rattle.definition.specs.declared.ranged.Registers.{Registers}
use Rattle.definition.specs.Machine.{Machine}
use Rattle.definition.specs.Asked.{Asked, refused, ask, ◌>>◌, After}
use Rattle.definition.specs.Run.{cleared}
use Rattle.definition.specs.View.{lent, view_of}
use Rattle.definition.specs.Flow.{in_dictionary}
use Rattle.definition.specs.Stacks.{nth, popped, has_cells}
use Rattle.definition.specs.Words.{taken, perform, do_kernel, execute_within, execute}
use Rattle.steps.specs.Seats.{with_cell_depth}
use Rattle.steps.specs.Inside.{inside}
use Rattle.steps.proofs.Dictionary.{inside_is, inside_tells}
use Rattle.steps.specs.Does.{seen, IsRefused}
use Rattle.steps.proofs.Exits.{depth_of, has_cells_lem, lacks_cells, cells_view}
use Rattle.codes.specs.Performs.{coded}
use Rattle.executing.specs.declared.tokens.Found.{Found}
use Rattle.executing.specs.Tokens.{IsFound, Released, Pops}

-- the definition's way
pub first : (t : ℕ) (m : Machine) → execute t m ≡ (ask m BadToken (in_dictionary t 2 m) >> coded (execute_within (length m.stacks.cells)) (cell_at m.low t) t m)
unfolding execute execute_within
first t m = refl

pub outside : (t : ℕ) (m : Machine) → in_dictionary t 2 m ≡ false → execute t m ≡ refused BadToken m
outside t m p = first t m ∙ ap (λ b. ask m BadToken b >> coded (execute_within (length m.stacks.cells)) (cell_at m.low t) t m) p

pub within : (t : ℕ) (m : Machine) → in_dictionary t 2 m ≡ true → execute t m ≡ coded (execute_within (length m.stacks.cells)) (cell_at m.low t) t m
within t m p = first t m ∙ ap (λ b. ask m BadToken b >> coded (execute_within (length m.stacks.cells)) (cell_at m.low t) t m) p

takes_off : (again : ℕ → Machine → Asked After) (t : ℕ) (m : Machine) → coded again 59 t m ≡ (ask m StackUnderflow (has_cells 1 m) >> again (nth 0 m) (popped 1 m))
unfolding do_kernel taken perform
takes_off again t m = refl

module _ (t : ℕ) (m : Machine) (p : in_dictionary t 2 m ≡ true) (q : cell_at m.low t ≡ 59) where
  by_execute : execute t m ≡ (ask m StackUnderflow (has_cells 1 m) >> execute_within (length m.stacks.cells) (nth 0 m) (popped 1 m))
  by_execute = within t m p ∙ ap (λ y. coded (execute_within (length m.stacks.cells)) y t m) q ∙ takes_off (execute_within (length m.stacks.cells)) t m

  none_left : has_cells 1 m ≡ false → execute t m ≡ refused StackUnderflow m
  none_left h = by_execute ∙ ap (λ b. ask m StackUnderflow b >> execute_within (length m.stacks.cells) (nth 0 m) (popped 1 m)) h

  one_less : (xs : List ℕ) → 0 < length xs → length xs ≡ suc (length (drop 1 xs))
  one_less [] h = absurd (omega arith)
  one_less (x ∷ xs) h = refl

  goes_on : has_cells 1 m ≡ true → 0 < length m.stacks.cells → execute t m ≡ execute (nth 0 m) (popped 1 m)
  unfolding execute
  goes_on h l =
      by_execute ∙ ap (λ b. ask m StackUnderflow b >> execute_within (length m.stacks.cells) (nth 0 m) (popped 1 m)) h
      ∙ ap (λ n. execute_within n (nth 0 m) (popped 1 m)) (one_less m.stacks.cells l)

-- as the code sees it
same : (r r' : Registers) (i c e : List ℕ) (k : List Mark) (s : Meaning) → r'.shared ≡ r.shared → r'.seat ≡ r.seat → seen r' i c e k s ≡ seen r i c e k s
same r r' i c e k s p q = ap (λ y. view_of y r'.seat (lent i c e k) s) p ∙ ap (λ y. view_of r.shared y (lent i c e k) s) q

module _ (r : Registers) (i c : List ℕ) (li : length i ≡ 65536) (lc : length c ≡ 128) where
  module _ (t : ℕ) (g : inside t 2 r.shared.ends.dp ≡ true) (e : List ℕ) (k : List Mark) (s : Meaning) where
    there : in_dictionary t 2 (seen r i c e k s) ≡ true
    there = inside_is r i li c e k s t 2 true g

    code_low : cell_at (low_of r.shared.ends.dp i) t ≡ cell_at i t
    code_low =
        let b = inside_tells t 2 r.shared.ends.dp g in
        cell_low r.shared.ends.dp i t (omega (arith, b.0)) (omega (arith, b.1))

    pub by_code : (n u : ℕ) → n ≡ cell_at i t → u ≡ t → execute t (seen r i c e k s) ≡ coded (execute_within (length (seen r i c e k s).stacks.cells)) n u (seen r i c e k s)
    by_code n u p q =
        let m = seen r i c e k s in
        within t m there ∙ ap (λ y. coded (execute_within (length m.stacks.cells)) y t m) (code_low ∙ sym p)
        ∙ ap (λ y. coded (execute_within (length m.stacks.cells)) n y m) (sym q)

    pub none_to_take : (r' : Registers) (f : Fault) → cell_at i t ≡ 59 → Pops r c (Err f) r' → IsRefused (execute t (seen r i c e k s)) f (seen r' i c e k s)
    none_to_take r' f q h =
        subst (λ y. IsRefused y f (seen r' i c e k s)) (sym (none_left t (seen r i c e k s) there (code_low ∙ q) (lacks_cells r i c e k s lc 1 (omega (arith, h.0)))))
        (h.1, ap cleared (sym (same r r' i c e k s h.2 h.3)))

    pub took : (r' : Registers) (u : ℕ) → cell_at i t ≡ 59 → Pops r c (Ok u) r' → execute t (seen r i c e k s) ≡ execute u (seen r' i c e k s)
    took r' u q h =
        let m = seen r i c e k s in
        let d = r.seat.depths.cells in
        let n : length (stack_of d c) ≡ d = depth_of r i c e k s lc in
        goes_on t m there (code_low ∙ q) (has_cells_lem r i c e k s lc 1 h.0) (omega (arith, n, h.0))
        ∙ ap (λ y. execute y (popped 1 m)) (sym h.1)
        ∙ ap (execute u) (sym (cells_view r r' i c c e k s (d - 1) (drop 1 (stack_of d c)) h.2 h.3 (sym (drop_stack d c 1 h.0 (omega (arith, r.cells, lc))))))

  pub not_there : (t : ℕ) (f : Fault) → IsFound r i t (Err f) → (e : List ℕ) (k : List Mark) (s : Meaning) → IsRefused (execute t (seen r i c e k s)) f (seen r i c e k s)
  not_there t f h e k s =
      let m = seen r i c e k s in
      subst (λ y. IsRefused y f m) (sym (outside t m (inside_is r i li c e k s t 2 false h.0))) (h.1, refl)

-- what was found names its own token
pub found_itself : (r : Registers) (i : List ℕ) (t : ℕ) (w : Found) → IsFound r i t (Ok w) → IsFound r i w.token (Ok w)
found_itself r i t w h = subst (λ y. (w.token ≡ y) × (w.code ≡ cell_at i y) × (inside y 2 r.shared.ends.dp ≡ true) × (y + 2 ≤ 32768)) (sym h.0) h

-- cells released, one after the other
pub none_released : (r : Registers) → Released r r
none_released r = record { shared = refl; seat = refl; fewer = omega arith }

released_on : (r r1 r2 : Registers) (d : ℕ) → Released r r1 → r2.shared ≡ r1.shared → r2.seat ≡ with_cell_depth d r1.seat → d ≤ r1.seat.depths.cells → Released r r2
released_on r r1 r2 d h p q l =
    let n : r2.seat.depths.cells ≡ d = ap (λ (y : Seat). y.depths.cells) q in
    record {
      shared = p ∙ h.shared;
      seat = q ∙ ap (with_cell_depth d) h.seat ∙ ap (λ y. with_cell_depth y r.seat) (sym n);
      fewer = omega (arith, h.fewer, n);
    }

pub pop_less : (r r' : Registers) (c : List ℕ) (u : ℕ) → Pops r c (Ok u) r' → r'.seat.depths.cells < r.seat.depths.cells
pop_less r r' c u h =
    let n : r'.seat.depths.cells ≡ r.seat.depths.cells - 1 = ap (λ (y : Seat). y.depths.cells) h.3 in
    omega (arith, n, h.0)

pub pop_released : (r r1 r2 : Registers) (c : List ℕ) (u : ℕ) → Released r r1 → Pops r1 c (Ok u) r2 → Released r r2
pop_released r r1 r2 c u h p = released_on r r1 r2 (r1.seat.depths.cells - 1) h p.2 p.3 (omega arith)

pub refused_released : (r r1 r2 : Registers) (c : List ℕ) (f : Fault) → Released r r1 → Pops r1 c (Err f) r2 → Released r r2
refused_released r r1 r2 c f h p = released_on r r1 r2 r1.seat.depths.cells h p.2 p.3 (omega arith)
