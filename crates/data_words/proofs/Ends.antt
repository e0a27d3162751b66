-- The ends of a word on data cells, from what the code knows there.
use Rattle.std.proofs.Common.{◌≡◌, ℕ, ◌+◌, ◌-◌, ◌<◌, ◌≤◌, List, [], ◌∷◌, length, drop, Ok, Err, Result, sym, ap, ◌∙◌, arith}
use Rattle.fault.specs.declared.Fault.{Fault}
use Rattle.fault.specs.declared.Reason.{Reason}
use Rattle.fault.specs.declared.Reason.TheVariants.{StackUnderflow}
use Rattle.fault.specs.Numbers.{fault_of}
use Rattle.store.specs.Meaning.{Meaning}
use Rattle.stacks.specs.Stack.{stack_of}
use Rattle.definition.specs.declared.registers.Mark.{Mark}
use Rattle.definition.specs.declared.ranged.Registers.{Registers}
use Rattle.definition.specs.Machine.{with_cells}
use Rattle.definition.specs.Asked.{refused, quietly}
use Rattle.definition.specs.Kernel.{CellsWord}
use Rattle.definition.specs.Stacks.{do_cells, replaced}
use Rattle.steps.specs.Seats.{told_by, with_cell_depth}
use Rattle.steps.specs.Does.{seen, acts, Does, OnCells}
use Rattle.steps.proofs.Exits.{refused_at, does_like, lacks_cells, has_room_lem, cells_view}
use Rattle.data_words.proofs.Acting.{Acts}
use Rattle.data_words.proofs.Moves.{takes_of, short, replaced_done}

-- a refusal
pub cells_refused : (n : ℕ) (w : CellsWord) → Acts n w → (r : Registers) (c : List ℕ) (e : Fault) (why : Reason) → ((i t : List ℕ) (k : List Mark) (s : Meaning) → do_cells w (seen r i c t k s) ≡ refused why (seen r i c t k s)) → e ≡ fault_of why (told_by r.seat) → OnCells n r c (Err e) r c
cells_refused n w q r c e why h p = λ again a i t k s l. refused_at (acts n again a) (seen r i c t k s) e why (q again a (seen r i c t k s) ∙ h i t k s) p

-- too few cells
pub cells_short : (n : ℕ) (w : CellsWord) → Acts n w → (r : Registers) (c : List ℕ) (e : Fault) → length c ≡ 128 → 0 < takes_of w → r.seat.depths.cells < takes_of w → e ≡ fault_of StackUnderflow (told_by r.seat) → OnCells n r c (Err e) r c
cells_short n w q r c e l b h p = cells_refused n w q r c e StackUnderflow (λ i t k s. short w (seen r i c t k s) b (lacks_cells r i c t k s l (takes_of w) h)) p

-- these cells are left
pub cells_done : (n : ℕ) (w : CellsWord) → Acts n w → (r r' : Registers) (c c' : List ℕ) (d : ℕ) (xs : List ℕ) → ((i t : List ℕ) (k : List Mark) (s : Meaning) → do_cells w (seen r i c t k s) ≡ quietly (with_cells xs (seen r i c t k s))) → r'.shared ≡ r.shared → r'.seat ≡ with_cell_depth d r.seat → stack_of d c' ≡ xs → OnCells n r c (Ok tt) r' c'
cells_done n w q r r' c c' d xs h p u e = λ again a i t k s l. q again a (seen r i c t k s) ∙ h i t k s ∙ ap quietly (sym (cells_view r r' i c c' t k s d xs p u e))

-- one cell in the place of the top n
pub cells_replaced : (n : ℕ) (w : CellsWord) → Acts n w → (r r' : Registers) (c c' : List ℕ) (p x : ℕ) → length c ≡ 128 → 0 < p → p ≤ r.seat.depths.cells → ((i t : List ℕ) (k : List Mark) (s : Meaning) → do_cells w (seen r i c t k s) ≡ replaced p (x ∷ []) (seen r i c t k s)) → r'.shared ≡ r.shared → r'.seat ≡ with_cell_depth (r.seat.depths.cells - p + 1) r.seat → stack_of (r.seat.depths.cells - p + 1) c' ≡ x ∷ drop p (stack_of r.seat.depths.cells c) → OnCells n r c (Ok tt) r' c'
cells_replaced n w q r r' c c' p x l b v h u g e =
    cells_done n w q r r' c c' _ _ (λ i t k s. h i t k s ∙ replaced_done p (x ∷ []) (seen r i c t k s) (has_room_lem r i c t k s l 1 p v (omega (arith, r.cells)))) u g e

-- one cell more
pub cells_left : (n : ℕ) (w : CellsWord) → Acts n w → (r r' : Registers) (c c' : List ℕ) (x : ℕ) (o : Result (Unit {0}) Fault) → ((i t : List ℕ) (k : List Mark) (s : Meaning) → length i ≡ 65536 → do_cells w (seen r i c t k s) ≡ replaced 0 (x ∷ []) (seen r i c t k s)) → ((i t : List ℕ) (k : List Mark) (s : Meaning) → Does (replaced 0 (x ∷ [])) (seen r i c t k s) o (seen r' i c' t k s)) → OnCells n r c o r' c'
cells_left n w q r r' c c' x o h g =
    λ again a i t k s l. does_like (acts n again a) (replaced 0 (x ∷ [])) (seen r i c t k s) (seen r' i c' t k s) o (q again a (seen r i c t k s) ∙ h i t k s l) (g i t k s)
