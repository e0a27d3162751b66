-- LOAD and the end of a load, as the definition has them.
use Rattle.std.proofs.Common.{◌≡◌, ℕ, ◌-◌, ◌<◌, ◌≤◌, true, false, not, ◌&&◌, eqb, ltb, List, ◌∷◌, length, get_or, drop, Ok, Err, sym, refl, ap, ◌∙◌}
use Rattle.fault.specs.declared.Fault.{Fault}
use Rattle.fault.specs.declared.Reason.TheVariants.{StackUnderflow, BadLoad}
use Rattle.fault.specs.Numbers.{fault_of}
use Rattle.store.specs.Meaning.{Meaning}
use Rattle.stacks.specs.Stack.{stack_of}
use Rattle.stacks.proofs.Laws.{length_stack}
use Rattle.definition.specs.declared.registers.Mark.{Mark}
use Rattle.definition.specs.declared.registers.Loads.{Loads}
use Rattle.definition.specs.declared.registers.Position.{Position}
use Rattle.definition.specs.declared.registers.Seat.{Seat}
use Rattle.definition.specs.declared.ranged.Registers.{Registers}
use Rattle.definition.specs.Machine.{Machine, reading, with_cells}
use Rattle.definition.specs.Asked.{Asked, refused, After, quietly}
use Rattle.definition.specs.Kernel
use Rattle.definition.specs.Ranges.{eight}
use Rattle.definition.specs.View.{lent, view_of, loads_of}
use Rattle.definition.specs.Words.{Argument, perform}
use Rattle.definition.specs.Stacks.{has_cells, nth, popped}
use Rattle.definition.specs.Blocks.{do_blocks}
use Rattle.definition.specs.Step.{finished, outcome, ended}
use Rattle.steps.specs.Seats.{told_by, with_cell_depth}
use Rattle.steps.specs.Does.{seen, acts, OnCells}
use Rattle.steps.proofs.Exits.{refused_at, has_cells_lem, lacks_cells}
use Rattle.block_words.specs.Reading.{loadable, from}

-- no word is left
pub ended_none : (r : Registers) → r.seat.loads.count ≡ 0 → (i c t : List ℕ) (k : List Mark) (s : Meaning) → ended (loads_of r.seat.loads) (seen r i c t k s) ≡ finished (seen r i c t k s)
unfolding stack_of
ended_none r e i c t k s = ap (λ (n : ℕ). ended (stack_of n (eight r.seat.loads)) (seen r i c t k s)) e

pub ended_one : (r : Registers) (l : Loads) (x : Position) → loads_of r.seat.loads ≡ x ∷ loads_of l → (i c t : List ℕ) (k : List Mark) (s : Meaning) → ended (loads_of r.seat.loads) (seen r i c t k s) ≡ outcome (quietly (view_of r.shared (from x l r.seat) (lent i c t k) s))
ended_one r l x e i c t k s = ap (λ (ls : List Position). ended ls (seen r i c t k s)) e

-- LOAD
load_acts : (again : ℕ → Machine → Asked After) (a : Argument) (m : Machine) → acts 58 again a m ≡ do_blocks Kernel.load m
unfolding perform
load_acts again a m = refl

load_short : (m : Machine) → has_cells 1 m ≡ false → do_blocks Kernel.load m ≡ refused StackUnderflow m
load_short m h = rw h

load_bad : (m : Machine) → has_cells 1 m ≡ true → (not (eqb (nth 0 m) 0) && ltb (length m.text.loads) 8) ≡ false → do_blocks Kernel.load m ≡ refused BadLoad m
load_bad m h k = rw (h, k)

load_done : (m : Machine) → has_cells 1 m ≡ true → (not (eqb (nth 0 m) 0) && ltb (length m.text.loads) 8) ≡ true → do_blocks Kernel.load m ≡ quietly (reading (record { blk = nth 0 m; offset = 0 }) m.text.source.word (m.text.source.position ∷ m.text.loads) (popped 1 m))
load_done m h k = rw (h, k)

abbrev deep : Registers → ℕ
deep r = r.seat.depths.cells

abbrev at : ℕ → Position
at b = record { blk = b; offset = 0 }

module _ (r : Registers) (c : List ℕ) (lc : length c ≡ 128) where
  abbrev top : ℕ
  top = get_or (stack_of (deep r) c) 0 0

  count_is : length (loads_of r.seat.loads) ≡ r.seat.loads.count
  count_is = length_stack r.seat.loads.count (eight r.seat.loads) r.loads

  pub short : (e : Fault) → deep r < 1 → e ≡ fault_of StackUnderflow (told_by r.seat) → OnCells 58 r c (Err e) r c
  short e h p = λ again a i t k s li. refused_at (acts 58 again a) (seen r i c t k s) e StackUnderflow (load_acts again a (seen r i c t k s) ∙ load_short (seen r i c t k s) (lacks_cells r i c t k s lc 1 h)) p

  pub bad : (b : ℕ) (e : Fault) → 1 ≤ deep r → b ≡ top → loadable b r.seat.loads.count ≡ false → e ≡ fault_of BadLoad (told_by r.seat) → OnCells 58 r c (Err e) r c
  bad b e h q g p = λ again a i t k s li.
      let m = seen r i c t k s in
      refused_at (acts 58 again a) m e BadLoad
      (load_acts again a m ∙ load_bad m (has_cells_lem r i c t k s lc 1 h) (ap (λ y. not (eqb top 0) && ltb y 8) count_is ∙ ap (λ y. loadable y r.seat.loads.count) (sym q) ∙ g)) p

  pub done : (r1 r2 : Registers) (b : ℕ) → 1 ≤ deep r → b ≡ top → loadable b r.seat.loads.count ≡ true → r1.shared ≡ r.shared → r1.seat ≡ from (at b) r1.seat.loads r.seat → loads_of r1.seat.loads ≡ r.seat.source.position ∷ loads_of r.seat.loads → r2.shared ≡ r1.shared → r2.seat ≡ with_cell_depth (deep r1 - 1) r1.seat → stack_of (deep r1 - 1) c ≡ drop 1 (stack_of (deep r1) c) → OnCells 58 r c (Ok tt) r2 c
  done r1 r2 b h q g u1 w1 l1 u2 w2 st = λ again a i t k s li.
      let m = seen r i c t k s in
      let p : Position = r.seat.source.position in
      let w2' : r2.seat ≡ with_cell_depth (deep r - 1) (from (at b) r1.seat.loads r.seat) = w2 ∙ ap (λ (y : Seat). with_cell_depth (y.depths.cells - 1) y) w1 in
      let d : deep r1 ≡ deep r = ap (λ (y : Seat). y.depths.cells) w1 in
      let st' : stack_of (deep r - 1) c ≡ drop 1 (stack_of (deep r) c) = ap (λ y. stack_of (y - 1) c) (sym d) ∙ st ∙ ap (λ y. drop 1 (stack_of y c)) d in
      load_acts again a m ∙ load_done m (has_cells_lem r i c t k s lc 1 h) (ap (λ y. not (eqb top 0) && ltb y 8) count_is ∙ ap (λ y. loadable y r.seat.loads.count) (sym q) ∙ g)
      ∙ ap quietly (sym (
      ap (λ y. view_of y r2.seat (lent i c t k) s) (u2 ∙ u1)
      ∙ ap (λ y. view_of r.shared y (lent i c t k) s) w2'
      ∙ ap (λ (y : List Position). reading (at b) r.seat.source.word y (view_of r.shared (with_cell_depth (deep r - 1) r.seat) (lent i c t k) s)) l1
      ∙ ap (λ y. reading (at y) r.seat.source.word (p ∷ loads_of r.seat.loads) (view_of r.shared (with_cell_depth (deep r - 1) r.seat) (lent i c t k) s)) q
      ∙ ap (λ (y : List ℕ). reading (at top) r.seat.source.word (p ∷ loads_of r.seat.loads) (with_cells y m)) st'
      ))
