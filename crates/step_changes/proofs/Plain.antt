-- The words that leave the dictionary alone, by their groups.
use Rattle.std.proofs.Common.{◌≡◌, ℕ, ◌+◌, ◌%◌, ◌<◌, ◌≤◌, Bool, true, false, eqb, leb, List, [], ◌∷◌, ◌++◌, length, take, drop, arith, if◌then◌else◌}
use mathlib.Core.Bool.{beq}
use Rattle.std.proofs.lemmas.List.{length-append, length-drop, length-take}
use Rattle.std.proofs.ByRecursion.{All-append, All-drop, All-take}
use Rattle.std.proofs.lemmas.Bool.{leb-true, and_parts}
use Rattle.fault.specs.declared.Reason.TheVariants.{StackUnderflow, BadBase}
use Rattle.image.specs.Cells.{cell_at}
use Rattle.numbers.specs.Cells.{is_negative}
use Rattle.numbers.specs.Division.{Signed, Divided, signed, product, floored, same_side, two_sides, cell_of}
use Rattle.definition.specs.Machine.{Machine, dp, ip, with_cells, with_returns, dict_of}
use Rattle.definition.specs.Asked.{ask, ◌>>◌, quietly, typing}
use Rattle.definition.specs.Kernel
use Rattle.definition.specs.Kernel.{CellsWord, TypingWord, ReturnsWord}
use Rattle.definition.specs.Stacks.{nth, nth_return, popped, pushed, popped_returns, pushed_returns, has_cells, has_room, has_returns, has_return_room, go_to, roll, do_cells}
use Rattle.definition.specs.Space.{in_reach, base, do_typing}
use Rattle.numbers.specs.Text.{is_base, signed_text, unsigned_text}
use Rattle.definition.specs.Flow.{in_dictionary, has_inline, past, do_returns}
use Rattle.step_changes.specs.Steady.{Cells, Steady}
use Rattle.step_changes.specs.Laws.{stays}
use Rattle.step_changes.proofs.Known.{known}
use Rattle.step_changes.proofs.Ranges.{cell_below}
use Rattle.step_changes.proofs.Leading.{Leads, leads_ask, stayed, with_cells_lem, with_returns_lem, with_ip_lem, nth_cell, nth_return_lem, with_popped, with_popped_returns, with_pushed_returns, with_pushed, replaced_leads}

-- words on data cells whose functions make cells of cells
abbrev pub MakesCells : CellsWord → Type 0
MakesCells (Kernel.leaves f) = (m : Machine) → Steady m → f m < 65536
MakesCells (Kernel.one f) = (a : ℕ) → a < 65536 → Cells (f a)
MakesCells (Kernel.two f) = (a b : ℕ) → a < 65536 → b < 65536 → Cells (f a b)
MakesCells (Kernel.three f) = (a b c : ℕ) → a < 65536 → b < 65536 → c < 65536 → Cells (f a b c)
MakesCells (Kernel.divide f) = (d : Divided) → d.quotient < 65536 → d.remainder < 65536 → Cells (f d)
MakesCells Kernel.scale = Unit {0}
MakesCells Kernel.pick = Unit {0}
MakesCells Kernel.roll = Unit {0}

cell_of_lem : (b : Bool) (n : ℕ) → cell_of b n < 65536
cell_of_lem true n = omega arith
cell_of_lem false n = omega arith

abbrev InCells : Divided → Type 0
InCells d = (d.quotient < 65536) × (d.remainder < 65536)

in_either : (b : Bool) (x y : Divided) → InCells x → InCells y → InCells (if◌then◌else◌ b x y)
in_either true x y p q = p
in_either false x y p q = q

same_in : (b : Bool) (m n : ℕ) → InCells (same_side b m n)
same_in b m n = (cell_of_lem false (Prim.Native.Nat.◌/◌ m n), cell_of_lem b (m % n))

none_in : InCells (record { remainder = 0; quotient = 0; fits = false })
none_in = (omega arith, omega arith)

two_in : (b : Bool) (m n : ℕ) → InCells (two_sides b m n)
two_in b m n = (cell_of_lem true _, cell_of_lem b _)

divided_in : (a b : Signed) → InCells (floored a b)
divided_in a b =
    in_either (eqb b.size 0) _ _ none_in (in_either (beq a.is_below b.is_below) _ _ (same_in b.is_below a.size b.size) (two_in b.is_below a.size b.size))

module _ (m : Machine) (s : Steady m) where
  roll_cells : (k : ℕ) (xs : List ℕ) → Cells xs → Cells (roll 0 k xs)
  roll_cells k xs h = (
    Rattle.step_changes.proofs.Ranges.all_or (λ x. x < 65536) xs k 0 (omega arith) h,
    All-append (λ x. x < 65536) (take k xs) (drop (k + 1) xs) (All-take (λ x. x < 65536) k xs h) (All-drop (λ x. x < 65536) (k + 1) xs h),
  )

  pub cells_lead : (w : CellsWord) → MakesCells w → Leads (dict_of m) (do_cells w m)
  cells_lead (Kernel.leaves f) k = replaced_leads m s 0 (f m ∷ []) (k m s, tt)
  cells_lead (Kernel.one f) k = leads_ask _ _ _ (has_cells 1 m) _ (λ h. replaced_leads m s 1 (f (nth 0 m)) (k (nth 0 m) (nth_cell m s 0)))
  cells_lead (Kernel.two f) k =
      leads_ask _ _ _ (has_cells 2 m) _ (λ h. replaced_leads m s 2 (f (nth 1 m) (nth 0 m)) (k (nth 1 m) (nth 0 m) (nth_cell m s 1) (nth_cell m s 0)))
  cells_lead (Kernel.three f) k =
      leads_ask _ _ _ (has_cells 3 m) _ (λ h. replaced_leads m s 3 (f (nth 2 m) (nth 1 m) (nth 0 m)) (k (nth 2 m) (nth 1 m) (nth 0 m) (nth_cell m s 2) (nth_cell m s 1) (nth_cell m s 0)))
  cells_lead (Kernel.divide f) k =
      let d = floored (signed (nth 1 m)) (signed (nth 0 m)) in
      let i = divided_in (signed (nth 1 m)) (signed (nth 0 m)) in
      leads_ask _ _ _ (has_cells 2 m) _ (λ h. leads_ask _ _ _ d.fits _ (λ g. replaced_leads m s 2 (f d) (k d i.0 i.1)))
  cells_lead Kernel.scale k =
      let d = floored (product (nth 2 m) (nth 1 m)) (signed (nth 0 m)) in
      let i = divided_in (product (nth 2 m) (nth 1 m)) (signed (nth 0 m)) in
      leads_ask _ _ _ (has_cells 3 m) _ (λ h. leads_ask _ _ _ d.fits _ (λ g. replaced_leads m s 3 (d.quotient ∷ []) (i.0, tt)))
  cells_lead Kernel.pick k =
      leads_ask _ _ _ (has_cells 1 m) _ (λ h. leads_ask _ _ _ (has_cells (nth 0 m + 2) m) _ (λ g. replaced_leads m s 1 (nth (nth 0 m + 1) m ∷ []) (nth_cell m s (nth 0 m + 1), tt)))
  cells_lead Kernel.roll k =
      let t = drop 1 m.stacks.cells in
      leads_ask _ _ _ (has_cells 1 m) _ (λ h. leads_ask _ _ _ (has_cells (nth 0 m + 2) m) _ (λ g.
      stayed (with_cells (roll 0 (nth 0 m) t) m) stays
      (with_cells_lem m s (roll 0 (nth 0 m) t) (roll_cells (nth 0 m) t (All-drop (λ x. x < 65536) 1 m.stacks.cells s.stacks.cells)) (rolled_short (nth 0 m) m.stacks.cells (leb-true (nth 0 m + 2) (length m.stacks.cells) g) s.stacks.depth))))
    where
      rolled_short : (k : ℕ) (xs : List ℕ) → k + 2 ≤ length xs → length xs ≤ 128 → length (roll 0 k (drop 1 xs)) ≤ 128
      rolled_short k xs h l = simp (length-append, length-take, length-drop) (omega arith)

  -- words that type

  number_leads : (text : ℕ → ℕ → List ℕ) → Leads (dict_of m) (ask m StackUnderflow (has_cells 1 m) >> (ask m BadBase (is_base (base m)) >> typing (text (base m) (nth 0 m) ++ (32 ∷ [])) (popped 1 m)))
  number_leads text = leads_ask _ _ _ (has_cells 1 m) _ (λ h. leads_ask _ _ _ (is_base (base m)) _ (λ g. stayed (popped 1 m) stays (with_popped m s 1)))

  pub typing_leads : (w : TypingWord) → Leads (dict_of m) (do_typing w m)
  typing_leads Kernel.dot = number_leads signed_text
  typing_leads Kernel.u_dot = number_leads unsigned_text
  typing_leads Kernel.emit = leads_ask _ _ _ (has_cells 1 m) _ (λ h. stayed (popped 1 m) stays (with_popped m s 1))
  typing_leads Kernel.type =
      leads_ask _ _ _ (has_cells 2 m) _ (λ h. leads_ask _ _ _ (in_reach (nth 1 m) (if is_negative (nth 0 m) then 0 else nth 0 m) m) _ (λ g. stayed (popped 2 m) stays (with_popped m s 2)))
  typing_leads Kernel.cr = (stays, s)
  typing_leads Kernel.spaces = leads_ask _ _ _ (has_cells 1 m) _ (λ h. stayed (popped 1 m) stays (with_popped m s 1))

  -- IP

  pub quiet_if : (b : Bool) (x y : Machine) → Leads (dict_of m) (quietly x) → Leads (dict_of m) (quietly y) → Leads (dict_of m) (quietly (if b then x else y))
  quiet_if true x y p q = p
  quiet_if false x y p q = q

  pub in_dictionary_lem : (a n : ℕ) → in_dictionary a n m ≡ true → a + n ≤ 32768
  in_dictionary_lem a n h = omega (arith, leb-true (a + n) (dp m) (and_parts (leb 256 a) (leb (a + n) (dp m)) h).1, (known (dict_of m) s.came).room)

  pub low_cell : (a : ℕ) → cell_at m.low a < 65536
  low_cell a = cell_below m.low a (known (dict_of m) s.came).bytes

-- IP goes to an address
pub go_leads : (m : Machine) → Steady m → (a : ℕ) → a < 65536 → Leads (dict_of m) (quietly (go_to a m))
go_leads m s a h = quiet_if m s (eqb a 0) _ _ (stays, with_ip_lem (with_returns [] m) (with_returns_lem m s [] tt) 0 (omega arith)) (stays, with_ip_lem m s a h)

module _ (m : Machine) (s : Steady m) where
  pub past_steady : has_inline m ≡ true → Steady (past m)
  past_steady h = with_ip_lem m s (ip m + 2) (omega (arith, in_dictionary_lem m s (ip m) 2 h))

  pub exit_leads : Leads (dict_of m) (quietly (go_to (nth_return 0 m) (popped_returns 1 m)))
  exit_leads = go_leads (popped_returns 1 m) (with_popped_returns m s 1) (nth_return 0 m) (nth_return_lem m s 0)

  pub returns_lead : (w : ReturnsWord) → Leads (dict_of m) (do_returns w m)
  returns_lead Kernel.exit = leads_ask _ _ _ (has_returns 1 m) _ (λ h. exit_leads)
  returns_lead Kernel.to_r =
      leads_ask _ _ _ (has_cells 1 m) _ (λ h. leads_ask _ _ _ (has_return_room 1 m) _ (λ g.
      stayed (pushed_returns (nth 0 m ∷ []) (popped 1 m)) stays (with_pushed_returns (popped 1 m) (with_popped m s 1) (nth 0 m ∷ []) (nth_cell m s 0, tt))))
  returns_lead Kernel.from_r =
      leads_ask _ _ _ (has_room 1 m) _ (λ h. leads_ask _ _ _ (has_returns 1 m) _ (λ g.
      stayed (pushed (nth_return 0 m) (popped_returns 1 m)) stays (with_pushed (popped_returns 1 m) (with_popped_returns m s 1) (nth_return 0 m) (nth_return_lem m s 0) h)))
  returns_lead (Kernel.copy_at k) =
      leads_ask _ _ _ (has_room 1 m) _ (λ h. leads_ask _ _ _ (has_returns (k + 1) m) _ (λ g.
      stayed (pushed (nth_return k m) m) stays (with_pushed m s (nth_return k m) (nth_return_lem m s k) h)))
  returns_lead Kernel.leave =
      leads_ask _ _ _ (has_returns 3 m) _ (λ h. go_leads (popped_returns 3 m) (with_popped_returns m s 3) (nth_return 2 m) (nth_return_lem m s 2))
