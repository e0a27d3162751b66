-- What typing leaves of the output, and what a word leaves of the registers.
use Rattle.std.specs.Prelude.{◌≡◌, ℕ, ◌-◌, ◌<◌, ◌≤◌, Bool, true, false, List, length, drop}
use Rattle.stacks.specs.Stack.{stack_of}
use Rattle.definition.specs.declared.ranged.Registers.{Registers}
use Rattle.steps.specs.declared.progress.Progress.{Progress}
use Rattle.steps.specs.declared.progress.Progress.TheVariants.{Went, Full, Finished}
use Rattle.steps.specs.Seats.{with_cell_depth}
use Rattle.steps.specs.Does.{Grows}

-- `new` was typed if it fits behind the first n bytes; else nothing was
abbrev pub Types : List ℕ → ℕ → List ℕ → Bool → List ℕ → ℕ → Type 0
Types out n new true out' n' = Grows out n new out' n' × (length new ≤ length out - n)
Types out n new false out' n' = (length out - n < length new) × (out' ≡ out) × (n' ≡ n)

-- n cells were let go if what the word types fitted
abbrev pub Releases : Bool → ℕ → Registers → List ℕ → Progress → Registers → Type 0
Releases true n r c Went r' =
    let d = r.seat.depths.cells in
    (r'.shared ≡ r.shared) × (r'.seat ≡ with_cell_depth (d - n) r.seat) × (stack_of (d - n) c ≡ drop n (stack_of d c))
Releases true n r c Full r' = ⊥
Releases true n r c Finished r' = ⊥
Releases false n r c Went r' = ⊥
Releases false n r c Full r' = r' ≡ r
Releases false n r c Finished r' = ⊥
