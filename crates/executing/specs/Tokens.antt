-- Tokens, and what it means to come through EXECUTE to the word that is executed.
use Rattle.std.specs.Prelude.{◌≡◌, ◌≢◌, ℕ, ◌+◌, ◌-◌, ◌<◌, ◌≤◌, true, false, List, length, Ok, Err, Result, slice_index}
use Rattle.fault.specs.declared.Fault.{Fault}
use Rattle.fault.specs.declared.Reason.TheVariants.{BadToken, StackUnderflow}
use Rattle.fault.specs.Numbers.{fault_of}
use Rattle.store.specs.Meaning.{Meaning}
use Rattle.stacks.specs.Stack.{stack_of}
use Rattle.image.specs.Cells.{cell_at}
use Rattle.definition.specs.declared.registers.Mark.{Mark}
use Rattle.definition.specs.declared.ranged.Registers.{Registers}
use Rattle.definition.specs.Words.{execute_within, execute}
use Rattle.steps.specs.Inside.{inside}
use Rattle.steps.specs.Seats.{told_by, with_cell_depth}
use Rattle.steps.specs.Does.{seen, IsRefused}
use Rattle.codes.specs.Performs.{coded}
use Rattle.executing.specs.declared.tokens.Found.{Found}

-- the token lies in the dictionary, with its code; or it does not
abbrev pub IsFound : Registers → List ℕ → ℕ → Result Found Fault → Type 0
IsFound r i t (Ok w) = (w.token ≡ t) × (w.code ≡ cell_at i t) × (inside t 2 r.shared.ends.dp ≡ true) × (t + 2 ≤ 32768)
IsFound r i t (Err e) = (inside t 2 r.shared.ends.dp ≡ false) × (e ≡ fault_of BadToken (told_by r.seat))

-- some cells were released, and nothing else
pub record Released (r r' : Registers) : Type 0 where
  pub shared : r'.shared ≡ r.shared
  pub seat : r'.seat ≡ with_cell_depth r'.seat.depths.cells r.seat
  pub fewer : r'.seat.depths.cells ≤ r.seat.depths.cells

-- the top cell was taken off, or there is none
abbrev pub Pops : Registers → List ℕ → Result ℕ Fault → Registers → Type 0
Pops r c (Ok x) r' = (0 < r.seat.depths.cells) × (x ≡ slice_index (stack_of r.seat.depths.cells c) 0) × (r'.shared ≡ r.shared) × (r'.seat ≡ with_cell_depth (r.seat.depths.cells - 1) r.seat)
Pops r c (Err e) r' = (r.seat.depths.cells ≡ 0) × (e ≡ fault_of StackUnderflow (told_by r.seat)) × (r'.shared ≡ r.shared) × (r'.seat ≡ r.seat)

-- executing t came to the word of a code that is not EXECUTE; or to a refusal
abbrev pub Through : ℕ → Registers → List ℕ → List ℕ → Result Found Fault → Registers → Type 0
Through t r i c (Ok w) r' =
    (w.token + 2 ≤ 32768) × (w.code ≢ 59)
    × ((e : List ℕ) (k : List Mark) (s : Meaning) →
    let m = seen r' i c e k s in
    execute t (seen r i c e k s) ≡ coded (execute_within (length m.stacks.cells)) w.code w.token m)
Through t r i c (Err f) r' = (e : List ℕ) (k : List Mark) (s : Meaning) → IsRefused (execute t (seen r i c e k s)) f (seen r' i c e k s)
