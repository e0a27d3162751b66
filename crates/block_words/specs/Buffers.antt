-- What it means that code brings a block in, and the numbers of the words.
use Rattle.std.specs.Prelude.{◌≡◌, ℕ, Bool, false, List, Some, None, Ok, Err, Option, Result, ◌==◌}
use Rattle.fault.specs.declared.Fault.{Fault}
use Rattle.store.specs.Meaning.{Meaning}
use Rattle.definition.specs.declared.registers.Buffer.{Buffer}
use Rattle.definition.specs.declared.registers.Mark.{Mark}
use Rattle.definition.specs.declared.registers.Shared.{Shared}
use Rattle.definition.specs.declared.ranged.Registers.{Registers}
use Rattle.definition.specs.Machine.{Machine}
use Rattle.definition.specs.Asked.{Asked, given}
use Rattle.steps.specs.Does.{seen, IsRefused}
use Rattle.block_words.specs.declared.words.BlockWord.{BlockWord}
use Rattle.block_words.specs.declared.words.BlockWord.TheVariants.{Block, Update, Flush}

abbrev pub block_number : BlockWord → ℕ
block_number Block = 55
block_number Update = 56
block_number Flush = 57

-- is the block held that n names?
abbrev pub holding : Option ℕ → ℕ → Bool
holding None n = false
holding (Some k) n = k == n

abbrev pub with_buffer : Buffer → Shared → Shared
with_buffer b s = record { ends = s.ends; names = s.names; buffer = b }

-- a call that was to come to a machine answered o and left m'
abbrev pub Comes : Asked Machine → Result (Unit {0}) Fault → Machine → Type 0
Comes x (Ok _) m' = x ≡ given m'
Comes x (Err e) m' = IsRefused x e m'

-- `f` was done on registers, image and store, whatever the rest of memory holds
abbrev pub Brings : (Machine → Asked Machine) → Registers → List ℕ → Meaning → Result (Unit {0}) Fault → Registers → List ℕ → Meaning → Type 0
Brings f r i s o r' i' s' = (c t : List ℕ) (k : List Mark) → Comes (f (seen r i c t k s)) o (seen r' i' c t k s')
