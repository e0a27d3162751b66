-- What holds of a machine from boot at every moment.
use Rattle.std.specs.Prelude.{◌≡◌, ℕ, ◌+◌, ◌<◌, ◌≤◌, true, ◌≢◌, List, length}
use Rattle.std.specs.List.{AllByRecursion}
use Rattle.image.specs.Cells.{Bytes}
use Rattle.store.specs.Meaning.{Meaning, Sound, block}
use Rattle.entries.specs.Entries.{first_at}
use Rattle.dictionary.specs.Dict.{Dict, dp}
use Rattle.kernel.specs.Boot.{boot_dict}
use Rattle.forgetting.specs.Law.{Run}
use Rattle.definition.specs.declared.registers.Kind.{Kind}
use Rattle.definition.specs.declared.registers.Kind.TheVariants.{If, Begin, While, Do}
use Rattle.definition.specs.declared.registers.Mark.{Mark}
use Rattle.definition.specs.declared.registers.Position.{Position}
use Rattle.definition.specs.Machine.{Machine, Stacks, Text, ip, dict_of}

-- every element is a cell
abbrev pub Cells : List ℕ → Type 0
Cells xs = AllByRecursion (λ x. x < 65536) xs

-- IF, WHILE and DO leave the address of a cell, BEGIN that of the token behind it
abbrev pub mark_size : Kind → ℕ
mark_size If = 2
mark_size Begin = 0
mark_size While = 2
mark_size Do = 2

-- an entry is open, and the mark lies in it: behind its first parameter cell, and at or below DP
pub record InOpen (D : Dict) (k : Mark) : Type 0 where
  pub is_open : D.opened ≢ 0
  pub above : first_at D.low D.opened + 2 ≤ k.address
  pub below : k.address + mark_size k.kind ≤ dp D

-- at most 128 cells
pub record StacksHold (s : Stacks) : Type 0 where
  pub cells : Cells s.cells
  pub depth : length s.cells ≤ 128
  pub returns : Cells s.returns

abbrev pub BlockInCell : Position → Type 0
BlockInCell p = p.blk < 65536

pub record TextHolds (t : Text) : Type 0 where
  pub line : Bytes t.line
  pub reads : BlockInCell t.source.position
  pub loads : AllByRecursion BlockInCell t.loads

-- HERE from 34,048 to 65,535
pub record SpaceHolds (high : List ℕ) : Type 0 where
  pub bytes : Bytes high
  pub long : 1280 ≤ length high
  pub short : length high ≤ 32767

-- a sound store whose blocks are bytes
pub record StoreHolds (s : Meaning) : Type 0 where
  pub sound : Sound s
  pub bytes : (k : ℕ) → Bytes (block s k)

-- the dictionary came from boot's by allowed changes, a machine compiles only into an open entry, and every mark lies in it
pub record Steady (m : Machine) : Type 0 where
  pub came : Run boot_dict (dict_of m)
  pub compiles : m.flow.compiling ≡ true → m.names.opened ≢ 0
  pub marks : AllByRecursion (InOpen (dict_of m)) m.stacks.marks
  pub stacks : StacksHold m.stacks
  pub text : TextHolds m.text
  pub space : SpaceHolds m.high
  pub pointer : ip m < 65536
  pub store : StoreHolds m.store
