-- What the rows of each group ask of the state, read off the kernel table.
use Rattle.std.proofs.Common.{[], ◌∷◌, refl}
use Rattle.definition.specs.Kernel
use Rattle.data_words.specs.declared.words.StackWord.{StackWord}
use Rattle.data_words.specs.declared.words.LeavingWord.{LeavingWord}
use Rattle.data_words.specs.declared.words.UnaryWord.{UnaryWord}
use Rattle.data_words.specs.declared.words.BinaryWord.{BinaryWord}
use Rattle.data_words.specs.declared.words.DivideWord.{DivideWord}
use Rattle.space_words.specs.declared.words.MemoryWord.{MemoryWord}
use Rattle.space_words.specs.declared.words.AppendingWord.{AppendingWord}
use Rattle.inner_words.specs.declared.words.ReturnsWord.{ReturnsWord}
use Rattle.inner_words.specs.declared.words.InlineWord.{InlineWord}
use Rattle.block_words.specs.declared.words.BlockWord.{BlockWord}
use Rattle.control_words.specs.declared.words.ControlWord.{ControlWord}
use Rattle.data_words.specs.Numbers.{stack_number, leaving_number, unary_number, binary_number, divide_number}
use Rattle.space_words.specs.Numbers.{memory_number}
use Rattle.space_words.specs.Numbers.{appending_number}
use Rattle.inner_words.specs.Numbers.{returns_number, inline_number}
use Rattle.block_words.specs.Buffers.{block_number}
use Rattle.control_words.specs.Numbers.{control_number}
use Rattle.steps.proofs.States.{Asking}

-- the row of a number takes nothing from the text and asks this of the state: read off by computing
pub stack_rows_lem : (w : StackWord) → Asking (stack_number w) []
stack_rows_lem StackWord.Dup = record { kernel = refl; takes = refl; asks = refl }
stack_rows_lem StackWord.Drop = record { kernel = refl; takes = refl; asks = refl }
stack_rows_lem StackWord.Swap = record { kernel = refl; takes = refl; asks = refl }
stack_rows_lem StackWord.Over = record { kernel = refl; takes = refl; asks = refl }
stack_rows_lem StackWord.Rot = record { kernel = refl; takes = refl; asks = refl }
stack_rows_lem StackWord.QuestionDup = record { kernel = refl; takes = refl; asks = refl }
stack_rows_lem StackWord.Pick = record { kernel = refl; takes = refl; asks = refl }
stack_rows_lem StackWord.Roll = record { kernel = refl; takes = refl; asks = refl }

pub leaving_rows : (w : LeavingWord) → Asking (leaving_number w) []
leaving_rows LeavingWord.Depth = record { kernel = refl; takes = refl; asks = refl }
leaving_rows LeavingWord.Base = record { kernel = refl; takes = refl; asks = refl }
leaving_rows LeavingWord.Pad = record { kernel = refl; takes = refl; asks = refl }
leaving_rows LeavingWord.Here = record { kernel = refl; takes = refl; asks = refl }

pub unary_rows : (w : UnaryWord) → Asking (unary_number w) []
unary_rows UnaryWord.OnePlus = record { kernel = refl; takes = refl; asks = refl }
unary_rows UnaryWord.OneMinus = record { kernel = refl; takes = refl; asks = refl }
unary_rows UnaryWord.TwoSlash = record { kernel = refl; takes = refl; asks = refl }
unary_rows UnaryWord.Negate = record { kernel = refl; takes = refl; asks = refl }
unary_rows UnaryWord.Abs = record { kernel = refl; takes = refl; asks = refl }
unary_rows UnaryWord.Not = record { kernel = refl; takes = refl; asks = refl }
unary_rows UnaryWord.ZeroEqual = record { kernel = refl; takes = refl; asks = refl }
unary_rows UnaryWord.ZeroLess = record { kernel = refl; takes = refl; asks = refl }

pub binary_rows : (w : BinaryWord) → Asking (binary_number w) []
binary_rows BinaryWord.Plus = record { kernel = refl; takes = refl; asks = refl }
binary_rows BinaryWord.Minus = record { kernel = refl; takes = refl; asks = refl }
binary_rows BinaryWord.Times = record { kernel = refl; takes = refl; asks = refl }
binary_rows BinaryWord.Min = record { kernel = refl; takes = refl; asks = refl }
binary_rows BinaryWord.Max = record { kernel = refl; takes = refl; asks = refl }
binary_rows BinaryWord.And = record { kernel = refl; takes = refl; asks = refl }
binary_rows BinaryWord.Or = record { kernel = refl; takes = refl; asks = refl }
binary_rows BinaryWord.Xor = record { kernel = refl; takes = refl; asks = refl }
binary_rows BinaryWord.Equal = record { kernel = refl; takes = refl; asks = refl }
binary_rows BinaryWord.Less = record { kernel = refl; takes = refl; asks = refl }
binary_rows BinaryWord.Greater = record { kernel = refl; takes = refl; asks = refl }
binary_rows BinaryWord.UnsignedLess = record { kernel = refl; takes = refl; asks = refl }

pub divide_rows : (w : DivideWord) → Asking (divide_number w) []
divide_rows DivideWord.Slash = record { kernel = refl; takes = refl; asks = refl }
divide_rows DivideWord.Mod = record { kernel = refl; takes = refl; asks = refl }
divide_rows DivideWord.SlashMod = record { kernel = refl; takes = refl; asks = refl }
divide_rows DivideWord.TimesSlash = record { kernel = refl; takes = refl; asks = refl }

pub memory_rows : (w : MemoryWord) → Asking (memory_number w) []
memory_rows MemoryWord.Fetch = record { kernel = refl; takes = refl; asks = refl }
memory_rows MemoryWord.Store = record { kernel = refl; takes = refl; asks = refl }
memory_rows MemoryWord.PlusStore = record { kernel = refl; takes = refl; asks = refl }
memory_rows MemoryWord.CFetch = record { kernel = refl; takes = refl; asks = refl }
memory_rows MemoryWord.CStore = record { kernel = refl; takes = refl; asks = refl }
memory_rows MemoryWord.CMove = record { kernel = refl; takes = refl; asks = refl }
memory_rows MemoryWord.Fill = record { kernel = refl; takes = refl; asks = refl }
memory_rows MemoryWord.Decimal = record { kernel = refl; takes = refl; asks = refl }
memory_rows MemoryWord.Hex = record { kernel = refl; takes = refl; asks = refl }

pub appending_rows : (w : AppendingWord) → Asking (appending_number w) (Kernel.none_open ∷ [])
appending_rows AppendingWord.Comma = record { kernel = refl; takes = refl; asks = refl }
appending_rows AppendingWord.CComma = record { kernel = refl; takes = refl; asks = refl }

pub returns_rows : (w : ReturnsWord) → Asking (returns_number w) (Kernel.ip_set ∷ [])
returns_rows ReturnsWord.Exit = record { kernel = refl; takes = refl; asks = refl }
returns_rows ReturnsWord.ToR = record { kernel = refl; takes = refl; asks = refl }
returns_rows ReturnsWord.RFrom = record { kernel = refl; takes = refl; asks = refl }
returns_rows ReturnsWord.RFetch = record { kernel = refl; takes = refl; asks = refl }
returns_rows ReturnsWord.Index = record { kernel = refl; takes = refl; asks = refl }
returns_rows ReturnsWord.OuterIndex = record { kernel = refl; takes = refl; asks = refl }
returns_rows ReturnsWord.Leave = record { kernel = refl; takes = refl; asks = refl }

pub inline_rows : (w : InlineWord) → Asking (inline_number w) (Kernel.ip_set ∷ [])
inline_rows InlineWord.Literal = record { kernel = refl; takes = refl; asks = refl }
inline_rows InlineWord.Branch = record { kernel = refl; takes = refl; asks = refl }
inline_rows InlineWord.QuestionBranch = record { kernel = refl; takes = refl; asks = refl }
inline_rows InlineWord.Do = record { kernel = refl; takes = refl; asks = refl }
inline_rows InlineWord.Loop = record { kernel = refl; takes = refl; asks = refl }
inline_rows InlineWord.PlusLoop = record { kernel = refl; takes = refl; asks = refl }

pub block_rows : (w : BlockWord) → Asking (block_number w) []
block_rows BlockWord.Block = record { kernel = refl; takes = refl; asks = refl }
block_rows BlockWord.Update = record { kernel = refl; takes = refl; asks = refl }
block_rows BlockWord.Flush = record { kernel = refl; takes = refl; asks = refl }

pub control_rows : (w : ControlWord) → Asking (control_number w) (Kernel.has_open ∷ [])
control_rows ControlWord.If = record { kernel = refl; takes = refl; asks = refl }
control_rows ControlWord.Else = record { kernel = refl; takes = refl; asks = refl }
control_rows ControlWord.Then = record { kernel = refl; takes = refl; asks = refl }
control_rows ControlWord.Begin = record { kernel = refl; takes = refl; asks = refl }
control_rows ControlWord.While = record { kernel = refl; takes = refl; asks = refl }
control_rows ControlWord.Repeat = record { kernel = refl; takes = refl; asks = refl }
control_rows ControlWord.Until = record { kernel = refl; takes = refl; asks = refl }
control_rows ControlWord.Do = record { kernel = refl; takes = refl; asks = refl }
control_rows ControlWord.Loop = record { kernel = refl; takes = refl; asks = refl }
control_rows ControlWord.PlusLoop = record { kernel = refl; takes = refl; asks = refl }

pub allot_row : Asking 46 (Kernel.none_open ∷ [])
allot_row = record { kernel = refl; takes = refl; asks = refl }

pub load_row : Asking 58 (Kernel.ip_zero ∷ [])
load_row = record { kernel = refl; takes = refl; asks = refl }

pub body_row : Asking 61 []
body_row = record { kernel = refl; takes = refl; asks = refl }

pub abort_row : Asking 63 []
abort_row = record { kernel = refl; takes = refl; asks = refl }
