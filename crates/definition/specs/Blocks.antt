-- The block buffer over a store, and LOAD.
use Rattle.std.specs.Prelude.{ℕ, Bool, true, false, not, ◌&&◌, ◌∷◌, length, Some, None, ◌==◌, nat_eq, nat_lt, if◌then◌else◌}
use Rattle.fault.specs.declared.Reason.TheVariants.{StackUnderflow, BadLoad, NoBlock, NotWritable}
use Rattle.store.specs.Meaning.{block, written}
use Rattle.definition.specs.Machine.{Machine, with_blocks, reading}
use Rattle.definition.specs.Asked.{Asked, given, ask, ◌>>=◌, ◌>>◌, After, quietly}
use Rattle.definition.specs.Text.{buffer_of}
use Rattle.definition.specs.Kernel
use Rattle.definition.specs.Kernel.{BlocksWord}
use Rattle.definition.specs.Stacks.{nth, popped, pushed, has_cells}
use Rattle.definition.specs.Space.{stored}

abbrev pub is_held : ℕ → Machine → Bool
is_held n m = elim m.buffer.held [ None ↦ false | Some k ↦ nat_eq k n ]

-- the buffer is written to block n, and the update flag cleared
abbrev pub written_to : ℕ → Machine → Asked Machine
written_to n m = do
  ask m NoBlock (nat_lt n m.store.count)
  ask m NotWritable m.store.writable
  given (with_blocks (Some n) false (written m.store n (buffer_of m)) m)

-- an updated buffer is written out
abbrev pub saved : Machine → Asked Machine
saved m = if m.buffer.updated then elim m.buffer.held [ None ↦ given m | Some n ↦ written_to n m ] else given m

-- block n is read into the buffer
abbrev pub read_from : ℕ → Machine → Asked Machine
read_from n m = do
  ask m NoBlock (nat_lt n m.store.count)
  given (with_blocks (Some n) false m.store (stored 33024 (block m.store n) m))

-- unless it is held, an updated buffer is written out, then block n is read; where the read is refused, the write stays done
abbrev pub brought : ℕ → Machine → Asked Machine
brought n m = if is_held n m then given m else (saved m >>= read_from n)

-- With no block held, UPDATE and FLUSH do nothing; FLUSH leaves the buffer's bytes. LOAD reads nothing yet.
abbrev pub do_blocks : BlocksWord → Machine → Asked After
do_blocks Kernel.block m = do
  ask m StackUnderflow (has_cells 1 m)
  m' ← brought (nth 0 m) m
  quietly (pushed 33024 (popped 1 m'))
do_blocks Kernel.update m =
    elim m.buffer.held [
      | None ↦ quietly m
      | Some n ↦ (ask m NotWritable m.store.writable >> quietly (with_blocks (Some n) true m.store m))
    ]
do_blocks Kernel.flush m = do
  m' ← saved m
  quietly (with_blocks None false m'.store m')
do_blocks Kernel.load m = do
  ask m StackUnderflow (has_cells 1 m)
  ask m BadLoad (not ((nth 0 m) == 0) && nat_lt (length m.text.loads) 8)
  let s = m.text.source
  quietly (reading (record { blk = nth 0 m; offset = 0 }) s.word (s.position ∷ m.text.loads) (popped 1 m))
