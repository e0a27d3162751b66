-- The defining words, and FORGET.
use Rattle.std.specs.Prelude.{ℕ, ◌+◌, ◌-◌, Bool, true, false, ◌&&◌, List, ◌++◌, length, take, ◌==◌, nat_le, if◌then◌else◌}
use Rattle.fault.specs.declared.Reason.TheVariants.{StackUnderflow, BadMark, DictionaryFull, DataFull, BadToken, BelowFence}
use Rattle.image.specs.Cells.{cell}
use Rattle.entries.specs.Entries.{spelled, body_of}
use Rattle.dictionary.specs.Dict.{colon_begun, open_joined, defined, vocabulary_defined, appended, immediate_marked, with_current}
use Rattle.dictionary.specs.Trim.{forgotten}
use Rattle.definition.specs.Machine.{Machine, dp, here, blk, with_high, with_compiling, changed}
use Rattle.definition.specs.Asked.{Asked, ask, ◌>>◌, began, forgot, After, quietly, telling}
use Rattle.definition.specs.Kernel
use Rattle.definition.specs.Kernel.{DefiningWord}
use Rattle.definition.specs.Boot.{fence, kernel_token}
use Rattle.definition.specs.Stacks.{nth, popped, has_cells}
use Rattle.definition.specs.Space.{has_newest}

-- is there dictionary space for n bytes?
abbrev pub fits : ℕ → Machine → Bool
fits n m = nat_le (dp m + n) 32768

-- the bytes of an entry of this name, up to its first parameter cell
abbrev pub entry_size : List ℕ → ℕ
entry_size name = 9 + length name

-- the entry that begins next is the news
abbrev pub beginning : Machine → Machine → Asked After
beginning m m' = telling (began (dp m + 2)) m'

-- an entry with one more parameter cell, which joins at once
abbrev pub with_extra : List ℕ → ℕ → ℕ → Machine → Machine
with_extra name code x m = changed (defined (blk m) 0 (spelled name) code (cell x)) m

-- The name, or the entry that FORGET found, was taken before. `;` appends EXIT; VARIABLE is CREATE, then 2 ALLOT.
abbrev pub do_defining : DefiningWord → List ℕ → ℕ → Machine → Asked After
do_defining Kernel.colon name w m = do
  ask m DictionaryFull (fits (entry_size name) m)
  beginning m (with_compiling true (changed (colon_begun (blk m) (spelled name)) m))
do_defining Kernel.semicolon name w m = do
  ask m BadMark (length m.stacks.marks == 0)
  ask m DictionaryFull (fits 2 m)
  quietly (with_compiling false (changed (λ D. open_joined (appended (cell (kernel_token 91)) D)) m))
do_defining Kernel.create name w m = do
  ask m DictionaryFull (fits (entry_size name + 2) m)
  beginning m (with_extra name 202 0 m)
do_defining Kernel.variable name w m = do
  ask m DictionaryFull (fits (entry_size name + 2) m)
  ask m DataFull (nat_le (here m + 2) 65535)
  beginning m (with_high (m.high ++ cell 0) (with_extra name 202 0 m))
do_defining Kernel.constant name w m = do
  ask m StackUnderflow (has_cells 1 m)
  ask m DictionaryFull (fits (entry_size name + 2) m)
  beginning m (with_extra name 203 (nth 0 m) (popped 1 m))
do_defining Kernel.vocabulary name w m = do
  ask m DictionaryFull (fits (entry_size name + 10) m)
  beginning m (changed (vocabulary_defined (blk m) (spelled name)) m)
do_defining Kernel.definitions name w m = quietly (changed (with_current m.order.context) m)
do_defining Kernel.immediate name w m = quietly (if has_newest m then changed immediate_marked m else m)
do_defining Kernel.forget name w m = do
  let body = body_of m.low w
  ask m BadToken (nat_le 34048 body && nat_le body (here m))
  ask m BelowFence (nat_le fence w)
  telling (forgot w) (with_high (take (body - 32768) m.high) (changed (forgotten w) m))
