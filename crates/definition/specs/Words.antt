-- What each word does: it takes from the text, asks of the state, and then acts. Then tokens: code 1 to 105 is a kernel word, 201 to 205 the other kinds.
use Rattle.std.specs.Prelude.{ℕ, zero, suc, ◌+◌, ◌-◌, Bool, true, not, ◌&&◌, ◌||◌, List, [], ◌∷◌, length, ◌==◌, nat_le, nat_lt, slice_index_or, if◌then◌else◌}
use Rattle.fault.specs.declared.Reason.TheVariants.{BrokenLink, NoDefinition, DefinitionOpen, WordRunning, NoWordRunning, StackUnderflow, StackOverflow, ReturnOverflow, BadToken, Aborted}
use Rattle.image.specs.Cells.{cell_at}
use Rattle.entries.specs.Entries.{token_of}
use Rattle.dictionary.specs.Dict.{with_context}
use Rattle.entries.specs.Search.{search_in}
use Rattle.dictionary.specs.Search.{searched}
use Rattle.dictionary.specs.Trim.{can_forget, is_chain, on_chain}
use Rattle.dictionary.specs.Seeks.{stays}
use Rattle.definition.specs.Machine.{Machine, ip, dict_of, changed}
use Rattle.definition.specs.Asked.{Asked, refused, given, ask, ◌>>=◌, ◌>>◌, After, quietly}
use Rattle.definition.specs.Text.{Taken, take_name, take_to, ask_found, ask_there}
use Rattle.definition.specs.Kernel
use Rattle.definition.specs.Kernel.{Row, Takes, Asks, Action}
use Rattle.definition.specs.Boot.{kernel, fence}
use Rattle.definition.specs.Stacks.{nth, popped, pushed, has_cells, has_room, has_return_room, pushed_returns, go_to, replaced, do_cells}
use Rattle.definition.specs.Space.{do_space, do_typing}
use Rattle.definition.specs.Blocks.{do_blocks}
use Rattle.definition.specs.Define.{do_defining}
use Rattle.definition.specs.Compile.{do_compiling}
use Rattle.definition.specs.Flow.{in_dictionary, do_returns, do_inline}

-- what was taken: the machine behind it, the bytes, and the entry found (or 0)
pub record Argument : Type 0 where
  pub machine : Machine
  pub bytes : List ℕ
  pub entry : ℕ

abbrev pub argument : Taken → ℕ → Argument
argument t e = record { machine = t.machine; bytes = t.bytes; entry = e }

-- under FENCE nothing more is walked
abbrev may_forget : ℕ → Machine → Bool
may_forget w m = if nat_lt w fence then true else can_forget w (dict_of m)

-- the text questions
unfoldable pub taken : Takes → Machine → Asked Argument
taken Kernel.nothing m = given (record { machine = m; bytes = []; entry = 0 })
taken Kernel.a_name m = do
  t ← take_name m
  given (argument t 0)
taken Kernel.a_word m = do
  t ← take_name m
  found ← ask_found t.machine (searched (dict_of m) t.bytes)
  e ← ask_there t.machine found
  given (argument t e)
taken Kernel.a_forgettable m = do
  t ← take_name m
  found ← ask_found t.machine (search_in m.low m.order.current t.bytes)
  w ← ask_there t.machine found
  ask t.machine BrokenLink (may_forget w m)
  given (argument t w)
taken Kernel.to_paren m = do
  t ← take_to 41 1024 m
  given (argument t 0)
taken Kernel.to_quote m = do
  t ← take_to 34 255 m
  given (argument t 0)

-- the state questions
abbrev pub state_asked : Asks → Machine → Asked (Unit {0})
state_asked Kernel.has_open m = ask m NoDefinition (not (m.names.opened == 0))
state_asked Kernel.none_open m = ask m DefinitionOpen (m.names.opened == 0)
state_asked Kernel.ip_zero m = ask m WordRunning (ip m == 0)
state_asked Kernel.ip_set m = ask m NoWordRunning (not (ip m == 0))

abbrev pub all_asked : List Asks → Machine → Asked (Unit {0})
all_asked [] m = given tt
all_asked (q ∷ qs) m = state_asked q m >> all_asked qs m

-- `again` executes a token: EXECUTE is all one step with what it executes
unfoldable pub perform : (ℕ → Machine → Asked After) → Action → Argument → Machine → Asked After
perform again (Kernel.cells w) a m = do_cells w m
perform again (Kernel.space w) a m = do_space w m
perform again (Kernel.typing w) a m = do_typing w m
perform again (Kernel.blocks w) a m = do_blocks w m
perform again (Kernel.defining w) a m = do_defining w a.bytes a.entry m
perform again (Kernel.compiling w) a m = do_compiling w a.entry a.bytes m
perform again (Kernel.returns w) a m = do_returns w m
perform again (Kernel.inlines w) a m = do_inline w m
perform again Kernel.execute a m = ask m StackUnderflow (has_cells 1 m) >> again (nth 0 m) (popped 1 m)
perform again Kernel.tick a m = replaced 0 (token_of m.low a.entry ∷ []) m
perform again Kernel.to_body a m = do
  ask m StackUnderflow (has_cells 1 m)
  let t = nth 0 m
  let code = cell_at m.low t
  ask m BadToken (in_dictionary t 4 m && (code == 202 || code == 205))
  replaced 1 (cell_at m.low (t + 2) ∷ []) m
perform again Kernel.comment a m = quietly m
perform again Kernel.abort a m = refused Aborted m

-- a kernel word
unfoldable pub do_kernel : (ℕ → Machine → Asked After) → Row → Machine → Asked After
do_kernel again r m = do
  a ← taken r.takes m
  all_asked r.asks a.machine
  perform again r.action a a.machine

-- the row of the kernel word of this code
abbrev pub row_of : ℕ → Row
row_of code =
    slice_index_or kernel (code - 1) (record { name = []; flags = 0; takes = Kernel.nothing; asks = []; action = Kernel.comment })

-- The other codes, each with its token t: the cells that it reads lie in the dictionary.

-- 201 pushes IP and enters its tokens
abbrev pub colon_word : ℕ → Machine → Asked After
colon_word t m = do
  ask m ReturnOverflow (has_return_room 1 m)
  quietly (go_to (t + 4) (pushed_returns (ip m ∷ []) m))

-- 202 pushes its body
abbrev pub created_word : ℕ → Machine → Asked After
created_word t m = do
  ask m BadToken (in_dictionary t 4 m)
  replaced 0 (cell_at m.low (t + 2) ∷ []) m

-- 203 pushes its value
abbrev pub constant_word : ℕ → Machine → Asked After
constant_word t m = do
  ask m BadToken (in_dictionary t 6 m)
  replaced 0 (cell_at m.low (t + 4) ∷ []) m

-- 204 becomes CONTEXT, if it is on the vocabulary chain, and stays where the open entry is given up
abbrev pub vocabulary_word : ℕ → Machine → Asked After
vocabulary_word t m = do
  ask m BadToken (in_dictionary t 14 m)
  ask m BrokenLink (is_chain (dict_of m))
  ask m BadToken (on_chain (t + 4) (dict_of m) && stays (t + 4) (dict_of m))
  quietly (changed (with_context (t + 4)) m)

-- 205 pushes its body, then enters its DOES> code
abbrev pub does_word : ℕ → Machine → Asked After
does_word t m = do
  ask m BadToken (in_dictionary t 6 m)
  ask m StackOverflow (has_room 1 m)
  ask m ReturnOverflow (has_return_room 1 m)
  quietly (go_to (cell_at m.low (t + 4)) (pushed_returns (ip m ∷ []) (pushed (cell_at m.low (t + 2)) m)))

-- any other code is not known
abbrev pub other_word : ℕ → ℕ → Machine → Asked After
other_word code t m =
    if code == 201 then colon_word t m
    else (if code == 202 then created_word t m
    else (if code == 203 then constant_word t m
    else (if code == 204 then vocabulary_word t m
    else (if code == 205 then does_word t m
    else refused BadToken m))))

-- execute the token t; each EXECUTE takes a cell, so the nesting is at most the depth
unfoldable pub execute_within : ℕ → ℕ → Machine → Asked After
execute_within zero t m = refused StackUnderflow m
execute_within (suc depth) t m = do
  ask m BadToken (in_dictionary t 2 m)
  let code = cell_at m.low t
  if nat_le 1 code && nat_le code 105 then do_kernel (execute_within depth) (row_of code) m else other_word code t m

unfoldable pub execute : ℕ → Machine → Asked After
execute t m = execute_within (suc (length m.stacks.cells)) t m
