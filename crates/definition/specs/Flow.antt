-- The words that only a definition holds: they read the cells behind their token, and the return stack.
use Rattle.std.specs.Prelude.{ℕ, ◌+◌, Bool, ◌&&◌, ◌||◌, [], ◌∷◌, take, drop, ◌==◌, nat_eq, nat_le, nat_lt, if◌then◌else◌}
use Rattle.fault.specs.declared.Reason.TheVariants.{StackUnderflow, StackOverflow, ReturnUnderflow, ReturnOverflow, DictionaryFull, BadToken, NotCreated}
use Rattle.image.specs.Cells.{at, cell, cell_at}
use Rattle.entries.specs.Entries.{token_of, first_at}
use Rattle.dictionary.specs.Dict.{appended, does_set}
use Rattle.definition.specs.Machine.{Machine, dp, ip, with_ip, changed}
use Rattle.definition.specs.Asked.{Asked, ask, ◌>>◌, After, quietly, typing}
use Rattle.numbers.specs.Cells.{wrap, minus, is_negative, magnitude}
use Rattle.definition.specs.Kernel
use Rattle.definition.specs.Kernel.{ReturnsWord, InlineWord}
use Rattle.definition.specs.Stacks.{nth, popped, pushed, has_cells, has_room, nth_return, popped_returns, pushed_returns, has_returns, has_return_room, go_to}
use Rattle.definition.specs.Space.{has_newest}
use Rattle.definition.specs.Define.{fits}

-- are the n bytes at a in the dictionary?
abbrev pub in_dictionary : ℕ → ℕ → Machine → Bool
in_dictionary a n m = nat_le 256 a && nat_le (a + n) (dp m)

-- the cell at IP, and IP behind it
abbrev pub has_inline : Machine → Bool
has_inline m = in_dictionary (ip m) 2 m

abbrev pub inline : Machine → ℕ
inline m = cell_at m.low (ip m)

abbrev pub past : Machine → Machine
past m = with_ip (ip m + 2) m

-- EXIT pops IP
abbrev pub exited : Machine → Machine
exited m = go_to (nth_return 0 m) (popped_returns 1 m)

-- A loop keeps, from the top: index, limit, the address behind it. With s = (index - limit) modulo 65,536, adding n ends it if s + n is above 65,535 or below 0.
abbrev ends : ℕ → ℕ → Bool
ends s n = if is_negative n then nat_lt s (magnitude n) else nat_lt 65535 (s + n)

abbrev looped : ℕ → Machine → Asked After
looped n m = do
  ask m ReturnUnderflow (has_returns 3 m)
  ask m BadToken (has_inline m)
  let index = nth_return 0 m
  quietly
      (if ends (minus index (nth_return 1 m)) n then past (popped_returns 3 m) else go_to (inline m) (pushed_returns (wrap (index + n) ∷ []) (popped_returns 1 m)))

-- the words on the return stack
abbrev pub do_returns : ReturnsWord → Machine → Asked After
do_returns Kernel.exit m = do
  ask m ReturnUnderflow (has_returns 1 m)
  quietly (exited m)
do_returns Kernel.to_r m = do
  ask m StackUnderflow (has_cells 1 m)
  ask m ReturnOverflow (has_return_room 1 m)
  quietly (pushed_returns (nth 0 m ∷ []) (popped 1 m))
do_returns Kernel.from_r m = do
  ask m StackOverflow (has_room 1 m)
  ask m ReturnUnderflow (has_returns 1 m)
  quietly (pushed (nth_return 0 m) (popped_returns 1 m))
do_returns (Kernel.copy_at k) m = do
  ask m StackOverflow (has_room 1 m)
  ask m ReturnUnderflow (has_returns (k + 1) m)
  quietly (pushed (nth_return k m) m)
do_returns Kernel.leave m = do
  ask m ReturnUnderflow (has_returns 3 m)
  quietly (go_to (nth_return 2 m) (popped_returns 3 m))

-- The words that read what follows them in a definition. (;CODE) makes it the DOES> code of the newest entry, then does EXIT.
abbrev pub do_inline : InlineWord → Machine → Asked After
do_inline Kernel.lit m = do
  ask m StackOverflow (has_room 1 m)
  ask m BadToken (has_inline m)
  quietly (pushed (inline m) (past m))
do_inline Kernel.branch m = do
  ask m BadToken (has_inline m)
  quietly (go_to (inline m) m)
do_inline Kernel.branch_if_zero m = do
  ask m StackUnderflow (has_cells 1 m)
  ask m BadToken (has_inline m)
  quietly (if nat_eq (nth 0 m) 0 then go_to (inline m) (popped 1 m) else past (popped 1 m))
do_inline Kernel.do_r m = do
  ask m StackUnderflow (has_cells 2 m)
  ask m ReturnOverflow (has_return_room 3 m)
  ask m BadToken (has_inline m)
  quietly (past (pushed_returns (nth 0 m ∷ nth 1 m ∷ inline m ∷ []) (popped 2 m)))
do_inline Kernel.loop_r m = looped 1 m
do_inline Kernel.plus_loop_r m = ask m StackUnderflow (has_cells 1 m) >> looped (nth 0 m) (popped 1 m)
do_inline Kernel.semicolon_code m = do
  ask m ReturnUnderflow (has_returns 1 m)
  let code = cell_at m.low (token_of m.low m.names.newest)
  ask m NotCreated (has_newest m && (nat_le (first_at m.low m.names.newest + 4) (dp m) && (code == 202 || code == 205)))
  quietly (exited (changed (does_set (ip m)) m))
do_inline Kernel.type_text m = do
  ask m BadToken (in_dictionary (ip m) 1 m)
  let n = at m.low (ip m)
  ask m BadToken (in_dictionary (ip m) (n + 1) m)
  typing (take n (drop (ip m + 1) m.low)) (with_ip (ip m + n + 1) m)
do_inline Kernel.compile m = do
  ask m DictionaryFull (fits 2 m)
  ask m BadToken (has_inline m)
  quietly (changed (appended (cell (inline m))) (past m))
