-- The words that append to the open definition.
use Rattle.std.specs.Prelude.{ℕ, ◌+◌, Bool, true, false, ◌&&◌, List, [], ◌∷◌, ◌++◌, length, drop, ◌==◌, nat_le}
use Rattle.fault.specs.declared.Reason.TheVariants.{StackUnderflow, BadMark, DictionaryFull}
use Rattle.image.specs.Cells.{cell}
use Rattle.entries.specs.Entries.{token_of}
use Rattle.dictionary.specs.Dict.{Dict, appended, patched}
use Rattle.definition.specs.declared.registers.Kind.{Kind}
use Rattle.definition.specs.declared.registers.Kind.TheVariants.{If, Begin, While, Do}
use Rattle.definition.specs.declared.registers.Mark.{Mark}
use Rattle.definition.specs.Machine.{Machine, dp, with_marks, with_compiling, changed}
use Rattle.definition.specs.Asked.{Asked, ask, ◌>>◌, After, quietly}
use Rattle.definition.specs.Kernel
use Rattle.definition.specs.Kernel.{CompilingWord}
use Rattle.definition.specs.Boot.{kernel_token}
use Rattle.definition.specs.Stacks.{pick, nth, popped, has_cells}
use Rattle.definition.specs.Define.{fits}
use Rattle.definition.specs.Flow.{in_dictionary}

-- the bytes join the open definition
abbrev pub appends : List ℕ → Machine → Asked After
appends bs m = do
  ask m DictionaryFull (fits (length bs) m)
  quietly (changed (appended bs) m)

-- a kernel word's token
abbrev pub token : ℕ → List ℕ
token n = cell (kernel_token n)

-- (LIT) and the cell
abbrev pub literal_of : ℕ → List ℕ
literal_of n = token 98 ++ cell n

-- marks

abbrev pub kind_number : Kind → ℕ
kind_number If = 0
kind_number Begin = 1
kind_number While = 2
kind_number Do = 3

-- are the top marks of these kinds?
abbrev pub are_marks : List Kind → List Mark → Bool
are_marks [] ms = true
are_marks (k ∷ ks) [] = false
are_marks (k ∷ ks) (x ∷ ms) = kind_number k == kind_number x.kind && are_marks ks ms

abbrev pub mark : Kind → ℕ → Mark
mark k a = record { kind = k; address = a }

-- the address of the k-th mark, 0 the top
abbrev pub mark_at : ℕ → Machine → ℕ
mark_at k m = (pick (mark If 0) k m.stacks.marks).address

-- the cells at these addresses learn DP
abbrev pub resolved : List ℕ → Dict → Dict
resolved [] D = D
resolved (a ∷ rest) D = resolved rest (patched a (length D.low) D)

-- do the cells at these addresses lie in the dictionary?
abbrev pub are_cells : List ℕ → Machine → Bool
are_cells [] m = true
are_cells (a ∷ rest) m = in_dictionary a 2 m && are_cells rest m

-- a word of a control structure: the marks it takes, the bytes it appends, the cells that learn the address behind them, and the marks it leaves
abbrev pub structured : List Kind → List ℕ → List ℕ → List Mark → Machine → Asked After
structured kinds bs known new m = do
  let marks = new ++ drop (length kinds) m.stacks.marks
  ask m BadMark (are_marks kinds m.stacks.marks)
  ask m BadMark (are_cells known m)
  ask m BadMark (nat_le (length marks) 32)
  ask m DictionaryFull (fits (length bs) m)
  quietly (with_marks marks (changed (λ D. resolved known (appended bs D)) m))

-- BRANCH is word 99, ?BRANCH 100, (DO) 101, (;CODE) 104, (.") 105.
-- What each appends, with the entry found for the name that follows, or the text. A branch cell is 0 until its address is known.
-- WHILE leaves its mark on top of BEGIN's. LOOP and +LOOP go behind (DO)'s cell, which learns the address behind the loop.
abbrev pub do_compiling : CompilingWord → ℕ → List ℕ → Machine → Asked After
do_compiling (Kernel.compiles b) e text m = quietly (with_compiling b m)
do_compiling Kernel.literal e text m = do
  ask m StackUnderflow (has_cells 1 m)
  appends (literal_of (nth 0 m)) (popped 1 m)
do_compiling Kernel.bracket_tick e text m = appends (literal_of (token_of m.low e)) m
do_compiling Kernel.bracket_compile e text m = appends (cell (token_of m.low e)) m
do_compiling Kernel.does e text m = appends (token 104) m
do_compiling Kernel.if_c e text m = structured [] (token 100 ++ cell 0) [] (mark If (dp m + 2) ∷ []) m
do_compiling Kernel.else_c e text m = structured (If ∷ []) (token 99 ++ cell 0) (mark_at 0 m ∷ []) (mark If (dp m + 2) ∷ []) m
do_compiling Kernel.then_c e text m = structured (If ∷ []) [] (mark_at 0 m ∷ []) [] m
do_compiling Kernel.begin_c e text m = structured [] [] [] (mark Begin (dp m) ∷ []) m
do_compiling Kernel.while_c e text m =
    structured (Begin ∷ []) (token 100 ++ cell 0) [] (mark While (dp m + 2) ∷ mark Begin (mark_at 0 m) ∷ []) m
do_compiling Kernel.repeat_c e text m = structured (While ∷ Begin ∷ []) (token 99 ++ cell (mark_at 1 m)) (mark_at 0 m ∷ []) [] m
do_compiling Kernel.until_c e text m = structured (Begin ∷ []) (token 100 ++ cell (mark_at 0 m)) [] [] m
do_compiling Kernel.do_c e text m = structured [] (token 101 ++ cell 0) [] (mark Do (dp m + 2) ∷ []) m
do_compiling (Kernel.loop_c n) e text m = structured (Do ∷ []) (token n ++ cell (mark_at 0 m + 2)) (mark_at 0 m ∷ []) [] m
do_compiling Kernel.quote_c e text m = appends (token 105 ++ (length text ∷ text)) m
