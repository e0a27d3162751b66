-- The kernel words in their order: name, flags, what each takes from the text, what it asks of the state, and what it does.
use Rattle.std.specs.Prelude.{ℕ, ◌+◌, ◌-◌, ◌*◌, Bool, true, false, List, [], ◌∷◌, length, codes, ◌==◌, bit_and, bit_or, bit_xor, nat_lt, if◌then◌else◌}
use Prim.Native.String.{String}
use Rattle.definition.specs.Machine.{Machine, here}
use Rattle.numbers.specs.Cells.{wrap, negated, minus, magnitude, less, halved, flag, is_negative}
use Rattle.numbers.specs.Division.{Divided}

-- what a word takes from the text first: a name, a name that is found, a name that FORGET finds, or the text up to a `)` or a `"`
pub data Takes : Type 0 where
  nothing a_name a_word a_forgettable to_paren to_quote : Takes

-- what a word asks of the state: an open definition (8), none (9), IP 0 (10), IP not 0 (11)
pub data Asks : Type 0 where
  has_open none_open ip_zero ip_set : Asks

-- data cells alone: as many as the function takes (the top last) give way to those it lists (the top first)
pub data CellsWord : Type 0 where
  leaves : (Machine → ℕ) → CellsWord
  one : (ℕ → List ℕ) → CellsWord
  two : (ℕ → ℕ → List ℕ) → CellsWord
  three : (ℕ → ℕ → ℕ → List ℕ) → CellsWord
  divide : (Divided → List ℕ) → CellsWord
  scale pick roll : CellsWord

-- data space; a number says how many bytes
pub data SpaceWord : Type 0 where
  fetches stores appends : ℕ → SpaceWord
  add_to move fill allot : SpaceWord
  set_base : ℕ → SpaceWord

pub data TypingWord : Type 0 where
  dot u_dot emit type cr spaces : TypingWord

pub data BlocksWord : Type 0 where
  block update flush load : BlocksWord

pub data DefiningWord : Type 0 where
  colon semicolon create variable constant vocabulary definitions immediate forget : DefiningWord

-- what appends to the open definition, or sets the compiling flag
pub data CompilingWord : Type 0 where
  compiles : Bool → CompilingWord
  literal bracket_tick bracket_compile does : CompilingWord
  if_c else_c then_c begin_c while_c repeat_c until_c do_c quote_c : CompilingWord
  loop_c : ℕ → CompilingWord

-- what only a definition holds: on the return stack, or reading what follows
pub data ReturnsWord : Type 0 where
  exit to_r from_r leave : ReturnsWord
  copy_at : ℕ → ReturnsWord

pub data InlineWord : Type 0 where
  lit branch branch_if_zero do_r loop_r plus_loop_r semicolon_code type_text compile : InlineWord

pub data Action : Type 0 where
  cells : CellsWord → Action
  space : SpaceWord → Action
  typing : TypingWord → Action
  blocks : BlocksWord → Action
  defining : DefiningWord → Action
  compiling : CompilingWord → Action
  returns : ReturnsWord → Action
  inlines : InlineWord → Action
  execute tick to_body comment abort : Action

pub record Row : Type 0 where
  pub name : List ℕ
  pub flags : ℕ
  pub takes : Takes
  pub asks : List Asks
  pub action : Action

-- how rows are written

abbrev asking : String → Takes → List Asks → Action → Row
asking n t q a = record { name = codes n; flags = 0; takes = t; asks = q; action = a }

-- an immediate word: 64 in its count byte
abbrev at_once : String → Takes → List Asks → Action → Row
at_once n t q a = record { name = codes n; flags = 64; takes = t; asks = q; action = a }

-- a word that takes nothing and asks nothing of the state; for an open definition, at once; in definitions only
abbrev plain : String → Action → Row
plain n a = asking n nothing [] a

abbrev structure : String → Action → Row
structure n a = at_once n nothing (has_open ∷ []) a

abbrev inside : String → Action → Row
inside n a = asking n nothing (ip_set ∷ []) a

-- words on data cells alone
abbrev leaving : String → (Machine → ℕ) → Row
leaving n f = plain n (cells (leaves f))

abbrev one_cell : String → (ℕ → List ℕ) → Row
one_cell n f = plain n (cells (one f))

abbrev two_cells : String → (ℕ → ℕ → List ℕ) → Row
two_cells n f = plain n (cells (two f))

abbrev three_cells : String → (ℕ → ℕ → ℕ → List ℕ) → Row
three_cells n f = plain n (cells (three f))

abbrev divided : String → (Divided → List ℕ) → Row
divided n f = plain n (cells (divide f))

-- 1 to 33
abbrev pub stack_rows : List Row
stack_rows =
    one_cell "DUP" (λ a. a ∷ a ∷ []) ∷
    one_cell "DROP" (λ a. []) ∷
    two_cells "SWAP" (λ a b. a ∷ b ∷ []) ∷
    two_cells "OVER" (λ a b. a ∷ b ∷ a ∷ []) ∷
    three_cells "ROT" (λ a b c. a ∷ c ∷ b ∷ []) ∷
    one_cell "?DUP" (λ a. if a == 0 then a ∷ [] else a ∷ a ∷ []) ∷
    leaving "DEPTH" (λ m. length m.stacks.cells) ∷
    plain "PICK" (cells pick) ∷
    plain "ROLL" (cells roll) ∷
    two_cells "+" (λ a b. wrap (a + b) ∷ []) ∷
    two_cells "-" (λ a b. minus a b ∷ []) ∷
    two_cells "*" (λ a b. wrap (a * b) ∷ []) ∷
    divided "/" (λ d. d.quotient ∷ []) ∷
    divided "MOD" (λ d. d.remainder ∷ []) ∷
    divided "/MOD" (λ d. d.quotient ∷ d.remainder ∷ []) ∷
    plain "*/" (cells scale) ∷
    one_cell "1+" (λ a. wrap (a + 1) ∷ []) ∷
    one_cell "1-" (λ a. minus a 1 ∷ []) ∷
    one_cell "2/" (λ a. halved a ∷ []) ∷
    one_cell "NEGATE" (λ a. negated a ∷ []) ∷
    one_cell "ABS" (λ a. magnitude a ∷ []) ∷
    two_cells "MIN" (λ a b. (if less b a then b else a) ∷ []) ∷
    two_cells "MAX" (λ a b. (if less a b then b else a) ∷ []) ∷
    two_cells "AND" (λ a b. bit_and a b ∷ []) ∷
    two_cells "OR" (λ a b. bit_or a b ∷ []) ∷
    two_cells "XOR" (λ a b. bit_xor a b ∷ []) ∷
    one_cell "NOT" (λ a. (65535 - a) ∷ []) ∷
    two_cells "=" (λ a b. flag (a == b) ∷ []) ∷
    two_cells "<" (λ a b. flag (less a b) ∷ []) ∷
    two_cells ">" (λ a b. flag (less b a) ∷ []) ∷
    one_cell "0=" (λ a. flag (a == 0) ∷ []) ∷
    one_cell "0<" (λ a. flag (is_negative a) ∷ []) ∷
    two_cells "U<" (λ a b. flag (nat_lt a b) ∷ []) ∷
    []

-- 34 to 58
abbrev pub space_rows : List Row
space_rows =
    plain "@" (space (fetches 2)) ∷
    plain "!" (space (stores 2)) ∷
    plain "+!" (space add_to) ∷
    plain "C@" (space (fetches 1)) ∷
    plain "C!" (space (stores 1)) ∷
    plain "CMOVE" (space move) ∷
    plain "FILL" (space fill) ∷
    leaving "BASE" (λ m. 32768) ∷
    plain "DECIMAL" (space (set_base 10)) ∷
    plain "HEX" (space (set_base 16)) ∷
    leaving "PAD" (λ m. 32784) ∷
    leaving "HERE" (λ m. here m) ∷
    asking "ALLOT" nothing (none_open ∷ []) (space allot) ∷
    asking "," nothing (none_open ∷ []) (space (appends 2)) ∷
    asking "C," nothing (none_open ∷ []) (space (appends 1)) ∷
    plain "." (typing dot) ∷
    plain "U." (typing u_dot) ∷
    plain "EMIT" (typing emit) ∷
    plain "TYPE" (typing type) ∷
    plain "CR" (typing cr) ∷
    plain "SPACES" (typing spaces) ∷
    plain "BLOCK" (blocks block) ∷
    plain "UPDATE" (blocks update) ∷
    plain "FLUSH" (blocks flush) ∷
    asking "LOAD" nothing (ip_zero ∷ []) (blocks load) ∷
    []

-- 59 to 90
abbrev pub defining_rows : List Row
defining_rows =
    plain "EXECUTE" execute ∷
    asking "'" a_word [] tick ∷
    plain ">BODY" to_body ∷
    at_once "(" to_paren [] comment ∷
    plain "ABORT" abort ∷
    asking ":" a_name (none_open ∷ ip_zero ∷ []) (defining colon) ∷
    structure ";" (defining semicolon) ∷
    asking "CREATE" a_name (none_open ∷ []) (defining create) ∷
    asking "VARIABLE" a_name (none_open ∷ []) (defining variable) ∷
    asking "CONSTANT" a_name (none_open ∷ []) (defining constant) ∷
    asking "VOCABULARY" a_name (none_open ∷ []) (defining vocabulary) ∷
    asking "DEFINITIONS" nothing (none_open ∷ []) (defining definitions) ∷
    asking "IMMEDIATE" nothing (none_open ∷ []) (defining immediate) ∷
    asking "FORGET" a_forgettable (none_open ∷ ip_zero ∷ []) (defining forget) ∷
    structure "[" (compiling (compiles false)) ∷
    asking "]" nothing (has_open ∷ []) (compiling (compiles true)) ∷
    structure "LITERAL" (compiling literal) ∷
    at_once "[']" a_word (has_open ∷ []) (compiling bracket_tick) ∷
    at_once "[COMPILE]" a_word (has_open ∷ []) (compiling bracket_compile) ∷
    asking "COMPILE" nothing (has_open ∷ ip_set ∷ []) (inlines compile) ∷
    structure "DOES>" (compiling does) ∷
    structure "IF" (compiling if_c) ∷
    structure "ELSE" (compiling else_c) ∷
    structure "THEN" (compiling then_c) ∷
    structure "BEGIN" (compiling begin_c) ∷
    structure "WHILE" (compiling while_c) ∷
    structure "REPEAT" (compiling repeat_c) ∷
    structure "UNTIL" (compiling until_c) ∷
    structure "DO" (compiling do_c) ∷
    structure "LOOP" (compiling (loop_c 102)) ∷
    structure "+LOOP" (compiling (loop_c 103)) ∷
    at_once ".\"" to_quote (has_open ∷ []) (compiling quote_c) ∷
    []

-- 91 to 105
abbrev pub inside_rows : List Row
inside_rows =
    inside "EXIT" (returns exit) ∷
    inside ">R" (returns to_r) ∷
    inside "R>" (returns from_r) ∷
    inside "R@" (returns (copy_at 0)) ∷
    inside "I" (returns (copy_at 0)) ∷
    inside "J" (returns (copy_at 3)) ∷
    inside "LEAVE" (returns leave) ∷
    inside "(LIT)" (inlines lit) ∷
    inside "BRANCH" (inlines branch) ∷
    inside "?BRANCH" (inlines branch_if_zero) ∷
    inside "(DO)" (inlines do_r) ∷
    inside "(LOOP)" (inlines loop_r) ∷
    inside "(+LOOP)" (inlines plus_loop_r) ∷
    asking "(;CODE)" nothing (none_open ∷ ip_set ∷ []) (inlines semicolon_code) ∷
    inside "(.\")" (inlines type_text) ∷
    []
