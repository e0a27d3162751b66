-- The kernel words in their order, numbered from 1: name, and 64 for an immediate word.
use Rattle.std.specs.Prelude.{ℕ, List, [], ◌∷◌, codes}
use Prim.Native.String.{String}

pub record Row : Type 0 where
  pub name : List ℕ
  pub flags : ℕ

abbrev plain : String → Row
plain n = record { name = codes n; flags = 0 }

abbrev immediate : String → Row
immediate n = record { name = codes n; flags = 64 }

unfoldable pub kernel : List Row
kernel =
    plain "DUP" ∷ plain "DROP" ∷ plain "SWAP" ∷ plain "OVER" ∷ plain "ROT" ∷ plain "?DUP" ∷ plain "DEPTH" ∷
    plain "PICK" ∷ plain "ROLL" ∷ plain "+" ∷ plain "-" ∷ plain "*" ∷ plain "/" ∷ plain "MOD" ∷ plain "/MOD" ∷
    plain "*/" ∷ plain "1+" ∷ plain "1-" ∷ plain "2/" ∷ plain "NEGATE" ∷ plain "ABS" ∷ plain "MIN" ∷ plain "MAX" ∷
    plain "AND" ∷ plain "OR" ∷ plain "XOR" ∷ plain "NOT" ∷ plain "=" ∷ plain "<" ∷ plain ">" ∷ plain "0=" ∷ plain "0<" ∷
    plain "U<" ∷ plain "@" ∷ plain "!" ∷ plain "+!" ∷ plain "C@" ∷ plain "C!" ∷ plain "CMOVE" ∷ plain "FILL" ∷
    plain "BASE" ∷ plain "DECIMAL" ∷ plain "HEX" ∷ plain "PAD" ∷ plain "HERE" ∷ plain "ALLOT" ∷ plain "," ∷ plain "C," ∷
    plain "." ∷ plain "U." ∷ plain "EMIT" ∷ plain "TYPE" ∷ plain "CR" ∷ plain "SPACES" ∷ plain "BLOCK" ∷
    plain "UPDATE" ∷ plain "FLUSH" ∷ plain "LOAD" ∷ plain "EXECUTE" ∷ plain "'" ∷ plain ">BODY" ∷ immediate "(" ∷
    plain "ABORT" ∷ plain ":" ∷ immediate ";" ∷ plain "CREATE" ∷ plain "VARIABLE" ∷ plain "CONSTANT" ∷
    plain "VOCABULARY" ∷ plain "DEFINITIONS" ∷ plain "IMMEDIATE" ∷ plain "FORGET" ∷ immediate "[" ∷ plain "]" ∷
    immediate "LITERAL" ∷ immediate "[']" ∷ immediate "[COMPILE]" ∷ plain "COMPILE" ∷ immediate "DOES>" ∷
    immediate "IF" ∷ immediate "ELSE" ∷ immediate "THEN" ∷ immediate "BEGIN" ∷ immediate "WHILE" ∷ immediate "REPEAT" ∷
    immediate "UNTIL" ∷ immediate "DO" ∷ immediate "LOOP" ∷ immediate "+LOOP" ∷ immediate ".\"" ∷ plain "EXIT" ∷
    plain ">R" ∷ plain "R>" ∷ plain "R@" ∷ plain "I" ∷ plain "J" ∷ plain "LEAVE" ∷ plain "(LIT)" ∷ plain "BRANCH" ∷
    plain "?BRANCH" ∷ plain "(DO)" ∷ plain "(LOOP)" ∷ plain "(+LOOP)" ∷ plain "(;CODE)" ∷ plain "(.\")" ∷ []
