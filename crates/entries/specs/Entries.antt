-- An entry holds, in order: view cell, link cell, count byte, name, code cell, parameter cells.
-- It is named by the address of its link cell, and begins two bytes lower.
use Rattle.std.specs.Prelude.{ℕ, ◌+◌, ◌-◌, ◌*◌, ◌/◌, ◌%◌, Bool, true, false, cond, ◌&&◌, List, [], ◌∷◌, ◌++◌, length, ◌==◌, nat_le}
use Rattle.image.specs.Cells.{at, cell_at, cell}

-- a to z become A to Z
abbrev pub capital : ℕ → ℕ
capital b = cond (nat_le 97 b && nat_le b 122) (b - 32) b

-- a name as its entry holds it: in capitals, 128 added to the last byte
abbrev pub spelled : List ℕ → List ℕ
spelled [] = []
spelled (b ∷ []) = (capital b + 128) ∷ []
spelled (b ∷ c ∷ bs) = capital b ∷ spelled (c ∷ bs)

-- a vocabulary is named by the address of its first head; a name's thread is its first byte modulo 4
abbrev pub head_at : ℕ → ℕ → ℕ
head_at voc first = voc + 2 * (first % 4)

-- FORTH
abbrev pub forth : ℕ
forth = 270

-- the count byte: 128, 64 more if immediate, and the name's length
abbrev pub count_byte : ℕ → List ℕ → ℕ
count_byte flags name = 128 + flags + length name

-- an entry's bytes: the name as it is held, HERE as its first parameter cell, and the other parameter cells
unfoldable pub entry_bytes : ℕ → ℕ → ℕ → List ℕ → ℕ → ℕ → List ℕ → List ℕ
entry_bytes view link count name code here rest =
    cell view ++ (cell link ++ (count ∷ (name ++ (cell code ++ (cell here ++ rest)))))

-- reading an entry

abbrev pub name_length : List ℕ → ℕ → ℕ
name_length low e = at low (e + 2) % 32

abbrev pub is_immediate : List ℕ → ℕ → Bool
is_immediate low e = at low (e + 2) / 64 % 2 == 1

-- a token is the address of a code cell
abbrev pub token_of : List ℕ → ℕ → ℕ
token_of low e = e + 3 + name_length low e

-- where the first parameter cell lies
unfoldable pub first_at : List ℕ → ℕ → ℕ
first_at low e = e + 5 + at low (e + 2) % 32

-- HERE when the entry began
abbrev pub body_of : List ℕ → ℕ → ℕ
body_of low e = cell_at low (first_at low e)

-- do these bytes lie from a on?
abbrev pub bytes_are : List ℕ → ℕ → List ℕ → Bool
bytes_are low a [] = true
bytes_are low a (b ∷ bs) = elim (at low a == b) [ true ↦ bytes_are low (a + 1) bs | false ↦ false ]

-- does the entry hold this name?
abbrev pub is_named : List ℕ → ℕ → List ℕ → Bool
is_named low e name = elim (name_length low e == length name) [ true ↦ bytes_are low (e + 3) name | false ↦ false ]
