-- What a name is made, by its code and the cell behind its first parameter cell.
use Rattle.std.specs.Prelude.{ℕ}
use Rattle.defining_words.specs.declared.making.Made.{Made}

abbrev pub code_of : Made → ℕ
code_of Made.Created = 202
code_of (Made.Constant x) = 203

abbrev pub value_of : Made → ℕ
value_of Made.Created = 0
value_of (Made.Constant x) = x
