-- The number of each word in the kernel table, and what it asks of the state.
use Rattle.std.specs.Prelude.{ℕ, Bool, true, false, List, [], ◌∷◌}
use Rattle.definition.specs.Kernel
use Rattle.definition.specs.Kernel.{Asks}
use Rattle.compiling_words.specs.declared.words.CompilingWord.{CompilingWord}

abbrev pub compiling_number : CompilingWord → ℕ
compiling_number CompilingWord.Semicolon = 65
compiling_number CompilingWord.Definitions = 70
compiling_number CompilingWord.Immediate = 71
compiling_number CompilingWord.LeftBracket = 73
compiling_number CompilingWord.RightBracket = 74
compiling_number CompilingWord.Literal = 75
compiling_number CompilingWord.Compile = 78
compiling_number CompilingWord.Does = 79
compiling_number CompilingWord.SemicolonCode = 104

abbrev pub asks_of : CompilingWord → List Asks
asks_of CompilingWord.Semicolon = Kernel.has_open ∷ []
asks_of CompilingWord.Definitions = Kernel.none_open ∷ []
asks_of CompilingWord.Immediate = Kernel.none_open ∷ []
asks_of CompilingWord.LeftBracket = Kernel.has_open ∷ []
asks_of CompilingWord.RightBracket = Kernel.has_open ∷ []
asks_of CompilingWord.Literal = Kernel.has_open ∷ []
asks_of CompilingWord.Compile = Kernel.has_open ∷ Kernel.ip_set ∷ []
asks_of CompilingWord.Does = Kernel.has_open ∷ []
asks_of CompilingWord.SemicolonCode = Kernel.none_open ∷ Kernel.ip_set ∷ []

-- the word that sets the compiling flag so
abbrev pub switch_number : Bool → ℕ
switch_number true = 74
switch_number false = 73
