-- The numbers of the words that take a name or a text.
use Rattle.std.specs.Prelude.{ℕ}
use Rattle.defining_words.specs.Numbers.{defining_number}
use Rattle.naming_words.specs.declared.words.NamingWord.{NamingWord}

abbrev pub naming_number : NamingWord → ℕ
naming_number NamingWord.Tick = 60
naming_number NamingWord.Paren = 62
naming_number (NamingWord.Defining w) = defining_number w
naming_number NamingWord.Forget = 72
naming_number NamingWord.BracketTick = 76
naming_number NamingWord.BracketCompile = 77
naming_number NamingWord.DotQuote = 90
