-- The word of an entry.
use Rattle.std.specs.Prelude.{ℕ, cond, List}
use Rattle.entries.specs.Entries.{token_of, is_immediate}
use Rattle.texts.specs.declared.word.Word.{Word}
use Rattle.texts.specs.declared.word.Word.TheVariants.{Immediate, Plain}

abbrev pub kind_at : List ℕ → ℕ → Word
kind_at low e = cond (is_immediate low e) (Immediate (token_of low e)) (Plain (token_of low e))
