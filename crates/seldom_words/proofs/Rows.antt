-- The rows of the words that type.
use Rattle.std.proofs.Common.{refl}
use Rattle.steps.proofs.States.{Asking}
use Rattle.typing_words.specs.declared.words.TypingWord.{TypingWord}
use Rattle.typing_words.specs.Numbers.{typing_number}
use Rattle.seldom_words.specs.Asked.{typing_asks}

pub typing_rows : (w : TypingWord) → Asking (typing_number w) (typing_asks w)
typing_rows TypingWord.Dot = record { kernel = refl; takes = refl; asks = refl }
typing_rows TypingWord.UDot = record { kernel = refl; takes = refl; asks = refl }
typing_rows TypingWord.Emit = record { kernel = refl; takes = refl; asks = refl }
typing_rows TypingWord.Type = record { kernel = refl; takes = refl; asks = refl }
typing_rows TypingWord.Cr = record { kernel = refl; takes = refl; asks = refl }
typing_rows TypingWord.Spaces = record { kernel = refl; takes = refl; asks = refl }
typing_rows TypingWord.Text = record { kernel = refl; takes = refl; asks = refl }
