use Rattle.std.proofs.Common.{[], ◌∷◌, ◌++◌, ap, ◌∙◌, sym, arith}
use Rattle.numbers.specs.Text.{signed_text, unsigned_text}
use Rattle.typing_words.specs.Numbers.{number_text}
use Rattle.typing_words.proofs.Parts.{numeral_typed}
use Rattle.typing_words.proofs.typing.write_number.Goals as goal

pub returns-then-signed-clause-written : goal.returns-then-signed-clause-written
returns-then-signed-clause-written c =
    numeral_typed (signed_text c.args.base c.args.x) c.write_signed.new.out c.args.text.now c.signed_width-width.result c.signed_width-width.ensures.exact c.write_signed.ensures.defined c.requires.blank c.signed_width-width.ensures.bounded
    ∙ ap (λ s. number_text s c.args.base c.args.x ++ 32 ∷ []) (sym c.if-signed.true)

pub returns-clause-written : goal.returns-clause-written
returns-clause-written c =
    let b = c.unsigned_width-width.ensures.bounded in
    numeral_typed (unsigned_text c.args.base c.args.x) c.write_unsigned.new.out c.args.text.now c.unsigned_width-width.result c.unsigned_width-width.ensures.exact c.write_unsigned.ensures.defined c.requires.blank (omega arith)
    ∙ ap (λ s. number_text s c.args.base c.args.x ++ 32 ∷ []) (sym c.if-signed.false)
