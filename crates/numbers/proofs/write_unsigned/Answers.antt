use Rattle.std.proofs.Common.{◌≡◌, pos, sym, ap, ◌∙◌, subst, arith}
use Rattle.numbers.specs.Text.{Prints, number_in, unsigned_text}
use Rattle.numbers.proofs.Printing.{numeral, unsigned_back, written_all}
use Rattle.numbers.proofs.write_unsigned.Goals as goal

pub returns : goal.returns
returns c =
    let base = c.args.base in
    let value = c.args.value in
    let e : c.loop-place.out ≡ unsigned_text base value =
    written_all base value c.loop-place.out c.loop-place.left c.loop-place.place (omega arith) c.loop-place.invariant in
    record {
      prints = subst (λ text. Prints base text (pos value)) (sym e) (numeral base c.requires.0 c.requires.1.0 value);
      reads_back = ap (number_in base) e ∙ unsigned_back base c.requires.0 c.requires.1.0 value (omega arith);
      defined = e;
    }
