use Rattle.std.proofs.Common.{◌≡◌, ◌+◌, ◌≤◌, drop, refl, arith}
use Rattle.std.specs.List.{prefix_len}
use Rattle.definition.specs.Text.{separates}
use Rattle.texts.specs.Texts.{other, text_in}
use Rattle.texts.proofs.Runs.{run_in}
use Rattle.texts.proofs.Windows.{begins, next_is, next_inside, start_short, word_short}
use Rattle.texts.proofs.words.next_word.Goals as goal

started : (c : goal.After-word_length-length) → c.from-offset.result + c.separators.result ≡ c.args.registers.now.seat.source.position.offset + prefix_len separates (drop c.args.registers.now.seat.source.position.offset (text_in c.args.registers.now.seat c.args.image.now))
started c = begins c.args.registers.now c.args.image.now c.from-offset.result c.separators.result c.rest_of.result.now c.text_of-text.result.now c.from-offset.ensures c.separators.ensures c.rest_of.ensures c.text_of-text.ensures

counted : (c : goal.After-word_length-length) → c.word_length-length.result ≡ prefix_len other (drop (c.from-offset.result + c.separators.result) (text_in c.args.registers.now.seat c.args.image.now))
counted c = run_in other c.word_length-length.result (c.from-offset.result + c.separators.result) (c.from-offset.result + c.separators.result) c.rest_of-2.result.now c.text_of-text.result.now (text_in c.args.registers.now.seat c.args.image.now) c.word_length-length.ensures c.rest_of-2.ensures refl c.text_of-text.ensures

pub overflow_add-start : goal.overflow_add-start
overflow_add-start c =
    let h : c.from-offset.result + c.separators.result ≤ 1024 = start_short c.args.registers.now c.args.image.now c.told-image (c.from-offset.result + c.separators.result)
    (begins c.args.registers.now c.args.image.now c.from-offset.result c.separators.result c.rest_of.result.now c.text_of-text.result.now c.from-offset.ensures c.separators.ensures c.rest_of.ensures c.text_of-text.ensures) in
    omega arith

pub overflow_cast-result : goal.overflow_cast-result
overflow_cast-result c =
    let h : c.from-offset.result + c.separators.result ≤ 1024 = start_short c.args.registers.now c.args.image.now c.told-image (c.from-offset.result + c.separators.result) (started c) in
    omega arith

pub overflow_cast-result-2 : goal.overflow_cast-result-2
overflow_cast-result-2 c =
    let h : c.word_length-length.result ≤ 1024 = word_short c.args.registers.now c.args.image.now c.told-image (c.from-offset.result + c.separators.result) c.word_length-length.result (started c) (counted c) in
    omega arith

pub returns : goal.returns
returns c = record {
  place = next_is c.args.registers.now c.args.image.now c.told-image (c.from-offset.result + c.separators.result) c.word_length-length.result (started c) (counted c);
  inside = next_inside c.args.registers.now c.args.image.now c.told-image (c.from-offset.result + c.separators.result) c.word_length-length.result (started c) (counted c);
}
