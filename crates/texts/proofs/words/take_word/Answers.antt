use Rattle.std.proofs.Common.{◌+◌, ◌≤◌, min, refl, ap, ◌∙◌, arith}
use Rattle.texts.specs.Texts.{read_to}
use Rattle.texts.proofs.Windows.{none_left, took}
use Rattle.texts.proofs.words.take_word.Goals as goal

pub returns-then-word-eq0 : goal.returns-then-word-eq0
returns-then-word-eq0 c = record { shared = refl; took = none_left c.args.registers.now c.args.image.now c.told-image c.next_word-word.result c.next_word-word.ensures.place c.if-word-eq0.true }

pub returns : goal.returns
returns c =
    let h : 1 ≤ c.next_word-word.result.length = omega arith in
    record {
      shared = c.read_to.ensures.shared;
      took = took c.args.registers.now c.args.image.now c.told-image c.next_word-word.result c.next_word-word.ensures.place c.read_to.new.registers c.last_word.result.now h (c.next_word-word.ensures.inside h) c.read_to.ensures.shared
          (c.read_to.ensures.seat ∙ ap (λ n. read_to n c.next_word-word.result c.args.registers.now.seat) (c.behind_one-offset.ensures ∙ ap (λ n. min n (c.next_word-word.result.start + c.next_word-word.result.length + 1)) c.text_length.ensures.value))
          c.last_word.ensures;
    }
