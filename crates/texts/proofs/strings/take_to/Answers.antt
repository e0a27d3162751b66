use Rattle.std.proofs.Common.{◌+◌, length, drop, sym, refl, ap, ◌∙◌, arith}
use Rattle.std.specs.List.{prefix_len}
use Rattle.std.proofs.lemmas.List.Sums.{prefix_len-le-length}
use Rattle.std.proofs.lemmas.List.{length-drop}
use Rattle.texts.specs.Texts.{differs}
use Rattle.texts.proofs.Reaching.{too_late, end_short, taken_to}
use Rattle.texts.proofs.Runs.{run_ends}
use Rattle.texts.proofs.Windows.{text_long, text_short}
use Rattle.texts.proofs.strings.take_to.Goals as goal

pub overflow_add-end : goal.overflow_add-end
overflow_add-end c =
    let n = c.length_before.ensures ∙ ap (prefix_len (differs c.args.byte)) c.rest_of.ensures in
    let a = prefix_len-le-length (differs c.args.byte) (drop c.from-from.result c.text_of-text.result.now) in
    let b = length-drop c.from-from.result c.text_of-text.result.now in
    let t = ap length c.text_of-text.ensures in
    let l = text_long c.args.registers.now c.args.image.now c.told-image in
    let m = text_short c.args.registers.now in
    let o = c.from-from.ensures in
    let q = c.args.registers.now.text in
    omega arith

pub returns-then-not-in_time : goal.returns-then-not-in_time
returns-then-not-in_time c = record {
  shared = refl;
  took = too_late c.args.registers.now c.args.image.now c.told-image c.args.byte c.args.most c.from-from.result (c.from-from.result + c.length_before.result) _ c.text_of-text.result.now c.from-from.ensures c.text_of-text.ensures refl (run_ends (differs c.args.byte) c.from-from.result c.length_before.result c.rest_of.result.now c.text_of-text.result.now c.length_before.ensures c.rest_of.ensures) c.refusal.result (sym c.in_time.ensures ∙ c.if-not-in_time.true) c.refusal.ensures;
}

pub read_to-requires : goal.read_to-requires
read_to-requires c = end_short c.args.registers.now c.args.image.now c.told-image c.args.byte c.args.most c.from-from.result (c.from-from.result + c.length_before.result) _ c.text_of-text.result.now c.from-from.ensures c.text_of-text.ensures refl (run_ends (differs c.args.byte) c.from-from.result c.length_before.result c.rest_of.result.now c.text_of-text.result.now c.length_before.ensures c.rest_of.ensures) (sym c.in_time.ensures ∙ c.if-not-in_time.false)

pub returns : goal.returns
returns c = record {
  shared = c.read_to.ensures.shared;
  took = taken_to c.args.registers.now c.args.image.now c.told-image c.args.byte c.args.most c.from-from.result (c.from-from.result + c.length_before.result) _ c.text_of-text.result.now c.from-from.ensures c.text_of-text.ensures refl (run_ends (differs c.args.byte) c.from-from.result c.length_before.result c.rest_of.result.now c.text_of-text.result.now c.length_before.ensures c.rest_of.ensures) (sym c.in_time.ensures ∙ c.if-not-in_time.false)
      c.text_start-start.result c.read_to.new.registers c.text_start-start.ensures c.read_to.ensures.shared c.read_to.ensures.seat;
}
