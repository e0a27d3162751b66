use Rattle.std.proofs.Common.{sym, ◌∙◌}
use Rattle.texts.proofs.Naming.{nothing_follows, bad_name, named}
use Rattle.texts.proofs.names.take_name.Goals as goal

pub returns-in_default : goal.returns-in_default
returns-in_default c = record {
  shared = c.in_default.ensures.shared;
  took = nothing_follows c.args.registers.now c.take_word.new.registers c.args.image.now c.refusal.result c.in_default.ensures.took c.refusal.ensures;
}

pub returns-then-not-is_name : goal.returns-then-not-is_name
returns-then-not-is_name c = record {
  shared = c.in-Some.ensures.shared;
  took = bad_name c.args.registers.now c.take_word.new.registers c.args.image.now c.in-Some.word.now c.in-Some.ensures.took c.refusal-then-not-is_name.result
      (sym c.is_name.ensures ∙ c.if-not-is_name.true) c.refusal-then-not-is_name.ensures;
}

pub returns : goal.returns
returns c = record {
  shared = c.in-Some.ensures.shared;
  took = named c.args.registers.now c.take_word.new.registers c.args.image.now c.in-Some.word.now c.in-Some.ensures.took c.copied.result
      (sym c.is_name.ensures ∙ c.if-not-is_name.false) c.copied.ensures;
}
