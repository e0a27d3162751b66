use Rattle.std.proofs.Common.{Ok, subst}
use Rattle.steps.specs.Asking.{StateAnswers}
use Rattle.compiling_words.specs.Numbers.{asks_of}
use Rattle.compiling_words.proofs.Rows.{is_open}
use Rattle.compiling_words.proofs.words.act.Goals as goal

pub end_definition-requires : goal.end_definition-requires
end_definition-requires c = is_open c.args.registers.now (subst (λ w. StateAnswers (asks_of w) c.args.registers.now (Ok tt)) c.in-Semicolon.is c.requires)
