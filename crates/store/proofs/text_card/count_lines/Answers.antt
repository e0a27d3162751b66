use Rattle.std.proofs.Common.{inl, arith}
use Rattle.store.proofs.LineLaws.{few_lines}
use Rattle.store.proofs.text_card.count_lines.Goals as goal

pub count-requires-clause-fits : goal.count-requires-clause-fits
count-requires-clause-fits c = inl (omega (arith, few_lines c.args.text.now))
