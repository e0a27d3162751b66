use Rattle.std.proofs.Common.{ltb, length, inl, refl, arith, rules, tests}
use Rattle.std.proofs.lemmas.Iterator.Consumers.{YieldsList-from_first}
use Rattle.std.proofs.lemmas.Iterator.Search.{position_from_yields_List}
use Rattle.store.specs.Texts.{lines_of}
use Rattle.store.proofs.LineLaws.{few_lines, first_long}
use Rattle.store.proofs.lines.first_long_line.Goals as goal

pub position-requires-clause-fits : goal.position-requires-clause-fits
position-requires-clause-fits c = inl (omega (arith, few_lines c.args.text.now))

pub returns : goal.returns
returns c =
    first_long c.args.text.now c.position.result
    (position_from_yields_List (λ line. ltb 64 (length line)) c.position.new.self _ _ c.position.ensures.ran
    (YieldsList-from_first (λ x. x.now) (λ l. lines_of l.rest.now) {s = record { rest = c.args.text }} (lines_of c.args.text.now) refl) (λ x b q k. search (rules, tests)))
