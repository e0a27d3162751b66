use Rattle.std.proofs.Common.{leb, length, refl, ◌∙◌, rules, tests}
use Rattle.std.proofs.lemmas.Iterator.Consumers.{YieldsList-from_first}
use Rattle.std.proofs.lemmas.Iterator.Search.{all_from_yields_List}
use Rattle.store.specs.Texts.{lines_of}
use Rattle.store.proofs.LineLaws.{fits_all}
use Rattle.store.proofs.text_card.lines_fit.Goals as goal

pub returns : goal.returns
returns c =
    all_from_yields_List (λ line. leb (length line) 64) c.all.new.self _ _ c.all.ensures.ran
    (YieldsList-from_first (λ x. x.now) (λ l. lines_of l.rest.now) {s = record { rest = c.args.text }} (lines_of c.args.text.now) refl) (λ x b q k. search (rules, tests))
    ∙ fits_all (lines_of c.args.text.now)
