use Rattle.std.proofs.Common.{vec_items, ap, ◌∙◌}
use Rattle.std.proofs.lemmas.Result.{IfOk-weaker}
use Rattle.store.specs.Cards.{read_only_card}
use Rattle.store.proofs.TextLaws.{bytes_are_card, no_bytes_are_card}
use Rattle.store.proofs.text_card.card_bytes.Goals as goal

pub returns-in-None : goal.returns-in-None
returns-in-None c = no_bytes_are_card c.args.text.now (vec_items c.new.result) c.in-None.ensures c.new.ensures.items

pub returns-in-Some : goal.returns-in-Some
returns-in-Some c =
    IfOk-weaker c.filled.result _ _
    (λ v e. ap read_only_card e ∙ bytes_are_card c.args.text.now c.in-Some.blocks c.in-Some.ensures.0 c.in-Some.ensures.1)
    c.filled.ensures
