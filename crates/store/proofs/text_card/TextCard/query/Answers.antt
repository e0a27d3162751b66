use Rattle.std.proofs.Common.{rules}
use Rattle.store.proofs.JoinLaws.{lines_are_the_text}
use Rattle.store.proofs.TextLaws.{lines_in_blocks}
use Rattle.store.proofs.text_card.TextCard.query.Goals as goal

pub returns-in-Some : goal.returns-in-Some
returns-in-Some c = record { answer = search rules; lines = lines_are_the_text c.args.text.now; blocks = lines_in_blocks c.args.text.now }

pub returns-in-None : goal.returns-in-None
returns-in-None c = record { answer = search rules; lines = lines_are_the_text c.args.text.now; blocks = lines_in_blocks c.args.text.now }
