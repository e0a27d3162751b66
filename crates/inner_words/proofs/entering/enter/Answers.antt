use Rattle.inner_words.proofs.Entered.{enter_view}
use Rattle.inner_words.proofs.entering.enter.Goals as goal

pub returns : goal.returns
returns c = λ i x k s. enter_view c.args.registers.now c.push.new.registers c.go_to.new.registers i x c.args.returns.now c.push.new.cells k s c.args.address
    (record { shared = c.push.ensures.shared; seat = c.push.ensures.seat; stack = c.push.ensures.stack }) (record { shared = c.go_to.ensures.shared; seat = c.go_to.ensures.seat })
