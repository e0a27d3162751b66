use Rattle.control_words.proofs.Shapes.{for_if, for_else, for_then, for_begin, for_while, for_repeat, for_until, for_do, for_loop, for_plus_loop}
use Rattle.control_words.proofs.structures.structure_of.Goals as goal

pub returns-in-If : goal.returns-in-If
returns-in-If c = rw (c.in-If.is, c.forward.ensures, c.mark_behind.ensures) (for_if c.args.dp c.args.top c.args.under)

pub returns-in-Else : goal.returns-in-Else
returns-in-Else c = rw (c.in-Else.is, c.forward-in-Else.ensures, c.mark_behind-in-Else.ensures) (for_else c.args.dp c.args.top c.args.under)

pub returns-in-Then : goal.returns-in-Then
returns-in-Then c = rw (c.in-Then.is) (for_then c.args.dp c.args.top c.args.under)

pub returns-in-Begin : goal.returns-in-Begin
returns-in-Begin c = rw (c.in-Begin.is) (for_begin c.args.dp c.args.top c.args.under)

pub returns-in-While : goal.returns-in-While
returns-in-While c = rw (c.in-While.is, c.forward-in-While.ensures, c.mark_behind-in-While.ensures) (for_while c.args.dp c.args.top c.args.under)

pub returns-in-Repeat : goal.returns-in-Repeat
returns-in-Repeat c = rw (c.in-Repeat.is, c.backward.ensures) (for_repeat c.args.dp c.args.top c.args.under)

pub returns-in-Until : goal.returns-in-Until
returns-in-Until c = rw (c.in-Until.is, c.backward-in-Until.ensures) (for_until c.args.dp c.args.top c.args.under)

pub returns-in-Do : goal.returns-in-Do
returns-in-Do c = rw (c.in-Do.is, c.forward-in-Do.ensures, c.mark_behind-in-Do.ensures) (for_do c.args.dp c.args.top c.args.under)

pub returns-in-Loop : goal.returns-in-Loop
returns-in-Loop c = rw (c.in-Loop.is, c.backward-in-Loop.ensures, c.behind.ensures) (for_loop c.args.dp c.args.top c.args.under c.requires)

pub returns-in-PlusLoop : goal.returns-in-PlusLoop
returns-in-PlusLoop c = rw (c.in-PlusLoop.is, c.backward-in-PlusLoop.ensures, c.behind-in-PlusLoop.ensures) (for_plus_loop c.args.dp c.args.top c.args.under c.requires)
