use Rattle.forgetting.proofs.Meeting as meeting
use Rattle.forgetting.proofs.may_forget.Goals as goal

pub returns-clause-forgets : goal.returns-clause-forgets
returns-clause-forgets c = meeting.forgets

pub returns-clause-absorbs : goal.returns-clause-absorbs
returns-clause-absorbs c = meeting.absorbs

pub returns-clause-composes : goal.returns-clause-composes
returns-clause-composes c = meeting.composes
