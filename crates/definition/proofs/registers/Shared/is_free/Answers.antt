use Rattle.definition.proofs.Agreeing.{agree_is_equal_views, view_dictionary}
use Rattle.definition.proofs.registers.Shared.is_free.Goals as goal

pub returns-then-contains-clause-agree : goal.returns-then-contains-clause-agree
returns-then-contains-clause-agree c = agree_is_equal_views

pub returns-then-contains-clause-dictionary : goal.returns-then-contains-clause-dictionary
returns-then-contains-clause-dictionary c = view_dictionary

pub returns-else-contains-clause-agree : goal.returns-else-contains-clause-agree
returns-else-contains-clause-agree c = agree_is_equal_views

pub returns-else-contains-clause-dictionary : goal.returns-else-contains-clause-dictionary
returns-else-contains-clause-dictionary c = view_dictionary
