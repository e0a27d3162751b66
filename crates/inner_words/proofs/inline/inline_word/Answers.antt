use Rattle.inner_words.proofs.inline.inline_word.Goals as goal

pub returns-in-Literal : goal.returns-in-Literal
returns-in-Literal c = rw c.in-Literal.is c.literal.ensures

pub returns-in-Branch : goal.returns-in-Branch
returns-in-Branch c = rw c.in-Branch.is c.jump.ensures

pub returns-in-QuestionBranch : goal.returns-in-QuestionBranch
returns-in-QuestionBranch c = rw c.in-QuestionBranch.is c.question_branch.ensures

pub returns-in-Do : goal.returns-in-Do
returns-in-Do c = rw c.in-Do.is c.begin_loop.ensures

pub returns-in-Loop : goal.returns-in-Loop
returns-in-Loop c = rw c.in-Loop.is c.next_turn.ensures

pub returns-in-PlusLoop : goal.returns-in-PlusLoop
returns-in-PlusLoop c = rw c.in-PlusLoop.is c.next_turn_by.ensures
