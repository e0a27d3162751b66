use Rattle.typing_words.proofs.typing.typing_word.Goals as goal

pub returns-in-Dot-clause-did : goal.returns-in-Dot-clause-did
returns-in-Dot-clause-did c = rw c.in-Dot.is c.number.ensures.did

pub returns-in-UDot-clause-did : goal.returns-in-UDot-clause-did
returns-in-UDot-clause-did c = rw c.in-UDot.is c.number-in-UDot.ensures.did

pub returns-in-Emit-clause-did : goal.returns-in-Emit-clause-did
returns-in-Emit-clause-did c = rw c.in-Emit.is c.emit.ensures.did

pub returns-in-Type-clause-did : goal.returns-in-Type-clause-did
returns-in-Type-clause-did c = rw c.in-Type.is c.type_space.ensures.did

pub returns-in-Cr-clause-did : goal.returns-in-Cr-clause-did
returns-in-Cr-clause-did c = rw c.in-Cr.is c.new_line.ensures.did

pub returns-in-Spaces-clause-did : goal.returns-in-Spaces-clause-did
returns-in-Spaces-clause-did c = rw c.in-Spaces.is c.spaces.ensures.did

pub returns-in-Text-clause-did : goal.returns-in-Text-clause-did
returns-in-Text-clause-did c = rw c.in-Text.is c.type_text.ensures.did
