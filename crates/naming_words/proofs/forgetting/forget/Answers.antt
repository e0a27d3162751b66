use Rattle.std.proofs.lemmas.Result.{err_from_is_err_and}
use Rattle.steps.proofs.Words.{no_text, no_state}
use Rattle.naming_words.proofs.Forgotten.{asked_for, not_forgotten, forgotten_lem}
use Rattle.naming_words.proofs.forgetting.forget.Goals as goal

pub returns-in_err-entry-clause-did : goal.returns-in_err-entry-clause-did
returns-in_err-entry-clause-did c d =
    let p = err_from_is_err_and c.from_residual.result c.from_residual.ensures.1 in
    rw (p.1, p.2) (no_text 72 c.args.registers.now c.args.image.now d c.take_forgettable.new.registers _ c.in_err-entry.ensures)

pub returns-in_err-ask_at_rest-clause-did : goal.returns-in_err-ask_at_rest-clause-did
returns-in_err-ask_at_rest-clause-did c d =
    let p = err_from_is_err_and c.from_residual-in_err-ask_at_rest.result c.from_residual-in_err-ask_at_rest.ensures.1 in
    let h = c.in_ok-entry.ensures in
    rw (p.1, p.2) (no_state 72 c.args.registers.now c.args.image.now d c.take_forgettable.new.registers h.1.0 c.in_ok-entry.entry h.1.1 _ c.in_err-ask_at_rest.ensures.answers)

pub trim-requires : goal.trim-requires
trim-requires c =
    asked_for c.in_ok-entry.entry c.first_forgettable.result c.take_forgettable.new.registers c.args.image.now c.dictionary_of-d.result (record { ends = c.dictionary_of-d.ensures.ends; names = c.dictionary_of-d.ensures.names; order = c.dictionary_of-d.ensures.order }) c.first_forgettable.ensures c.in_ok-entry.ensures.0

pub returns-in_err-trim-clause-did : goal.returns-in_err-trim-clause-did
returns-in_err-trim-clause-did c d =
    let p = err_from_is_err_and c.from_residual-in_err-trim.result c.from_residual-in_err-trim.ensures.1 in
    rw (p.1, p.2) (not_forgotten c.args.registers.now c.take_forgettable.new.registers c.args.image.now c.in_ok-entry.ensures.1.0 c.in_ok-entry.entry c.in_ok-entry.ensures.1.1 c.in_ok-ask_at_rest.ensures.answers c.trim.new.image c.dictionary_of-d.result c.trim.new.d c.told-image c.trim.array_long (record { ends = c.dictionary_of-d.ensures.ends; names = c.dictionary_of-d.ensures.names; order = c.dictionary_of-d.ensures.order }) c.in_err-trim.ensures.rest c.first_forgettable.result c.first_forgettable.ensures c.place-told.result c.place-told.ensures _ c.in_err-trim.ensures.did d)

pub returns-clause-did : goal.returns-clause-did
returns-clause-did c d =
    forgotten_lem c.args.registers.now c.take_forgettable.new.registers c.args.image.now c.in_ok-entry.ensures.1.0 c.in_ok-entry.entry c.in_ok-entry.ensures.1.1 c.in_ok-ask_at_rest.ensures.answers c.trim.new.image c.dictionary_of-d.result c.trim.new.d c.told-image c.trim.array_long (record { ends = c.dictionary_of-d.ensures.ends; names = c.dictionary_of-d.ensures.names; order = c.dictionary_of-d.ensures.order }) c.in_ok-trim.ensures.rest c.first_forgettable.result c.first_forgettable.ensures c.place-told.result c.place-told.ensures c.keep.new.registers c.in_ok-trim.ensures.did (record { shared = c.keep.ensures.shared; seat = c.keep.ensures.seat }) d
