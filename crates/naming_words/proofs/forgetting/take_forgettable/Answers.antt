use Rattle.std.proofs.lemmas.Result.{err_from_is_err_and}
use Rattle.naming_words.proofs.Taking.{no_name, broken_thread, not_found, not_in_order, forgettable}
use Rattle.naming_words.proofs.forgetting.take_forgettable.Goals as goal

pub returns-in_err-name : goal.returns-in_err-name
returns-in_err-name c =
    let p = err_from_is_err_and c.from_residual.result c.from_residual.ensures.1 in
    rw (p.1, p.2) (no_name c.args.registers.now c.take_name.new.registers c.args.image.now _ c.in_err-name.ensures.took)

pub returns-in_err-found : goal.returns-in_err-found
returns-in_err-found c =
    let p = err_from_is_err_and c.from_residual-in_err-found.result c.from_residual-in_err-found.ensures.1 in
    rw (p.1, p.2) (broken_thread c.args.registers.now c.take_name.new.registers c.args.image.now c.told-image c.in_ok-name.name c.text.result.now c.in_ok-name.ensures.took c.text.ensures.value c.dictionary_of-d.result (record { ends = c.dictionary_of-d.ensures.ends; names = c.dictionary_of-d.ensures.names; order = c.dictionary_of-d.ensures.order }) c.place-told.result c.place-told.ensures _ c.in_err-found.ensures)

pub returns-in_err-entry : goal.returns-in_err-entry
returns-in_err-entry c =
    let p = err_from_is_err_and c.from_residual-in_err-entry.result c.from_residual-in_err-entry.ensures.1 in
    rw (p.1, p.2)
    (not_found c.args.registers.now c.take_name.new.registers c.args.image.now c.told-image c.in_ok-name.name c.text.result.now c.in_ok-name.ensures.took c.text.ensures.value c.dictionary_of-d.result (record { ends = c.dictionary_of-d.ensures.ends; names = c.dictionary_of-d.ensures.names; order = c.dictionary_of-d.ensures.order }) c.place-told.result c.place-told.ensures c.in_ok-found.found _ c.in_err-entry.ensures.0 c.in_ok-found.ensures c.in_err-entry.ensures.1)

pub returns-in_err-can_trim : goal.returns-in_err-can_trim
returns-in_err-can_trim c =
    let p = err_from_is_err_and c.from_residual-in_err-can_trim.result c.from_residual-in_err-can_trim.ensures.1 in
    rw (p.1, p.2)
    (not_in_order c.args.registers.now c.take_name.new.registers c.args.image.now c.told-image c.in_ok-name.name c.text.result.now c.in_ok-name.ensures.took c.text.ensures.value c.dictionary_of-d.result (record { ends = c.dictionary_of-d.ensures.ends; names = c.dictionary_of-d.ensures.names; order = c.dictionary_of-d.ensures.order }) c.place-told.result c.place-told.ensures c.in_ok-found.found c.in_ok-entry.entry c.in_ok-entry.ensures c.in_ok-found.ensures c.first_forgettable.result _ c.first_forgettable.ensures c.in_err-can_trim.ensures)

pub returns : goal.returns
returns c = forgettable c.args.registers.now c.take_name.new.registers c.args.image.now c.told-image c.in_ok-name.name c.text.result.now c.in_ok-name.ensures.took c.text.ensures.value c.dictionary_of-d.result (record { ends = c.dictionary_of-d.ensures.ends; names = c.dictionary_of-d.ensures.names; order = c.dictionary_of-d.ensures.order }) c.place-told.result c.place-told.ensures c.in_ok-found.found c.in_ok-entry.entry c.in_ok-entry.ensures c.in_ok-found.ensures c.first_forgettable.result c.first_forgettable.ensures c.in_ok-can_trim.ensures
