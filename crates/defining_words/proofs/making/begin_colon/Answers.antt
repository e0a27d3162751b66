use Rattle.std.proofs.Common.{Ok, Err, refl}
use Rattle.std.proofs.lemmas.Result.{err_from_is_err_and}
use Rattle.entries.specs.Entries.{spelled}
use Rattle.dictionary.specs.Dict.{colon_begun}
use Rattle.dictionary.specs.Lent.{dict_of}
use Rattle.definition.specs.Define.{entry_size}
use Rattle.texts.specs.Names.{name_of}
use Rattle.steps.proofs.Spaces.{full, done}
use Rattle.defining_words.proofs.Made.{colon_made}
use Rattle.defining_words.proofs.making.begin_colon.Goals as goal

pub returns-in_err-begin_colon-clause-did : goal.returns-in_err-begin_colon-clause-did
returns-in_err-begin_colon-clause-did c =
    let p = err_from_is_err_and c.from_residual.result c.from_residual.ensures.1 in
    let name = name_of c.args.name.now in
    let view = c.args.registers.now.seat.source.position.blk in
    rw (p.1, p.2)
    (full c.args.registers.now c.args.image.now c.begin_colon.new.image c.dictionary_of-d.result c.begin_colon.new.self c.told-image c.begin_colon.array_long (record { ends = c.dictionary_of-d.ensures.ends; names = c.dictionary_of-d.ensures.names; order = c.dictionary_of-d.ensures.order }) c.in_err-begin_colon.ensures.rest (entry_size name) (colon_begun view (spelled name)) c.place.result c.place.ensures _
    (colon_made c.place.result (dict_of c.dictionary_of-d.result c.args.image.now) (dict_of c.begin_colon.new.self c.begin_colon.new.image) (Err _) c.view.result view c.view.ensures c.text.result.now name c.text.ensures.value c.in_err-begin_colon.ensures.did))

pub returns-clause-did : goal.returns-clause-did
returns-clause-did c =
    let name = name_of c.args.name.now in
    let view = c.args.registers.now.seat.source.position.blk in
    done c.args.registers.now c.args.image.now c.begin_colon.new.image c.dictionary_of-d.result c.begin_colon.new.self c.told-image c.begin_colon.array_long (record { ends = c.dictionary_of-d.ensures.ends; names = c.dictionary_of-d.ensures.names; order = c.dictionary_of-d.ensures.order }) c.in_ok-begin_colon.ensures.rest (entry_size name) (colon_begun view (spelled name)) c.place.result c.place.ensures c.keep.new.registers
    (colon_made c.place.result (dict_of c.dictionary_of-d.result c.args.image.now) (dict_of c.begin_colon.new.self c.begin_colon.new.image) (Ok tt) c.view.result view c.view.ensures c.text.result.now name c.text.ensures.value c.in_ok-begin_colon.ensures.did)
    (record { shared = c.keep.ensures.shared; seat = c.keep.ensures.seat }) (λ x. refl)
