use Rattle.std.proofs.Common.{◌+◌, Ok, Err, refl}
use Rattle.std.proofs.lemmas.Result.{err_from_is_err_and}
use Rattle.entries.specs.Entries.{spelled}
use Rattle.dictionary.specs.Dict.{vocabulary_defined}
use Rattle.dictionary.specs.Lent.{dict_of}
use Rattle.definition.specs.Define.{entry_size}
use Rattle.texts.specs.Names.{name_of}
use Rattle.steps.proofs.Spaces.{full, done}
use Rattle.defining_words.proofs.Made.{vocabulary_made}
use Rattle.defining_words.proofs.making.define_vocabulary.Goals as goal

pub returns-in_err-define_vocabulary-clause-did : goal.returns-in_err-define_vocabulary-clause-did
returns-in_err-define_vocabulary-clause-did c =
    let p = err_from_is_err_and c.from_residual.result c.from_residual.ensures.1 in
    let name = name_of c.args.name.now in
    let view = c.args.registers.now.seat.source.position.blk in
    rw (p.1, p.2)
    (full c.args.registers.now c.args.image.now c.define_vocabulary.new.image c.dictionary_of-d.result c.define_vocabulary.new.self c.told-image c.define_vocabulary.array_long (record { ends = c.dictionary_of-d.ensures.ends; names = c.dictionary_of-d.ensures.names; order = c.dictionary_of-d.ensures.order }) c.in_err-define_vocabulary.ensures.rest (entry_size name + 10) (vocabulary_defined view (spelled name)) c.place.result c.place.ensures _
    (vocabulary_made c.place.result (dict_of c.dictionary_of-d.result c.args.image.now) (dict_of c.define_vocabulary.new.self c.define_vocabulary.new.image) (Err _) c.view.result view c.view.ensures c.text.result.now name c.text.ensures.value c.in_err-define_vocabulary.ensures.did))

pub returns-clause-did : goal.returns-clause-did
returns-clause-did c =
    let name = name_of c.args.name.now in
    let view = c.args.registers.now.seat.source.position.blk in
    done c.args.registers.now c.args.image.now c.define_vocabulary.new.image c.dictionary_of-d.result c.define_vocabulary.new.self c.told-image c.define_vocabulary.array_long (record { ends = c.dictionary_of-d.ensures.ends; names = c.dictionary_of-d.ensures.names; order = c.dictionary_of-d.ensures.order }) c.in_ok-define_vocabulary.ensures.rest (entry_size name + 10) (vocabulary_defined view (spelled name)) c.place.result c.place.ensures c.keep.new.registers
    (vocabulary_made c.place.result (dict_of c.dictionary_of-d.result c.args.image.now) (dict_of c.define_vocabulary.new.self c.define_vocabulary.new.image) (Ok tt) c.view.result view c.view.ensures c.text.result.now name c.text.ensures.value c.in_ok-define_vocabulary.ensures.did)
    (record { shared = c.keep.ensures.shared; seat = c.keep.ensures.seat }) (λ x. refl)
