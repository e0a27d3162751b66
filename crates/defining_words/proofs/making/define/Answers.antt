use Rattle.std.proofs.Common.{◌+◌, Ok, Err, refl, ap, ◌∙◌}
use Rattle.std.proofs.lemmas.Result.{err_from_is_err_and}
use Rattle.image.specs.Cells.{cell}
use Rattle.entries.specs.Entries.{spelled}
use Rattle.dictionary.specs.Dict.{defined}
use Rattle.dictionary.specs.Lent.{dict_of}
use Rattle.dictionary.proofs.Growing.{le_bytes_are_cell}
use Rattle.definition.specs.Define.{entry_size}
use Rattle.texts.specs.Names.{name_of}
use Rattle.steps.proofs.Spaces.{full, done}
use Rattle.defining_words.specs.Made.{code_of, value_of}
use Rattle.defining_words.proofs.Made.{entry_made}
use Rattle.defining_words.proofs.making.define.Goals as goal

pub returns-in_err-define-clause-did : goal.returns-in_err-define-clause-did
returns-in_err-define-clause-did c =
    let p = err_from_is_err_and c.from_residual.result c.from_residual.ensures.1 in
    let name = name_of c.args.name.now in
    let view = c.args.registers.now.seat.source.position.blk in
    rw (p.1, p.2)
    (full c.args.registers.now c.args.image.now c.define.new.image c.dictionary_of-d.result c.define.new.self c.told-image c.define.array_long (record { ends = c.dictionary_of-d.ensures.ends; names = c.dictionary_of-d.ensures.names; order = c.dictionary_of-d.ensures.order }) c.in_err-define.ensures.rest (entry_size name + 2) (defined view 0 (spelled name) (code_of c.args.made) (cell (value_of c.args.made))) c.place.result c.place.ensures _
    (entry_made c.place.result (dict_of c.dictionary_of-d.result c.args.image.now) (dict_of c.define.new.self c.define.new.image) (Err _) c.view.result view c.view.ensures c.text.result.now name c.text.ensures.value c.args.made c.code.result c.to_le_bytes.result c.code.ensures (c.to_le_bytes.ensures ∙ le_bytes_are_cell c.value.result c.value.type_inv ∙ ap cell c.value.ensures) c.in_err-define.ensures.did))

pub returns-clause-did : goal.returns-clause-did
returns-clause-did c =
    let name = name_of c.args.name.now in
    let view = c.args.registers.now.seat.source.position.blk in
    done c.args.registers.now c.args.image.now c.define.new.image c.dictionary_of-d.result c.define.new.self c.told-image c.define.array_long (record { ends = c.dictionary_of-d.ensures.ends; names = c.dictionary_of-d.ensures.names; order = c.dictionary_of-d.ensures.order }) c.in_ok-define.ensures.rest (entry_size name + 2) (defined view 0 (spelled name) (code_of c.args.made) (cell (value_of c.args.made))) c.place.result c.place.ensures c.keep.new.registers
    (entry_made c.place.result (dict_of c.dictionary_of-d.result c.args.image.now) (dict_of c.define.new.self c.define.new.image) (Ok tt) c.view.result view c.view.ensures c.text.result.now name c.text.ensures.value c.args.made c.code.result c.to_le_bytes.result c.code.ensures (c.to_le_bytes.ensures ∙ le_bytes_are_cell c.value.result c.value.type_inv ∙ ap cell c.value.ensures) c.in_ok-define.ensures.did)
    (record { shared = c.keep.ensures.shared; seat = c.keep.ensures.seat }) (λ x. refl)
