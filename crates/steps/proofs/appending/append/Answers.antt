use Rattle.std.proofs.lemmas.Result.{err_from_is_err_and}
use Rattle.std.proofs.Common.{length, refl}
use Rattle.dictionary.specs.Dict.{appended}
use Rattle.steps.proofs.Spaces.{full, done}
use Rattle.steps.proofs.appending.append.Goals as goal

pub returns-in_err-append-clause-did : goal.returns-in_err-append-clause-did
returns-in_err-append-clause-did c =
    let p = err_from_is_err_and c.from_residual.result c.from_residual.ensures.1 in
    let d = c.dictionary_of-d in
    rw (p.1, p.2)
    (full c.args.registers.now c.args.image.now c.append.new.image d.result c.append.new.self c.told-image c.append.array_long (record { ends = d.ensures.ends; names = d.ensures.names; order = d.ensures.order }) c.in_err-append.ensures.rest (length c.args.bytes.now) (appended c.args.bytes.now) c.place.result c.place.ensures _ c.in_err-append.ensures.did)

pub returns-clause-did : goal.returns-clause-did
returns-clause-did c =
    let d = c.dictionary_of-d in
    done c.args.registers.now c.args.image.now c.append.new.image d.result c.append.new.self c.told-image c.append.array_long (record { ends = d.ensures.ends; names = d.ensures.names; order = d.ensures.order }) c.in_ok-append.ensures.rest (length c.args.bytes.now) (appended c.args.bytes.now) c.place.result c.place.ensures c.keep.new.registers c.in_ok-append.ensures.did (record { shared = c.keep.ensures.shared; seat = c.keep.ensures.seat }) (λ x. refl)
