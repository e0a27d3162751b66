use Rattle.std.proofs.Common.{[], ◌∷◌, length}
use Rattle.std.proofs.lemmas.Result.{err_from_is_err_and}
use Rattle.dictionary.specs.Dict.{appended}
use Rattle.definition.specs.Stacks.{replaced}
use Rattle.steps.specs.Spaces.{in_space}
use Rattle.stepping.proofs.WordEnds.{word_refused, pushes, compiles_token, compiles_number, acts_refused, acts_done}
use Rattle.stepping.proofs.word.interpret.Goals as goal

pub returns-in_err-token-clause-did : goal.returns-in_err-token-clause-did
returns-in_err-token-clause-did c =
    let p = err_from_is_err_and c.from_residual.result c.from_residual.ensures.1 in
    rw (p.1, p.2) (word_refused c.args.registers.now c.args.image.now c.args.cells.now c.in_err-token.ensures.whole _ c.in_err-token.ensures.kind)

pub returns-in_err-append-in-true-Plain-clause-did : goal.returns-in_err-append-in-true-Plain-clause-did
returns-in_err-append-in-true-Plain-clause-did c =
    let p = err_from_is_err_and c.from_residual-in_err-append-in-true-Plain.result c.from_residual-in_err-append-in-true-Plain.ensures.1 in
    rw (p.1, p.2) (acts_refused c.args.registers.now c.args.image.now c.args.cells.now c.in_ok-token.ensures.whole (in_space (length c.compiled.result) (appended c.compiled.result)) (compiles_token c.args.registers.now c.args.image.now c.args.cells.now c.in_ok-token.ensures.whole c.in_ok-token.field-0 c.in_ok-token.ensures.kind c.in-true-Plain.token c.compiled.result c.in-true-Plain.is-1 c.in-true-Plain.is-0 c.compiled.ensures) c.append.new.registers c.append.new.image c.args.cells.now _ (c.in_err-append-in-true-Plain.ensures.did c.args.cells.now))

pub returns-in_ok-append-in-true-Plain-clause-did : goal.returns-in_ok-append-in-true-Plain-clause-did
returns-in_ok-append-in-true-Plain-clause-did c = acts_done c.args.registers.now c.args.image.now c.args.cells.now c.in_ok-token.ensures.whole (in_space (length c.compiled.result) (appended c.compiled.result)) (compiles_token c.args.registers.now c.args.image.now c.args.cells.now c.in_ok-token.ensures.whole c.in_ok-token.field-0 c.in_ok-token.ensures.kind c.in-true-Plain.token c.compiled.result c.in-true-Plain.is-1 c.in-true-Plain.is-0 c.compiled.ensures) c.append.new.registers c.append.new.image c.args.cells.now (c.in_ok-append-in-true-Plain.ensures.did c.args.cells.now)

pub returns-in_err-append-in-true-Number-clause-did : goal.returns-in_err-append-in-true-Number-clause-did
returns-in_err-append-in-true-Number-clause-did c =
    let p = err_from_is_err_and c.from_residual-in_err-append-in-true-Number.result c.from_residual-in_err-append-in-true-Number.ensures.1 in
    rw (p.1, p.2) (acts_refused c.args.registers.now c.args.image.now c.args.cells.now c.in_ok-token.ensures.whole (in_space (length c.literal.result) (appended c.literal.result)) (compiles_number c.args.registers.now c.args.image.now c.args.cells.now c.in_ok-token.ensures.whole c.in_ok-token.field-0 c.in_ok-token.ensures.kind c.in-true-Number.n c.literal.result c.in-true-Number.is-1 c.in-true-Number.is-0 c.literal.ensures) c.append-in-true-Number.new.registers c.append-in-true-Number.new.image c.args.cells.now _ (c.in_err-append-in-true-Number.ensures.did c.args.cells.now))

pub returns-in_ok-append-in-true-Number-clause-did : goal.returns-in_ok-append-in-true-Number-clause-did
returns-in_ok-append-in-true-Number-clause-did c = acts_done c.args.registers.now c.args.image.now c.args.cells.now c.in_ok-token.ensures.whole (in_space (length c.literal.result) (appended c.literal.result)) (compiles_number c.args.registers.now c.args.image.now c.args.cells.now c.in_ok-token.ensures.whole c.in_ok-token.field-0 c.in_ok-token.ensures.kind c.in-true-Number.n c.literal.result c.in-true-Number.is-1 c.in-true-Number.is-0 c.literal.ensures) c.append-in-true-Number.new.registers c.append-in-true-Number.new.image c.args.cells.now (c.in_ok-append-in-true-Number.ensures.did c.args.cells.now)

pub returns-in_err-leave-in-false-Number-clause-did : goal.returns-in_err-leave-in-false-Number-clause-did
returns-in_err-leave-in-false-Number-clause-did c =
    let p = err_from_is_err_and c.from_residual-in_err-leave-in-false-Number.result c.from_residual-in_err-leave-in-false-Number.ensures.1 in
    rw (p.1, p.2) (acts_refused c.args.registers.now c.args.image.now c.args.cells.now c.in_ok-token.ensures.whole (replaced 0 (c.in-false-Number.n ∷ [])) (pushes c.args.registers.now c.args.image.now c.args.cells.now c.in_ok-token.ensures.whole c.in_ok-token.field-0 c.in_ok-token.ensures.kind c.in-false-Number.n c.in-false-Number.is-1 c.in-false-Number.is-0) c.leave.new.registers c.args.image.now c.leave.new.cells _ (c.in_err-leave-in-false-Number.ensures c.args.image.now))

pub returns-in_ok-leave-in-false-Number-clause-did : goal.returns-in_ok-leave-in-false-Number-clause-did
returns-in_ok-leave-in-false-Number-clause-did c = acts_done c.args.registers.now c.args.image.now c.args.cells.now c.in_ok-token.ensures.whole (replaced 0 (c.in-false-Number.n ∷ [])) (pushes c.args.registers.now c.args.image.now c.args.cells.now c.in_ok-token.ensures.whole c.in_ok-token.field-0 c.in_ok-token.ensures.kind c.in-false-Number.n c.in-false-Number.is-1 c.in-false-Number.is-0) c.leave.new.registers c.args.image.now c.leave.new.cells (c.in_ok-leave-in-false-Number.ensures c.args.image.now)
