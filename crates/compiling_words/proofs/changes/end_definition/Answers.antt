use Rattle.std.proofs.Common.{arith}
use Rattle.std.proofs.lemmas.Result.{err_from_is_err_and}
use Rattle.compiling_words.proofs.Changed.{end_marks, end_full, still_open, end_done}
use Rattle.compiling_words.proofs.changes.end_definition.Goals as goal

pub returns-in_err-ask-clause-did : goal.returns-in_err-ask-clause-did
returns-in_err-ask-clause-did c =
    let p = err_from_is_err_and c.from_residual.result c.from_residual.ensures.1 in
    let h = c.in_err-ask.ensures in
    rw (p.1, p.2) (end_marks c.args.registers.now c.args.image.now _ h.0 h.1)

pub returns-in_err-append-clause-did : goal.returns-in_err-append-clause-did
returns-in_err-append-clause-did c =
    let p = err_from_is_err_and c.from_residual-in_err-append.result c.from_residual-in_err-append.ensures.1 in
    rw (p.1, p.2) (end_full c.args.registers.now c.args.image.now c.token_bytes.result c.token_bytes.ensures c.in_ok-ask.ensures c.append.new.registers c.append.new.image _ c.in_err-append.ensures.did)

pub join-requires : goal.join-requires
join-requires c =
    let o = still_open c.args.registers.now c.args.image.now c.token_bytes.result c.token_bytes.ensures c.in_ok-ask.ensures c.append.new.registers c.append.new.image c.in_ok-append.ensures.did in
    omega (arith, o, c.requires)

pub returns-clause-did : goal.returns-clause-did
returns-clause-did c =
    end_done c.args.registers.now c.args.image.now c.token_bytes.result c.token_bytes.ensures c.in_ok-ask.ensures c.append.new.registers c.append.new.image c.in_ok-append.ensures.did
    c.join.new.registers c.set_compiling.new.registers c.join.new.image c.join.ensures.did (c.set_compiling.ensures c.join.new.image)
