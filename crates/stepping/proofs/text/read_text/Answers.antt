use Rattle.std.proofs.Common.{sym, ◌∙◌}
use Rattle.std.proofs.lemmas.Result.{err_from_is_err_and}
use Rattle.stepping.proofs.TextEnds.{brings, brings_not, load_ends, line_ends, word_taken}
use Rattle.stepping.proofs.text.read_text.Goals as goal

pub returns-in_err-bring-clause-did : goal.returns-in_err-bring-clause-did
returns-in_err-bring-clause-did g c =
    let p = err_from_is_err_and c.from_residual.result c.from_residual.ensures.1 in
    rw (p.1, p.2) (brings_not c.args.registers.now c.args.image.now c.args.cells.now (g.S.Store.means c.args.store.now) _ c.bring.new.registers c.bring.new.image (g.S.Store.means c.bring.new.store) (λ t k. sym (c.lacks_block.ensures c.args.image.now c.args.cells.now t k (g.S.Store.means c.args.store.now)) ∙ c.if-lacks_block.true) c.in_err-bring.ensures.did)

pub returns-then-lacks_block-clause-did : goal.returns-then-lacks_block-clause-did
returns-then-lacks_block-clause-did g c = brings c.args.registers.now c.args.image.now c.args.cells.now (g.S.Store.means c.args.store.now) c.bring.new.registers c.bring.new.image (g.S.Store.means c.bring.new.store) (λ t k. sym (c.lacks_block.ensures c.args.image.now c.args.cells.now t k (g.S.Store.means c.args.store.now)) ∙ c.if-lacks_block.true) c.in_ok-bring.ensures.did

pub returns-then-end_load-clause-did : goal.returns-then-end_load-clause-did
returns-then-end_load-clause-did g c = load_ends c.args.registers.now c.args.image.now c.args.cells.now (g.S.Store.means c.args.store.now) c.take_word.new.registers c.end_load.new.registers (λ t k. sym (c.lacks_block.ensures c.args.image.now c.args.cells.now t k (g.S.Store.means c.args.store.now)) ∙ c.if-lacks_block.false) c.in_default.ensures.took c.if-end_load.ensures

pub returns-else-end_load-clause-did : goal.returns-else-end_load-clause-did
returns-else-end_load-clause-did g c = line_ends c.args.registers.now c.args.image.now c.args.cells.now (g.S.Store.means c.args.store.now) c.take_word.new.registers c.end_load.new.registers (λ t k. sym (c.lacks_block.ensures c.args.image.now c.args.cells.now t k (g.S.Store.means c.args.store.now)) ∙ c.if-lacks_block.false) c.in_default.ensures.took c.if-end_load.ensures

pub returns-clause-did : goal.returns-clause-did
returns-clause-did g c = word_taken c.args.registers.now c.args.image.now c.args.cells.now (g.S.Store.means c.args.store.now) c.take_word.new.registers c.in-Some.field-0.now (λ t k. sym (c.lacks_block.ensures c.args.image.now c.args.cells.now t k (g.S.Store.means c.args.store.now)) ∙ c.if-lacks_block.false) c.in-Some.ensures.took c.interpret.result c.interpret.new.registers c.interpret.new.image c.interpret.new.cells c.interpret.ensures.did
