use Rattle.std.proofs.Common.{refl, subst}
use Rattle.data_words.specs.Numbers.{stack_number, unary_number, binary_number, leaving_number}
use Rattle.space_words.specs.Numbers.{memory_number}
use Rattle.inner_words.specs.Numbers.{returns_number, inline_number}
use Rattle.codes.specs.Codes.{Coded}
use Rattle.codes.proofs.Groups.{cells_performs, space_performs, state_performs, other_performs}
use Rattle.codes.proofs.Rows.{stack_rows_lem, unary_rows, binary_rows, memory_rows, leaving_rows, returns_rows, inline_rows}
use Rattle.executing.proofs.performing.perform.Goals as goal

pub returns-in-Stack-clause-did : goal.returns-in-Stack-clause-did
returns-in-Stack-clause-did g c =
    cells_performs (stack_number c.in-Stack.word) c.args.number c.args.token c.args.registers.now c.stack_word.new.registers c.stack_word.result c.went.result (subst (Coded c.args.number) c.in-Stack.is c.from.ensures) c.went.ensures c.args.image.now c.args.cells.now c.args.returns.now c.args.marks.now c.args.output.now.bytes.now c.args.output.now.typed (g.S.Store.means c.args.store.now) c.stack_word.new.cells (stack_rows_lem c.in-Stack.word) c.told-image c.stack_word.ensures

pub returns-in-Unary-clause-did : goal.returns-in-Unary-clause-did
returns-in-Unary-clause-did g c =
    cells_performs (unary_number c.in-Unary.word) c.args.number c.args.token c.args.registers.now c.unary_word.new.registers c.unary_word.result c.went-in-Unary.result (subst (Coded c.args.number) c.in-Unary.is c.from.ensures) c.went-in-Unary.ensures c.args.image.now c.args.cells.now c.args.returns.now c.args.marks.now c.args.output.now.bytes.now c.args.output.now.typed (g.S.Store.means c.args.store.now) c.unary_word.new.cells (unary_rows c.in-Unary.word) c.told-image c.unary_word.ensures

pub returns-in-Binary-clause-did : goal.returns-in-Binary-clause-did
returns-in-Binary-clause-did g c =
    cells_performs (binary_number c.in-Binary.word) c.args.number c.args.token c.args.registers.now c.binary_word.new.registers c.binary_word.result c.went-in-Binary.result (subst (Coded c.args.number) c.in-Binary.is c.from.ensures) c.went-in-Binary.ensures c.args.image.now c.args.cells.now c.args.returns.now c.args.marks.now c.args.output.now.bytes.now c.args.output.now.typed (g.S.Store.means c.args.store.now) c.binary_word.new.cells (binary_rows c.in-Binary.word) c.told-image c.binary_word.ensures

pub returns-in-Memory-clause-did : goal.returns-in-Memory-clause-did
returns-in-Memory-clause-did g c =
    space_performs (memory_number c.in-Memory.word) c.args.number c.args.token c.args.registers.now c.memory_word.new.registers c.memory_word.result c.went-in-Memory.result (subst (Coded c.args.number) c.in-Memory.is c.from.ensures) c.went-in-Memory.ensures c.args.image.now c.args.cells.now c.args.returns.now c.args.marks.now c.args.output.now.bytes.now c.args.output.now.typed (g.S.Store.means c.args.store.now) c.memory_word.new.image c.memory_word.new.cells (memory_rows c.in-Memory.word) c.memory_word.ensures.did

pub returns-in-Leaving-clause-did : goal.returns-in-Leaving-clause-did
returns-in-Leaving-clause-did g c =
    cells_performs (leaving_number c.in-Leaving.word) c.args.number c.args.token c.args.registers.now c.leaving_word.new.registers c.leaving_word.result c.went-in-Leaving.result (subst (Coded c.args.number) c.in-Leaving.is c.from.ensures) c.went-in-Leaving.ensures c.args.image.now c.args.cells.now c.args.returns.now c.args.marks.now c.args.output.now.bytes.now c.args.output.now.typed (g.S.Store.means c.args.store.now) c.leaving_word.new.cells (leaving_rows c.in-Leaving.word) c.told-image c.leaving_word.ensures

pub returns-in-Returns-clause-did : goal.returns-in-Returns-clause-did
returns-in-Returns-clause-did g c =
    state_performs (returns_number c.in-Returns.word) c.args.number c.args.token c.args.registers.now c.returning.new.registers c.returning.result c.went-in-Returns.result (subst (Coded c.args.number) c.in-Returns.is c.from.ensures) c.went-in-Returns.ensures c.args.image.now c.args.cells.now c.args.returns.now c.args.marks.now c.args.output.now.bytes.now c.args.output.now.typed (g.S.Store.means c.args.store.now) c.args.image.now c.returning.new.cells c.returning.new.returns (returns_rows c.in-Returns.word).kernel c.told-marks (c.returning.ensures c.args.image.now)

pub returns-in-Inline-clause-did : goal.returns-in-Inline-clause-did
returns-in-Inline-clause-did g c =
    state_performs (inline_number c.in-Inline.word) c.args.number c.args.token c.args.registers.now c.reading.new.registers c.reading.result c.went-in-Inline.result (subst (Coded c.args.number) c.in-Inline.is c.from.ensures) c.went-in-Inline.ensures c.args.image.now c.args.cells.now c.args.returns.now c.args.marks.now c.args.output.now.bytes.now c.args.output.now.typed (g.S.Store.means c.args.store.now) c.args.image.now c.reading.new.cells c.reading.new.returns (inline_rows c.in-Inline.word).kernel c.told-marks c.reading.ensures

pub returns-in-Colon-clause-did : goal.returns-in-Colon-clause-did
returns-in-Colon-clause-did g c =
    other_performs 201 c.args.number c.args.token c.args.registers.now c.colon_word.new.registers c.colon_word.result c.went-in-Colon.result (subst (Coded c.args.number) c.in-Colon.is c.from.ensures) c.went-in-Colon.ensures c.args.image.now c.args.cells.now c.args.returns.now c.args.image.now c.args.cells.now c.colon_word.new.returns c.args.marks.now c.args.marks.now c.args.output.now.bytes.now c.args.output.now.typed (g.S.Store.means c.args.store.now) (g.S.Store.means c.args.store.now) refl (c.colon_word.ensures c.args.image.now c.args.cells.now c.args.marks.now (g.S.Store.means c.args.store.now))

pub returns-in-Created-clause-did : goal.returns-in-Created-clause-did
returns-in-Created-clause-did g c =
    other_performs 202 c.args.number c.args.token c.args.registers.now c.pushing_word.new.registers c.pushing_word.result c.went-in-Created.result (subst (Coded c.args.number) c.in-Created.is c.from.ensures) c.went-in-Created.ensures c.args.image.now c.args.cells.now c.args.returns.now c.args.image.now c.pushing_word.new.cells c.args.returns.now c.args.marks.now c.args.marks.now c.args.output.now.bytes.now c.args.output.now.typed (g.S.Store.means c.args.store.now) (g.S.Store.means c.args.store.now) refl (c.pushing_word.ensures c.args.returns.now c.args.marks.now (g.S.Store.means c.args.store.now))

pub returns-in-Constant-clause-did : goal.returns-in-Constant-clause-did
returns-in-Constant-clause-did g c =
    other_performs 203 c.args.number c.args.token c.args.registers.now c.pushing_word-in-Constant.new.registers c.pushing_word-in-Constant.result c.went-in-Constant.result (subst (Coded c.args.number) c.in-Constant.is c.from.ensures) c.went-in-Constant.ensures c.args.image.now c.args.cells.now c.args.returns.now c.args.image.now c.pushing_word-in-Constant.new.cells c.args.returns.now c.args.marks.now c.args.marks.now c.args.output.now.bytes.now c.args.output.now.typed (g.S.Store.means c.args.store.now) (g.S.Store.means c.args.store.now) refl (c.pushing_word-in-Constant.ensures c.args.returns.now c.args.marks.now (g.S.Store.means c.args.store.now))

pub returns-in-Does-clause-did : goal.returns-in-Does-clause-did
returns-in-Does-clause-did g c =
    other_performs 205 c.args.number c.args.token c.args.registers.now c.does_word.new.registers c.does_word.result c.went-in-Does.result (subst (Coded c.args.number) c.in-Does.is c.from.ensures) c.went-in-Does.ensures c.args.image.now c.args.cells.now c.args.returns.now c.args.image.now c.does_word.new.cells c.does_word.new.returns c.args.marks.now c.args.marks.now c.args.output.now.bytes.now c.args.output.now.typed (g.S.Store.means c.args.store.now) (g.S.Store.means c.args.store.now) refl (c.does_word.ensures c.args.marks.now (g.S.Store.means c.args.store.now))
