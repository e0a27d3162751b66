use Rattle.std.proofs.Common.{Err, refl, subst}
use Rattle.data_words.specs.Numbers.{divide_number}
use Rattle.space_words.specs.Numbers.{appending_number}
use Rattle.block_words.specs.Buffers.{block_number}
use Rattle.naming_words.specs.Numbers.{naming_number}
use Rattle.compiling_words.specs.Numbers.{compiling_number}
use Rattle.compiling_words.proofs.Rows.{compiling_rows}
use Rattle.control_words.specs.Numbers.{control_number}
use Rattle.typing_words.specs.Numbers.{typing_number}
use Rattle.steps.specs.Does.{seen}
use Rattle.codes.specs.Codes.{SeldomCoded}
use Rattle.codes.specs.Performs.{coded}
use Rattle.codes.proofs.Lifting.{quiet}
use Rattle.codes.proofs.Groups.{never_full, cells_performs, space_performs, state_performs, text_performs, marks_performs, blocks_performs, other_performs, acts_performs, typing_performs}
use Rattle.codes.proofs.Rows.{divide_rows, appending_rows, block_rows, control_rows, body_row, abort_row}
use Rattle.seldom_words.proofs.Rows.{typing_rows}
use Rattle.seldom_words.proofs.Refusing.{naming_kernel, abort_refuses, not_known, unknown_refuses}
use Rattle.seldom_words.proofs.words.seldom_word.Goals as goal

pub returns-in-Divide-clause-did : goal.returns-in-Divide-clause-did
returns-in-Divide-clause-did g c =
    cells_performs (divide_number c.in-Divide.word) c.args.number c.args.token c.args.registers.now c.divide_word.new.registers c.divide_word.result c.went.result (subst (SeldomCoded c.args.number) c.in-Divide.is c.requires.coded) c.went.ensures c.args.image.now c.args.cells.now c.args.returns.now c.args.marks.now c.args.output.now.bytes.now c.args.output.now.typed (g.S.Store.means c.args.store.now) c.divide_word.new.cells (divide_rows c.in-Divide.word) c.told-image c.divide_word.ensures

pub returns-in-Divide-clause-full : goal.returns-in-Divide-clause-full
returns-in-Divide-clause-full g c = never_full c.divide_word.result c.went.result c.args.cells.now c.divide_word.new.cells c.went.ensures

pub returns-in-Appending-clause-did : goal.returns-in-Appending-clause-did
returns-in-Appending-clause-did g c =
    state_performs (appending_number c.in-Appending.word) c.args.number c.args.token c.args.registers.now c.appending.new.registers c.appending.result c.went-in-Appending.result (subst (SeldomCoded c.args.number) c.in-Appending.is c.requires.coded) c.went-in-Appending.ensures c.args.image.now c.args.cells.now c.args.returns.now c.args.marks.now c.args.output.now.bytes.now c.args.output.now.typed (g.S.Store.means c.args.store.now) c.appending.new.image c.appending.new.cells c.args.returns.now (appending_rows c.in-Appending.word).kernel c.told-marks (λ again k s l. c.appending.ensures.did c.args.returns.now again k s l)

pub returns-in-Appending-clause-full : goal.returns-in-Appending-clause-full
returns-in-Appending-clause-full g c = never_full c.appending.result c.went-in-Appending.result c.args.cells.now c.appending.new.cells c.went-in-Appending.ensures

pub returns-in-Allot-clause-did : goal.returns-in-Allot-clause-did
returns-in-Allot-clause-did g c =
    state_performs 46 c.args.number c.args.token c.args.registers.now c.allotting.new.registers c.allotting.result c.went-in-Allot.result (subst (SeldomCoded c.args.number) c.in-Allot.is c.requires.coded) c.went-in-Allot.ensures c.args.image.now c.args.cells.now c.args.returns.now c.args.marks.now c.args.output.now.bytes.now c.args.output.now.typed (g.S.Store.means c.args.store.now) c.allotting.new.image c.args.cells.now c.args.returns.now refl c.told-marks (λ again k s l. c.allotting.ensures.did c.args.returns.now again k s l)

pub returns-in-Allot-clause-full : goal.returns-in-Allot-clause-full
returns-in-Allot-clause-full g c = never_full c.allotting.result c.went-in-Allot.result c.args.cells.now c.args.cells.now c.went-in-Allot.ensures

pub returns-in-Block-clause-did : goal.returns-in-Block-clause-did
returns-in-Block-clause-did g c =
    blocks_performs (block_number c.in-Block.word) c.args.number c.args.token c.args.registers.now c.block_word.new.registers c.block_word.result c.went-in-Block.result (subst (SeldomCoded c.args.number) c.in-Block.is c.requires.coded) c.went-in-Block.ensures c.args.image.now c.args.cells.now c.args.returns.now c.block_word.new.image c.block_word.new.cells c.args.returns.now c.args.marks.now c.args.marks.now c.args.output.now.bytes.now c.args.output.now.typed (g.S.Store.means c.args.store.now) (g.S.Store.means c.block_word.new.store) (block_rows c.in-Block.word) c.block_word.ensures.did refl refl

pub returns-in-Block-clause-full : goal.returns-in-Block-clause-full
returns-in-Block-clause-full g c = never_full c.block_word.result c.went-in-Block.result c.args.cells.now c.block_word.new.cells c.went-in-Block.ensures

pub returns-in-Load-clause-did : goal.returns-in-Load-clause-did
returns-in-Load-clause-did g c =
    state_performs 58 c.args.number c.args.token c.args.registers.now c.loading.new.registers c.loading.result c.went-in-Load.result (subst (SeldomCoded c.args.number) c.in-Load.is c.requires.coded) c.went-in-Load.ensures c.args.image.now c.args.cells.now c.args.returns.now c.args.marks.now c.args.output.now.bytes.now c.args.output.now.typed (g.S.Store.means c.args.store.now) c.args.image.now c.args.cells.now c.args.returns.now refl c.told-marks (λ again k s l. c.loading.ensures c.args.image.now c.args.returns.now c.told-image again k s l)

pub returns-in-Load-clause-full : goal.returns-in-Load-clause-full
returns-in-Load-clause-full g c = never_full c.loading.result c.went-in-Load.result c.args.cells.now c.args.cells.now c.went-in-Load.ensures

pub returns-in-ToBody-clause-did : goal.returns-in-ToBody-clause-did
returns-in-ToBody-clause-did g c =
    space_performs 61 c.args.number c.args.token c.args.registers.now c.body_word.new.registers c.body_word.result c.went-in-ToBody.result (subst (SeldomCoded c.args.number) c.in-ToBody.is c.requires.coded) c.went-in-ToBody.ensures c.args.image.now c.args.cells.now c.args.returns.now c.args.marks.now c.args.output.now.bytes.now c.args.output.now.typed (g.S.Store.means c.args.store.now) c.args.image.now c.body_word.new.cells body_row c.body_word.ensures

pub returns-in-ToBody-clause-full : goal.returns-in-ToBody-clause-full
returns-in-ToBody-clause-full g c = never_full c.body_word.result c.went-in-ToBody.result c.args.cells.now c.body_word.new.cells c.went-in-ToBody.ensures

pub returns-in-Naming-clause-did : goal.returns-in-Naming-clause-did
returns-in-Naming-clause-did g c =
    text_performs (naming_number c.in-Naming.word) c.args.number c.args.token c.args.registers.now c.naming_word.new.registers c.naming_word.result c.went-in-Naming.result (subst (SeldomCoded c.args.number) c.in-Naming.is c.requires.coded) c.went-in-Naming.ensures c.args.image.now c.args.cells.now c.args.returns.now c.args.marks.now c.args.output.now.bytes.now c.args.output.now.typed (g.S.Store.means c.args.store.now) c.naming_word.new.image c.naming_word.new.cells (naming_kernel c.in-Naming.word) c.naming_word.ensures.did

pub returns-in-Naming-clause-full : goal.returns-in-Naming-clause-full
returns-in-Naming-clause-full g c = never_full c.naming_word.result c.went-in-Naming.result c.args.cells.now c.naming_word.new.cells c.went-in-Naming.ensures

pub returns-in-Compiling-clause-did : goal.returns-in-Compiling-clause-did
returns-in-Compiling-clause-did g c =
    state_performs (compiling_number c.in-Compiling.word) c.args.number c.args.token c.args.registers.now c.compiling_word.new.registers c.compiling_word.result c.went-in-Compiling.result (subst (SeldomCoded c.args.number) c.in-Compiling.is c.requires.coded) c.went-in-Compiling.ensures c.args.image.now c.args.cells.now c.args.returns.now c.args.marks.now c.args.output.now.bytes.now c.args.output.now.typed (g.S.Store.means c.args.store.now) c.compiling_word.new.image c.args.cells.now c.args.returns.now (compiling_rows c.in-Compiling.word).kernel c.told-marks c.compiling_word.ensures.did

pub returns-in-Compiling-clause-full : goal.returns-in-Compiling-clause-full
returns-in-Compiling-clause-full g c = never_full c.compiling_word.result c.went-in-Compiling.result c.args.cells.now c.args.cells.now c.went-in-Compiling.ensures

pub returns-in-Control-clause-did : goal.returns-in-Control-clause-did
returns-in-Control-clause-did g c =
    marks_performs (control_number c.in-Control.word) c.args.number c.args.token c.args.registers.now c.building.new.registers c.building.result c.went-in-Control.result (subst (SeldomCoded c.args.number) c.in-Control.is c.requires.coded) c.went-in-Control.ensures c.args.image.now c.args.cells.now c.args.returns.now c.args.marks.now c.args.output.now.bytes.now c.args.output.now.typed (g.S.Store.means c.args.store.now) c.building.new.image c.building.new.marks (control_rows c.in-Control.word).kernel c.building.ensures.did

pub returns-in-Control-clause-full : goal.returns-in-Control-clause-full
returns-in-Control-clause-full g c = never_full c.building.result c.went-in-Control.result c.args.cells.now c.args.cells.now c.went-in-Control.ensures

pub returns-in-Vocabulary-clause-did : goal.returns-in-Vocabulary-clause-did
returns-in-Vocabulary-clause-did g c =
    other_performs 204 c.args.number c.args.token c.args.registers.now c.vocabulary_word.new.registers c.vocabulary_word.result c.went-in-Vocabulary.result (subst (SeldomCoded c.args.number) c.in-Vocabulary.is c.requires.coded) c.went-in-Vocabulary.ensures c.args.image.now c.args.cells.now c.args.returns.now c.args.image.now c.args.cells.now c.args.returns.now c.args.marks.now c.args.marks.now c.args.output.now.bytes.now c.args.output.now.typed (g.S.Store.means c.args.store.now) (g.S.Store.means c.args.store.now) refl (c.vocabulary_word.ensures c.args.cells.now c.args.returns.now c.args.marks.now (g.S.Store.means c.args.store.now))

pub returns-in-Vocabulary-clause-full : goal.returns-in-Vocabulary-clause-full
returns-in-Vocabulary-clause-full g c = never_full c.vocabulary_word.result c.went-in-Vocabulary.result c.args.cells.now c.args.cells.now c.went-in-Vocabulary.ensures

pub returns-in-Typing-clause-did : goal.returns-in-Typing-clause-did
returns-in-Typing-clause-did g c =
    let d = c.typing.ensures.did in
    typing_performs (typing_number c.in-Typing.word) c.args.number c.args.token c.args.registers.now c.typing.new.registers c.typing.result (subst (SeldomCoded c.args.number) c.in-Typing.is c.requires.coded) (typing_rows c.in-Typing.word).kernel
    c.args.image.now c.args.cells.now c.args.returns.now c.args.marks.now c.args.output.now.bytes.now c.typing.new.output.bytes.now d.0 c.args.output.now.typed c.typing.new.output.typed (g.S.Store.means c.args.store.now) d.1 (λ again. d.2 again c.args.returns.now c.args.marks.now (g.S.Store.means c.args.store.now))

pub returns-in-Abort-clause-did : goal.returns-in-Abort-clause-did
returns-in-Abort-clause-did g c =
    acts_performs 63 c.args.number c.args.token c.args.registers.now c.args.registers.now (Err c.abort.result) (Err c.abort.result) (subst (SeldomCoded c.args.number) c.in-Abort.is c.requires.coded) refl c.args.image.now c.args.cells.now c.args.returns.now c.args.image.now c.args.cells.now c.args.returns.now c.args.marks.now c.args.marks.now c.args.output.now.bytes.now c.args.output.now.typed (g.S.Store.means c.args.store.now) (g.S.Store.means c.args.store.now) abort_row
    (λ again. (abort_refuses again c.abort.result (seen c.args.registers.now c.args.image.now c.args.cells.now c.args.returns.now c.args.marks.now (g.S.Store.means c.args.store.now)) c.abort.ensures))

pub returns-in-Execute-clause-did : goal.returns-in-Execute-clause-did
returns-in-Execute-clause-did g c = λ again.
    let m = seen c.args.registers.now c.args.image.now c.args.cells.now c.args.returns.now c.args.marks.now (g.S.Store.means c.args.store.now) in
    quiet (coded again c.args.number c.args.token) c.args.registers.now c.args.registers.now c.args.image.now c.args.cells.now c.args.returns.now c.args.image.now c.args.cells.now c.args.returns.now c.args.marks.now c.args.marks.now (g.S.Store.means c.args.store.now) (g.S.Store.means c.args.store.now)
    c.args.output.now.bytes.now c.args.output.now.typed (Err c.refusal.result)
    (unknown_refuses again c.args.number c.args.token c.refusal.result m (not_known c.args.number c.args.word c.requires.coded c.requires.other c.in-Execute.is) c.refusal.ensures)
