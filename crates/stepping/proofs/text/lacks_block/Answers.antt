use Rattle.std.proofs.Common.{not, ◌∙◌, refl}
use Rattle.block_words.specs.Buffers.{holding}
use Rattle.stepping.proofs.TextEnds.{held_back, none_to_hold, lacking}
use Rattle.stepping.proofs.text.lacks_block.Goals as goal

pub returns-then-blk-ne0 : goal.returns-then-blk-ne0
returns-then-blk-ne0 c = λ i x t k s. held_back c.args.registers.now.seat.source.position.blk (not c.holds.result) c.if-blk-ne0.true ∙ lacking c.args.registers.now c.holds.result i x t k s c.holds.ensures

pub returns-else-blk-ne0 : goal.returns-else-blk-ne0
returns-else-blk-ne0 c = λ i x t k s.
    let h = holding c.args.registers.now.shared.buffer.held c.args.registers.now.seat.source.position.blk in
    none_to_hold c.args.registers.now.seat.source.position.blk (not h) c.if-blk-ne0.false ∙ lacking c.args.registers.now h i x t k s refl
