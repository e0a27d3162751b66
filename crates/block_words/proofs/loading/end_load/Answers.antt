use Rattle.std.proofs.Common.{refl}
use Rattle.block_words.proofs.Opening.{ended_none, ended_one}
use Rattle.block_words.proofs.loading.end_load.Goals as goal

pub returns-then-registers-eq0 : goal.returns-then-registers-eq0
returns-then-registers-eq0 c = (ended_none c.args.registers.now c.if-registers-eq0.true, refl)

pub returns : goal.returns
returns c = ended_one c.args.registers.now c.end_one-registers.new.loads c.end_one-registers.result c.end_one-registers.ensures.stack
