use Rattle.std.proofs.Common.{refl}
use Rattle.block_words.proofs.loading.open_block.Goals as goal

pub returns : goal.returns
returns c = record { shared = refl; seat = refl; loads = c.open_one.ensures.stack }
