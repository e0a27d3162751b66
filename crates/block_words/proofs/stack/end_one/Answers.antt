use Rattle.std.proofs.Common.{◌-◌, refl}
use Rattle.block_words.proofs.Stacking.{closed}
use Rattle.block_words.proofs.stack.end_one.Goals as goal

pub returns : goal.returns
returns c =
    record {
      stack = closed c.args.loads.now c.at.result (c.args.loads.now.count - 1) c.requires.0 c.requires.1.0 refl c.at.ensures;
      count = refl;
      offsets = c.requires.1.1;
      caller = rw c.at.ensures (c.requires.1.1 (c.args.loads.now.count - 1));
    }
