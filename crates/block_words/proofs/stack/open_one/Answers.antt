use Rattle.std.proofs.Common.{◌+◌, ap}
use Rattle.block_words.proofs.Stacking.{opened, opened_offsets}
use Rattle.block_words.proofs.stack.open_one.Goals as goal

pub returns : goal.returns
returns c =
    record {
      stack = opened c.args.loads.now c.put.new.loads c.args.caller c.requires.0 c.put.ensures.places c.put.ensures.count;
      count = ap (λ y. y + 1) c.put.ensures.count;
      offsets = opened_offsets c.args.loads.now c.put.new.loads c.args.caller c.requires.0 c.put.ensures.places c.put.ensures.count c.requires.1.0 c.requires.1.1;
    }
