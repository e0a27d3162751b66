use Rattle.std.proofs.Common.{arith}
use Rattle.image.specs.Views.{low_of}
use Rattle.entries.proofs.Walks.{first_above}
use Rattle.trimming.proofs.forgetting.body_of.Goals as goal

pub first_parameter-requires : goal.first_parameter-requires
first_parameter-requires c =
    let f = first_above (low_of c.args.d.now.ends.dp c.args.image.now) c.args.w in
    (omega arith, (omega (arith, c.entries-entries.ensures.size), omega (arith, c.entries-entries.ensures.size)))
