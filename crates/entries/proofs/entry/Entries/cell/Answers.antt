use Rattle.std.proofs.Common.{arith}
use Rattle.entries.proofs.Reading.{cell_within}
use Rattle.entries.proofs.entry.Entries.cell.Goals as goal

pub fetch-requires : goal.fetch-requires
fetch-requires c =
    let w = cell_within c.self.inside.dp c.self.inside.image.now c.args.self.now c.args.a c.self.view_is (omega arith) (omega arith) in
    omega (arith, c.from.ensures)
