use Rattle.std.proofs.Common.{◌+◌, arith}
use Rattle.entries.proofs.Reading.{seen_at}
use Rattle.entries.proofs.entry.Entries.count.Goals as goal

pub bounds-self-inside-from : goal.bounds-self-inside-from
bounds-self-inside-from c =
    let s = seen_at c.self.inside.dp c.self.inside.image.now c.args.self.now (c.args.entry + 2) c.self.view_is (omega arith) (omega arith) in
    omega (arith, c.from.ensures)
