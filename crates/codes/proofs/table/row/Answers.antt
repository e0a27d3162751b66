use Rattle.std.proofs.Common.{arith}
use Rattle.codes.proofs.Numbered.{row_at}
use Rattle.codes.proofs.table.row.Goals as goal

pub returns : goal.returns
returns c = row_at c.args.number c.from.result c.args.codes.now _ (omega (arith, c.requires.0, c.told-codes)) c.from.ensures c.requires.1
