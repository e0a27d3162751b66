use Rattle.kernel_table.proofs.Lines.{lines_stand}
use Rattle.kernel_table.proofs.example_lines.typed_lines.Goals as goal

pub returns : goal.returns
returns c = record { count = c.how_many.ensures; stand = lines_stand }
