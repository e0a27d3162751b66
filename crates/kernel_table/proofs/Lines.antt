-- The lines typed after boot, by computation.
use mathlib.Core.Path.{refl}
use Rattle.definition.specs.Computes.{machine_computes}
use Rattle.kernel_table.specs.Lines.{LinesStand, seen_on}

pub lines_stand : LinesStand
unfolding machine_computes seen_on
lines_stand = refl
