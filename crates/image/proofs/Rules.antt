-- The laws that carry the views through reads and writes, for `grind (arith, views)`.
use Rattle.image.proofs.Overwriting.{length-overwritten}
use Rattle.image.proofs.Laws.{length_low, length_high, get_or_low, get_or_high, cell_low, cell_high, low_kept, low_within, low_grown, low_above, high_kept, high_within, high_grown, high_above, line_kept, line_written}
use Rattle.image.proofs.Moving.{length_moved, low_moved, high_moved, line_moved}

pub ruleset views = (length-overwritten, length_moved, length_low, length_high, get_or_low, get_or_high, cell_low, cell_high, low_kept, low_within, low_grown, low_above, low_moved, high_kept, high_within, high_grown, high_above, high_moved, line_kept, line_written, line_moved)
