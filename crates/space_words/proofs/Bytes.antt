-- The bytes of a cell, as the library gives them.
use Rattle.std.proofs.Common.{◌≡◌, ℕ, ◌/◌, ◌%◌, ◌<◌, arith, w16}
use Rattle.std.specs.Int.{to_le_bytes}
use Rattle.image.specs.Cells.{cell}

pub low_bytes : (x : ℕ) → x < 65536 → to_le_bytes w16 x ≡ cell x
unfolding cell
low_bytes x h =
    let e : x / 256 % 256 ≡ x / 256 = omega arith in
    rw e
