-- Where ALLOT may take HERE.
use Rattle.std.specs.Prelude.{ℕ, ◌+◌, ◌-◌, max, Bool, ◌&&◌, List, length, nat_le, if◌then◌else◌}
use Rattle.dictionary.specs.Trim.{ordered}
use Rattle.entries.specs.Entries.{body_of}
use Rattle.numbers.specs.Cells.{is_negative, magnitude}

-- HERE moved by a signed count
abbrev pub moved_by : ℕ → ℕ → ℕ
moved_by here n = if is_negative n then here - magnitude n else here + n

-- not below 34,048, nor below the first parameter cell of the newest entry e where that lies whole in the dictionary
abbrev pub lowest_of : List ℕ → ℕ → ℕ
lowest_of low e = if ordered low (length low) e then max 34048 (body_of low e) else 34048

abbrev pub allowed : ℕ → ℕ → Bool
allowed lowest end = nat_le lowest end && nat_le end 65535
