-- Parts of a change: an entry up to its code cell, and the thread it joins by its number.
use Rattle.std.specs.Prelude.{ℕ, ◌+◌, ◌*◌, List, ◌∷◌, ◌++◌}
use Rattle.image.specs.Cells.{at, cell_at, cell, set_cell}
use Rattle.entries.specs.Entries.{count_byte}
use Rattle.dictionary.specs.Dict.{Dict, appended, thread_of, with_low, with_newest}

-- view, link, count byte, name, code
abbrev pub headed_by : ℕ → ℕ → List ℕ → ℕ → Dict → Dict
headed_by view flags name code D =
    appended (cell view ++ (cell (cell_at D.low (thread_of (at name 0) D)) ++ (count_byte flags name ∷ (name ++ cell code)))) D

-- the head of that thread of CURRENT names e, and e is the newest
abbrev pub head_joined : ℕ → ℕ → Dict → Dict
head_joined thread e D = with_newest e (with_low (set_cell D.low (D.current + 2 * thread) e) D)
