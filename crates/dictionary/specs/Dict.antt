-- The dictionary and its registers, and what changes them. A change asks nothing: the word that makes it has asked before.
use Rattle.std.specs.Prelude.{ℕ, ◌+◌, ◌-◌, ◌%◌, cond, List, [], ◌++◌, length, take, ◌==◌, nat_lt, slice_set}
use Rattle.image.specs.Cells.{at, cell_at, cell, set_cell, zeros}
use Rattle.entries.specs.Entries.{head_at, entry_bytes, first_at, count_byte}

-- `low` holds the bytes up to DP; those below 256 are 0 in it. `opened` is the entry that `:` began, or 0.
pub record Dict : Type 0 where
  pub low : List ℕ
  pub here : ℕ
  pub newest : ℕ
  pub voc_link : ℕ
  pub context : ℕ
  pub current : ℕ
  pub opened : ℕ

abbrev pub dp : Dict → ℕ
dp D = length D.low

-- one part replaced

abbrev pub with_low : List ℕ → Dict → Dict
with_low low D = record { low = low; here = D.here; newest = D.newest; voc_link = D.voc_link; context = D.context; current = D.current; opened = D.opened }

abbrev pub with_newest : ℕ → Dict → Dict
with_newest e D = record { low = D.low; here = D.here; newest = e; voc_link = D.voc_link; context = D.context; current = D.current; opened = D.opened }

abbrev pub with_voc_link : ℕ → Dict → Dict
with_voc_link k D = record { low = D.low; here = D.here; newest = D.newest; voc_link = k; context = D.context; current = D.current; opened = D.opened }

abbrev pub with_context : ℕ → Dict → Dict
with_context v D = record { low = D.low; here = D.here; newest = D.newest; voc_link = D.voc_link; context = v; current = D.current; opened = D.opened }

abbrev pub with_current : ℕ → Dict → Dict
with_current v D = record { low = D.low; here = D.here; newest = D.newest; voc_link = D.voc_link; context = D.context; current = v; opened = D.opened }

abbrev pub with_opened : ℕ → Dict → Dict
with_opened e D = record { low = D.low; here = D.here; newest = D.newest; voc_link = D.voc_link; context = D.context; current = D.current; opened = e }

-- the entry that begins next
abbrev pub next_entry : Dict → ℕ
next_entry D = dp D + 2

-- the head of CURRENT for a name that begins so
abbrev pub thread_of : ℕ → Dict → ℕ
thread_of first D = head_at D.current first

-- an entry begins: its bytes are appended, its link names the youngest of its thread
abbrev pub begun : ℕ → ℕ → List ℕ → ℕ → List ℕ → Dict → Dict
begun view flags name code rest D =
    with_low
    (D.low ++ entry_bytes view (cell_at D.low (thread_of (at name 0) D)) (count_byte flags name) name code D.here rest) D

-- an entry joins: it becomes the youngest of its thread, and the newest of all
abbrev pub joined : ℕ → ℕ → Dict → Dict
joined first e D = with_newest e (with_low (set_cell D.low (thread_of first D) e) D)

-- `:` leaves the entry open, and searches CURRENT first
abbrev pub colon_begun : ℕ → List ℕ → Dict → Dict
colon_begun view name D = with_opened (next_entry D) (with_context D.current (begun view 0 name 201 [] D))

-- `;` joins it
abbrev pub open_joined : Dict → Dict
open_joined D = with_opened 0 (joined (at D.low (D.opened + 3)) D.opened D)

-- all others join at once
abbrev pub defined : ℕ → ℕ → List ℕ → ℕ → List ℕ → Dict → Dict
defined view flags name code rest D = joined (at name 0) (next_entry D) (begun view flags name code rest D)

-- a vocabulary: four heads of 0 and a vocabulary link, which VOC-LINK then names
abbrev pub vocabulary_defined : ℕ → List ℕ → Dict → Dict
vocabulary_defined view name D =
    let B = begun view 0 name 204 (zeros 8 ++ cell D.voc_link) D in
    with_voc_link (dp B - 2) (joined (at name 0) (next_entry D) B)

-- the open definition grows
abbrev pub appended : List ℕ → Dict → Dict
appended bytes D = with_low (D.low ++ bytes) D

-- a branch cell learns its address
abbrev pub patched : ℕ → ℕ → Dict → Dict
patched a x D = with_low (set_cell D.low a x) D

-- the newest entry becomes immediate
abbrev pub marked : ℕ → ℕ
marked count = cond (nat_lt (count % 128) 64) (count + 64) count

abbrev pub immediate_marked : Dict → Dict
immediate_marked D = with_low (slice_set D.low (D.newest + 2) (marked (at D.low (D.newest + 2)))) D

-- the newest entry, a created word, gets code 205 and the address of its DOES> code in its extra cell
abbrev pub does_set : ℕ → Dict → Dict
does_set x D =
    let first = first_at D.low D.newest in
    with_low (set_cell (set_cell D.low (first - 2) 205) (first + 2) x) D

-- the open entry, if any, is given up: DP goes back to its beginning
abbrev pub given_up : Dict → Dict
given_up D = with_opened 0 (with_low (cond (D.opened == 0) D.low (take (D.opened - 2) D.low)) D)
