-- What a search answers, told as a relation on the links of a thread.
use Rattle.std.specs.Prelude.{◌≡◌, ℕ, ◌+◌, ◌<◌, ◌≤◌, true, false, cond, ◌≢◌, List, [], ◌∷◌, length, Some, None, Ok, Err, Option, Result, ◌==◌, slice_index}
use Rattle.fault.specs.declared.Fault.{Fault}
use Rattle.fault.specs.declared.Place.{Place}
use Rattle.fault.specs.declared.Reason.TheVariants.{BrokenLink}
use Rattle.fault.specs.Numbers.{fault_of}
use Rattle.image.specs.Cells.{cell_at}
use Rattle.entries.specs.Entries.{first_at, is_named}
use Rattle.entries.specs.Search.{Found, missing, broken, hit, in_order}

-- a name as text: bytes below 128
abbrev pub Ascii : List ℕ → Type 0
Ascii name = (i : ℕ) → slice_index name i < 128

-- from the entry h down the links to y, each link below the entry that holds it
pub data Walk (low : List ℕ) : ℕ → ℕ → Type 0 where
  stop : {h : ℕ} → Walk low h h
  next : {h y : ℕ} → cell_at low h < h → Walk low (cell_at low h) y → Walk low h y

-- the entry y lies whole in the dictionary, and its link below it
pub record Sound (low : List ℕ) (y : ℕ) : Type 0 where
  pub above : 258 ≤ y
  pub whole : first_at low y + 2 ≤ length low
  pub descends : cell_at low y < y

-- What is found in the thread from h down: the youngest entry of that name; nothing, if the thread ends without one;
-- a link out of order only where an entry of the thread is not sound.
abbrev pub Youngest : List ℕ → List ℕ → ℕ → Found → Type 0
Youngest low name h (hit x) = Walk low h x × (is_named low x name ≡ true) × ((y : ℕ) → Walk low h y → x < y → is_named low y name ≡ false)
Youngest low name h missing = Walk low h 0 × ((y : ℕ) → Walk low h y → 0 < y → is_named low y name ≡ false)
Youngest low name h broken = (y : ℕ) × Walk low h y × (y ≢ 0) × ¬ Sound low y

-- the four heads of a vocabulary
abbrev pub heads_of : List ℕ → ℕ → List ℕ
heads_of low voc = cell_at low voc ∷ cell_at low (voc + 2) ∷ cell_at low (voc + 4) ∷ cell_at low (voc + 6) ∷ []

-- as an answer: an entry, nothing, or the refusal of a link out of order at the place told
abbrev pub answered : Place → Found → Result (Option ℕ) Fault
answered told missing = Ok None
answered told broken = Err (fault_of BrokenLink told)
answered told (hit e) = Ok (Some e)

-- the answer is of what is found in the thread from h down
abbrev pub FindsYoungest : Place → List ℕ → List ℕ → ℕ → Result (Option ℕ) Fault → Type 0
FindsYoungest told low name h r = (f : Found) × (r ≡ answered told f) × Youngest low name h f

-- the entry e lies at 258 or above, below the one before, and whole in the dictionary
pub record IsInOrder (low : List ℕ) (before e : ℕ) : Type 0 where
  pub above : 258 ≤ e
  pub below : e < before
  pub header : e + 7 ≤ length low
  pub whole : first_at low e + 2 ≤ length low

-- what a link names, where `before` holds it: an entry in order, or at the thread's end nothing
abbrev pub linked : List ℕ → ℕ → ℕ → ℕ → Found
linked low dp before e = cond (e == 0) missing (cond (in_order low dp before e) (hit e) broken)
