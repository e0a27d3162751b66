-- What a step may do to a dictionary, in the parts that a stack is made of.
use Rattle.std.proofs.Common.{◌≡◌, ℕ, ◌+◌, ◌-◌, ◌*◌, ◌%◌, ◌<◌, ◌≤◌, Bool, false, cond, eqb, ltb, ◌≢◌, ◌⊎◌, List, [], ◌++◌, length, take, set}
use Rattle.image.specs.Cells.{at, cell_at, set_cell, Bytes}
use Rattle.forgetting.proofs.Raw.{trim_vocs, left, link_of, first_at, youngest}
pub use Rattle.dictionary.specs.Dict.{Dict}
pub use Rattle.dictionary.specs.Trim.{chain_of}
use Rattle.forgetting.proofs.Stack.{Entry, spot, frame, Mem, Walk}

-- what a step may do to the dictionary
pub data Move : Type 0 where
  colon : (view count : ℕ) (name : List ℕ) → Move
  make : (view count : ℕ) (name : List ℕ) (code : ℕ) (rest : List ℕ) (is_voc : Bool) (more : ℕ) → Move
  append : List ℕ → Move
  patch : (a x : ℕ) → Move
  semi : Move
  immediate : Move
  does : ℕ → Move
  allot : ℕ → Move
  seek : ℕ → Move
  definitions : Move
  forget : ℕ → Move
  give_up : Move

abbrev pub entry_of : Dict → ℕ → ℕ → List ℕ → ℕ → List ℕ → Bool → Entry
entry_of D view count name code rest is_voc = record {
  voc = D.current;
  thread = at name 0 % 4;
  view = view;
  count = count;
  name = name;
  code = code;
  body = D.here;
  rest = rest;
  is_voc = is_voc;
}

-- the bytes with the entry begun
abbrev pub begun : Entry → Dict → List ℕ
begun e D = D.low ++ frame e (cell_at D.low (spot e)) D.voc_link

abbrev pub marked : ℕ → ℕ
marked c = cond (ltb (c % 128) 64) (c + 64) c

abbrev pub trimmed : ℕ → Dict → List ℕ
trimmed w D = take (w - 2) (trim_vocs w (left w (chain_of D)) D.low)

unfoldable pub apply : Move → Dict → Dict
apply (colon view count name) D = record {
  low = begun (entry_of D view count name 201 [] false) D;
  here = D.here;
  voc_link = D.voc_link;
  newest = D.newest;
  context = D.current;
  current = D.current;
  opened = length D.low + 2;
}
apply (make view count name code rest is_voc more) D =
    let e = entry_of D view count name code rest is_voc in record {
      low = set_cell (begun e D) (spot e) (length D.low + 2);
      here = D.here + more;
      voc_link = cond is_voc (length (begun e D) - 2) D.voc_link;
      newest = length D.low + 2;
      context = D.context;
      current = D.current;
      opened = D.opened;
    }
apply (append bs) D = record {
  low = D.low ++ bs;
  here = D.here;
  voc_link = D.voc_link;
  newest = D.newest;
  context = D.context;
  current = D.current;
  opened = D.opened;
}
apply (patch a x) D = record {
  low = set_cell D.low a x;
  here = D.here;
  voc_link = D.voc_link;
  newest = D.newest;
  context = D.context;
  current = D.current;
  opened = D.opened;
}
apply semi D = record {
  low = set_cell D.low (D.current + 2 * (at D.low (D.opened + 3) % 4)) D.opened;
  here = D.here;
  voc_link = D.voc_link;
  newest = D.opened;
  context = D.context;
  current = D.current;
  opened = 0;
}
apply immediate D = record {
  low = set D.low (D.newest + 2) (marked (at D.low (D.newest + 2)));
  here = D.here;
  voc_link = D.voc_link;
  newest = D.newest;
  context = D.context;
  current = D.current;
  opened = D.opened;
}
apply (does x) D = record {
  low = set_cell (set_cell D.low (first_at D.low D.newest - 2) 205) (first_at D.low D.newest + 2) x;
  here = D.here;
  voc_link = D.voc_link;
  newest = D.newest;
  context = D.context;
  current = D.current;
  opened = D.opened;
}
apply (allot h) D = record {
  low = D.low;
  here = h;
  voc_link = D.voc_link;
  newest = D.newest;
  context = D.context;
  current = D.current;
  opened = D.opened;
}
apply (seek v) D = record {
  low = D.low;
  here = D.here;
  voc_link = D.voc_link;
  newest = D.newest;
  context = v;
  current = D.current;
  opened = D.opened;
}
apply definitions D = record {
  low = D.low;
  here = D.here;
  voc_link = D.voc_link;
  newest = D.newest;
  context = D.context;
  current = D.context;
  opened = D.opened;
}
apply (forget w) D = record {
  low = trimmed w D;
  here = cell_at D.low (first_at D.low w);
  voc_link = link_of (left w (chain_of D));
  newest = youngest (left w (chain_of D)) (trimmed w D);
  context = cond (ltb w D.context) 270 D.context;
  current = D.current;
  opened = 0;
}
apply give_up D = record {
  low = cond (eqb D.opened 0) D.low (take (D.opened - 2) D.low);
  here = D.here;
  voc_link = D.voc_link;
  newest = D.newest;
  context = D.context;
  current = D.current;
  opened = 0;
}

-- the same facts that the questions have answered before the step does it
pub record Begins (e : Entry) (D : Dict) : Type 0 where
  pub shut : D.opened ≡ 0
  pub counted : e.count % 32 ≡ length e.name
  pub named : 1 ≤ length e.name
  pub room : length (begun e D) ≤ 32768
  pub whole : Bytes (frame e (cell_at D.low (spot e)) D.voc_link)
  pub extra : (e.code ≡ 202) ⊎ (e.code ≡ 205) → (2 ≤ length e.rest) × (e.is_voc ≡ false)

pub record Appends (bs : List ℕ) (D : Dict) : Type 0 where
  pub is_open : D.opened ≢ 0
  pub room : length D.low + length bs ≤ 32768
  pub whole : Bytes bs

pub record Patches (a x : ℕ) (D : Dict) : Type 0 where
  pub is_open : D.opened ≢ 0
  pub above : first_at D.low D.opened + 2 ≤ a
  pub below : a + 2 ≤ length D.low
  pub value : x < 65536

pub record Doing (x : ℕ) (D : Dict) : Type 0 where
  pub shut : D.opened ≡ 0
  pub code : (cell_at D.low (first_at D.low D.newest - 2) ≡ 202) ⊎ (cell_at D.low (first_at D.low D.newest - 2) ≡ 205)
  pub value : x < 65536

pub record Finds (fence w : ℕ) (D : Dict) : Type 0 where
  pub shut : D.opened ≡ 0
  pub thread : ℕ
  pub thread_lt : thread < 4
  pub walk : Walk D.low (cell_at D.low (D.current + 2 * thread)) w
  pub high : fence ≤ w

abbrev pub Allowed : ℕ → Move → Dict → Type 0
Allowed fence (colon view count name) D = Begins (entry_of D view count name 201 [] false) D
Allowed fence (make view count name code rest is_voc more) D = Begins (entry_of D view count name code rest is_voc) D
Allowed fence (append bs) D = Appends bs D
Allowed fence (patch a x) D = Patches a x D
Allowed fence semi D = D.opened ≢ 0
Allowed fence immediate D = D.opened ≡ 0
Allowed fence (does x) D = Doing x D
Allowed fence (allot h) D = D.opened ≡ 0
Allowed fence (seek v) D = Mem v (chain_of D)
Allowed fence definitions D = D.opened ≡ 0
Allowed fence (forget w) D = Finds fence w D
Allowed fence give_up D = Unit {0}

-- the word at w no longer stands after the move
abbrev pub Ends : Move → ℕ → Dict → Type 0
Ends (forget y) w D = y ≤ w
Ends give_up w D = D.opened ≡ w
Ends (colon view count name) w D = ⊥
Ends (make view count name code rest is_voc more) w D = ⊥
Ends (append bs) w D = ⊥
Ends (patch a x) w D = ⊥
Ends semi w D = ⊥
Ends immediate w D = ⊥
Ends (does x) w D = ⊥
Ends (allot h) w D = ⊥
Ends (seek v) w D = ⊥
Ends definitions w D = ⊥
