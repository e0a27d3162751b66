-- What a step may do to the dictionary, and when: the facts that the questions before it have answered.
use Rattle.std.specs.Prelude.{◌≡◌, ℕ, ◌+◌, ◌-◌, ◌*◌, ◌<◌, ◌≤◌, ◌≢◌, ◌⊎◌, List, [], ◌∷◌, ◌++◌, length}
use Rattle.image.specs.Cells.{at, cell_at, cell, zeros, Bytes}
use Rattle.entries.specs.Entries.{entry_bytes, count_byte, first_at}
use Rattle.entries.specs.Threads.{Walk}
use Rattle.dictionary.specs.Dict.{Dict, dp, thread_of, begun, colon_begun, defined, vocabulary_defined, appended, patched, open_joined, immediate_marked, does_set, given_up, with_context, with_current}
use Rattle.dictionary.specs.Trim.{chain_of, forgotten}

-- names are given as an entry holds them
pub data Change : Type 0 where
  colon : (view : ℕ) (name : List ℕ) → Change
  define : (view : ℕ) (name : List ℕ) (code : ℕ) (rest : List ℕ) → Change
  vocabulary : (view : ℕ) (name : List ℕ) → Change
  append : List ℕ → Change
  patch : (a x : ℕ) → Change
  semicolon : Change
  immediate : Change
  does : ℕ → Change
  allot : ℕ → Change
  seek : ℕ → Change
  definitions : Change
  forget : ℕ → Change
  give_up : Change

abbrev pub with_here : ℕ → Dict → Dict
with_here h D = record { low = D.low; here = h; newest = D.newest; voc_link = D.voc_link; context = D.context; current = D.current; opened = D.opened }

unfoldable pub changed : Change → Dict → Dict
changed (colon view name) D = colon_begun view name D
changed (define view name code rest) D = defined view 0 name code rest D
changed (vocabulary view name) D = vocabulary_defined view name D
changed (append bytes) D = appended bytes D
changed (patch a x) D = patched a x D
changed semicolon D = open_joined D
changed immediate D = immediate_marked D
changed (does x) D = does_set x D
changed (allot h) D = with_here h D
changed (seek v) D = with_context v D
changed definitions D = with_current D.context D
changed (forget w) D = forgotten w D
changed give_up D = given_up D

-- an entry may begin: none is open, its name is 1 to 31 bytes, it has space, and its bytes are bytes
pub record Begins (view : ℕ) (name : List ℕ) (code : ℕ) (rest : List ℕ) (D : Dict) : Type 0 where
  pub shut : D.opened ≡ 0
  pub named : 1 ≤ length name
  pub short : length name ≤ 31
  pub room : dp (begun view 0 name code rest D) ≤ 32768
  pub bytes : Bytes (entry_bytes view (cell_at D.low (thread_of (at name 0) D)) (count_byte 0 name) name code D.here rest)

-- a created word has its extra cell
abbrev Created : ℕ → List ℕ → Type 0
Created code rest = (code ≡ 202) ⊎ (code ≡ 205) → 2 ≤ length rest

pub record Appends (bytes : List ℕ) (D : Dict) : Type 0 where
  pub is_open : D.opened ≢ 0
  pub room : dp D + length bytes ≤ 32768
  pub whole : Bytes bytes

-- only cells of the open entry behind its first parameter cell are patched
pub record Patches (a x : ℕ) (D : Dict) : Type 0 where
  pub is_open : D.opened ≢ 0
  pub above : first_at D.low D.opened + 2 ≤ a
  pub below : a + 2 ≤ dp D
  pub value : x < 65536

-- the newest entry is a created word
pub record SetsDoes (x : ℕ) (D : Dict) : Type 0 where
  pub shut : D.opened ≡ 0
  pub code : (cell_at D.low (first_at D.low D.newest - 2) ≡ 202) ⊎ (cell_at D.low (first_at D.low D.newest - 2) ≡ 205)
  pub value : x < 65536

-- w is found in a thread of CURRENT, and is not the kernel's
pub record Finds (fence w : ℕ) (D : Dict) : Type 0 where
  pub shut : D.opened ≡ 0
  pub thread : ℕ
  pub thread_lt : thread < 4
  pub walk : Walk D.low (cell_at D.low (D.current + 2 * thread)) w
  pub high : fence ≤ w

abbrev pub OnChain : ℕ → List ℕ → Type 0
OnChain v [] = ⊥
OnChain v (x ∷ xs) = (v ≡ x) ⊎ OnChain v xs

abbrev pub Allowed : ℕ → Change → Dict → Type 0
Allowed fence (colon view name) D = Begins view name 201 [] D
Allowed fence (define view name code rest) D = Begins view name code rest D × Created code rest
Allowed fence (vocabulary view name) D = Begins view name 204 (zeros 8 ++ cell D.voc_link) D
Allowed fence (append bytes) D = Appends bytes D
Allowed fence (patch a x) D = Patches a x D
Allowed fence semicolon D = D.opened ≢ 0
Allowed fence immediate D = D.opened ≡ 0
Allowed fence (does x) D = SetsDoes x D
Allowed fence (allot h) D = D.opened ≡ 0
Allowed fence (seek v) D = OnChain v (chain_of D)
Allowed fence definitions D = D.opened ≡ 0
Allowed fence (forget w) D = Finds fence w D
Allowed fence give_up D = Unit {0}
