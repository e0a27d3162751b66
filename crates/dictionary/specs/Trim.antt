-- The vocabulary chain, and FORGET: every remaining head moves down to its first entry below W.
use Rattle.std.specs.Prelude.{ℕ, zero, suc, ◌+◌, ◌-◌, ◌*◌, max, Bool, true, false, cond, ◌&&◌, ◌||◌, List, [], ◌∷◌, length, take, Some, None, Option, ◌==◌, nat_le, nat_lt}
use Rattle.image.specs.Cells.{cell_at, set_cell}
use Rattle.entries.specs.Entries.{forth, body_of}
use Rattle.entries.specs.Search.{in_order}
use Rattle.dictionary.specs.Dict.{Dict}

-- the vocabularies from the vocabulary link k down to 0, each by the address of its first head; `fuel` is more than the links can be
unfoldable pub chain : ℕ → List ℕ → ℕ → List ℕ
chain zero low k = []
chain (suc fuel) low k = cond (k == 0) [] ((k - 8) ∷ chain fuel low (cell_at low k))

abbrev pub chain_of : Dict → List ℕ
chain_of D = chain (length D.low) D.low D.voc_link

-- without those named above w
unfoldable pub left : ℕ → List ℕ → List ℕ
left w [] = []
left w (v ∷ vs) = cond (nat_lt w v) (left w vs) (v ∷ vs)

-- the vocabulary link of the youngest
unfoldable pub link_of : List ℕ → ℕ
link_of [] = 0
link_of (v ∷ vs) = v + 8

-- the first entry below w, from h down the links
unfoldable pub fall : ℕ → List ℕ → ℕ → ℕ → ℕ
fall zero low w h = h
fall (suc fuel) low w h = cond (nat_lt h w) h (fall fuel low w (cell_at low h))

-- the heads k - 1 .. 0 of the vocabulary v move down
unfoldable pub trim_voc : ℕ → ℕ → ℕ → List ℕ → List ℕ
trim_voc w v zero low = low
trim_voc w v (suc k) low =
    trim_voc w v k (set_cell low (v + 2 * k) (fall (length low) low w (cell_at low (v + 2 * k))))

unfoldable pub trim_vocs : ℕ → List ℕ → List ℕ → List ℕ
trim_vocs w [] low = low
trim_vocs w (v ∷ vs) low = trim_vocs w vs (trim_voc w v 4 low)

-- the youngest entry that a head names
unfoldable pub youngest_in : ℕ → ℕ → List ℕ → ℕ
youngest_in v zero low = 0
youngest_in v (suc k) low = max (cell_at low (v + 2 * k)) (youngest_in v k low)

unfoldable pub youngest : List ℕ → List ℕ → ℕ
youngest [] low = 0
youngest (v ∷ vs) low = max (youngest_in v 4 low) (youngest vs low)

abbrev pub trimmed : ℕ → Dict → List ℕ
trimmed w D = take (w - 2) (trim_vocs w (left w (chain_of D)) D.low)

-- the entry w and all that is younger is forgotten: DP goes back to its beginning, HERE to its first parameter cell
unfoldable pub forgotten : ℕ → Dict → Dict
forgotten w D = record {
  low = trimmed w D;
  here = body_of D.low w;
  newest = youngest (left w (chain_of D)) (trimmed w D);
  voc_link = link_of (left w (chain_of D));
  context = cond (nat_lt w D.context) forth D.context;
  current = D.current;
  opened = 0;
}

-- Before the first write: are the links to be walked in order?

-- a vocabulary link: its heads at 258 or above, below the one before (at first DP), and whole below DP
abbrev pub link_in_order : ℕ → ℕ → ℕ → Bool
link_in_order dp before k = nat_le 266 k && nat_lt k before && nat_le (k + 2) dp

unfoldable pub chain_in_order : ℕ → List ℕ → ℕ → ℕ → ℕ → Bool
chain_in_order zero low dp before k = false
chain_in_order (suc fuel) low dp before k =
    elim (k == 0) [
      | true ↦ true
      | false ↦ elim (link_in_order dp before k) [ false ↦ false | true ↦ chain_in_order fuel low dp k (cell_at low k) ]
    ]

-- the whole chain
abbrev pub is_chain : Dict → Bool
is_chain D = let dp = length D.low in chain_in_order (suc dp) D.low dp dp D.voc_link

-- an entry in order: whole below DP
abbrev pub ordered : List ℕ → ℕ → ℕ → Bool
ordered low before e = in_order low (length low) before e

-- the first entry below w from link e down, or nothing if a link on the way is out of order
unfoldable pub drops : ℕ → List ℕ → ℕ → ℕ → ℕ → Option ℕ
drops zero low w before e = None
drops (suc fuel) low w before e =
    cond (nat_lt e w) (Some e) (cond (ordered low before e) (drops fuel low w e (cell_at low e)) None)

unfoldable pub fell : List ℕ → ℕ → ℕ → Option ℕ
fell low w head = drops (suc (length low)) low w (length low) head

-- it is none, or an entry in order too
abbrev pub lands : List ℕ → Option ℕ → Bool
lands low (Some e) = e == 0 || ordered low (length low) e
lands low None = false

unfoldable pub falls_at : List ℕ → ℕ → ℕ → Bool
falls_at low w a = lands low (fell low w (cell_at low a))

-- the four heads of the vocabulary v
unfoldable pub threads : List ℕ → ℕ → ℕ → Bool
threads low w v = falls_at low w v && (falls_at low w (v + 2) && (falls_at low w (v + 4) && falls_at low w (v + 6)))

-- The vocabulary with the link k lies below the one before (at first DP). Where it is not named above w, it lies below
-- w's beginning, and its heads are in order.
unfoldable pub in_chain : List ℕ → ℕ → ℕ → ℕ → Bool
in_chain low w before k = nat_le 266 k && (nat_le (k + 2) before && (nat_lt w (k - 8) || (nat_le (k + 4) w && threads low w (k - 8))))

-- all vocabularies from the link k down
unfoldable pub chained : ℕ → List ℕ → ℕ → ℕ → ℕ → Bool
chained zero low w before k = false
chained (suc fuel) low w before k = k == 0 || (in_chain low w before k && chained fuel low w (k - 8) (cell_at low k))

-- w is in order, CURRENT lies below its beginning, CONTEXT too unless it goes, and so does the chain
unfoldable pub can_forget : ℕ → Dict → Bool
can_forget w D =
    ordered D.low (length D.low) w && (nat_le (D.current + 12) w && ((nat_lt w D.context || nat_le (D.context + 12) w)
    && chained (length D.low + 1) D.low w (length D.low) D.voc_link))

-- is the vocabulary on the chain?
abbrev pub member : ℕ → List ℕ → Bool
member x [] = false
member x (y ∷ ys) = x == y || member x ys

abbrev pub on_chain : ℕ → Dict → Bool
on_chain v D = member v (chain_of D)
