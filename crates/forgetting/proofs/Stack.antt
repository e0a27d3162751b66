-- A dictionary as a stack of joined entries over what boot left.
use Rattle.std.proofs.Common.{◌≡◌, ℕ, ◌+◌, ◌-◌, ◌*◌, ◌%◌, ◌<◌, ◌≤◌, Bool, true, false, cond, ◌⊎◌, List, [], ◌∷◌, ◌++◌, length, replicate}
use Rattle.image.specs.Cells.{cell_at, set_cell, cell, Bytes}
pub use Rattle.entries.specs.Threads.{Walk, stop, next}
use Rattle.forgetting.proofs.Raw.{link_of, youngest, first_at}

-- an entry by its parts; `is_voc` if four heads and a vocabulary link end it
pub record Entry : Type 0 where
  pub voc : ℕ
  pub thread : ℕ
  pub view : ℕ
  pub count : ℕ
  pub name : List ℕ
  pub code : ℕ
  pub body : ℕ
  pub rest : List ℕ
  pub is_voc : Bool

-- dictionary bytes from 0 up to DP, and the vocabularies, youngest first
pub record Image : Type 0 where
  pub low : List ℕ
  pub vocs : List ℕ

abbrev pub spot : Entry → ℕ
spot e = e.voc + 2 * e.thread

unfoldable pub tail_of : Bool → ℕ → List ℕ
tail_of true k = replicate 8 0 ++ cell k
tail_of false k = []

-- the bytes of an entry
unfoldable pub frame : Entry → ℕ → ℕ → List ℕ
frame e l k =
    cell e.view ++ (cell l ++ (e.count ∷ (e.name ++ (cell e.code ++ (cell e.body ++ (e.rest ++ tail_of e.is_voc k))))))

-- the entry begun at the end of the image
unfoldable pub framed : Entry → Image → List ℕ
framed e I = frame e (cell_at I.low (spot e)) (link_of I.vocs)

-- and joined to its thread
unfoldable pub grow : Entry → Image → Image
grow e I = record {
  low = set_cell I.low (spot e) (length I.low + 2) ++ framed e I;
  vocs = cond e.is_voc ((length I.low + 9 + length e.name + length e.rest) ∷ I.vocs) I.vocs;
}

-- the joined entries, youngest first, over what boot left
pub data Stack : Type 0 where
  base : Image → Stack
  push : Entry → Stack → Stack

unfoldable pub image : Stack → Image
image (base I) = I
image (push e m) = grow e (image m)

abbrev pub Mem : ℕ → List ℕ → Type 0
Mem v [] = ⊥
Mem v (x ∷ xs) = (v ≡ x) ⊎ Mem v xs

pub record Booted (I : Image) : Type 0 where
  pub vocs_are : I.vocs ≡ 270 ∷ []
  pub ends : cell_at I.low 278 ≡ 0
  pub long : 280 ≤ length I.low
  pub room : length I.low ≤ 32768
  pub heads : (k : ℕ) → k < 4 → cell_at I.low (270 + 2 * k) < length I.low
  pub whole : Bytes I.low
  pub newest_from : 280 ≤ youngest I.vocs I.low
  pub newest_to : youngest I.vocs I.low + 3 ≤ length I.low
  pub kernel : (cell_at I.low (first_at I.low (youngest I.vocs I.low) - 2) < 202)

pub record Fits (e : Entry) (I : Image) : Type 0 where
  pub voc_in : Mem e.voc I.vocs
  pub thread_lt : e.thread < 4
  pub counted : e.count % 32 ≡ length e.name
  pub room : length (grow e I).low ≤ 32768
  pub whole : Bytes (framed e I)
  pub extra : (e.code ≡ 202) ⊎ (e.code ≡ 205) → (2 ≤ length e.rest) × (e.is_voc ≡ false)

abbrev pub Good : Stack → Type 0
Good (base I) = Booted I
Good (push e m) = Fits e (image m) × Good m

-- the stack s stands under m
pub data Under (s : Stack) : Stack → Type 0 where
  here : Under s s
  there : {e : Entry} {m : Stack} → Under s m → Under s (push e m)

-- where boot ended
unfoldable pub fence : Stack → ℕ
fence (base I) = length I.low
fence (push e m) = fence m

-- the youngest joined entry
unfoldable pub newest_of : Stack → ℕ
newest_of (base I) = youngest I.vocs I.low
newest_of (push e m) = length (image m).low + 2
