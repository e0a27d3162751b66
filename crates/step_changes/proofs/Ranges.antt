-- Lists of bytes and of cells.
use Rattle.std.proofs.Common.{◌≡◌, ℕ, zero, suc, ◌+◌, ◌/◌, ◌%◌, ◌<◌, ◌≤◌, ◌⊎◌, List, [], ◌∷◌, length, get_or, take, drop, set, replicate, refl, inl, inr, arith}
use Rattle.std.specs.List.{AllByRecursion}
use Rattle.std.proofs.lemmas.List.{get_or-drop, length-take, length-drop, length-append}
use Rattle.image.specs.Cells.{cell, cell_at, Bytes}
use Rattle.image.specs.Writes.{overwritten}
use Rattle.forgetting.proofs.Trims.{append-bytes}

-- what holds of every element and of the default holds of what is read
pub all_or : {X : Type 0} (P : X → Type 0) (xs : List X) (k : ℕ) (d : X) → P d → AllByRecursion P xs → P (get_or xs k d)
all_or P [] k d p a = p
all_or P (x ∷ xs) zero d p a = a.0
all_or P (x ∷ xs) (suc k) d p a = all_or P xs k d p a.1

pub bytes_none : Bytes []
bytes_none a = omega arith

pub bytes_more : (b : ℕ) (bs : List ℕ) → b < 256 → Bytes bs → Bytes (b ∷ bs)
bytes_more b bs h k zero = h
bytes_more b bs h k (suc a) = k a

pub bytes_behind : (b : ℕ) (bs : List ℕ) → Bytes (b ∷ bs) → Bytes bs
bytes_behind b bs k a = k (suc a)

pub bytes_cell : (x : ℕ) → x < 65536 → Bytes (cell x)
unfolding cell
bytes_cell x h = bytes_more (x % 256) (x / 256 ∷ []) (omega arith) (bytes_more (x / 256) [] (omega arith) bytes_none)

pub bytes_take : (n : ℕ) (bs : List ℕ) → Bytes bs → Bytes (take n bs)
bytes_take zero bs h a = omega arith
bytes_take (suc n) [] h a = omega arith
bytes_take (suc n) (b ∷ bs) h zero = h zero
bytes_take (suc n) (b ∷ bs) h (suc a) = bytes_take n bs (bytes_behind b bs h) a

pub bytes_drop : (n : ℕ) (bs : List ℕ) → Bytes bs → Bytes (drop n bs)
bytes_drop n bs h a = rw (get_or-drop n bs a 0) (h (n + a))

pub bytes_replicate : (n b : ℕ) → b < 256 → Bytes (replicate n b)
bytes_replicate zero b h a = omega arith
bytes_replicate (suc n) b h zero = h
bytes_replicate (suc n) b h (suc a) = bytes_replicate n b h a

pub cell_below : (bs : List ℕ) (a : ℕ) → Bytes bs → cell_at bs a < 65536
unfolding cell_at
cell_below bs a h = omega (arith, h a, h (a + 1))

pub length-cell : (x : ℕ) → length (cell x) ≡ 2
unfolding cell
length-cell x = refl

-- bytes replaced
module _ (n : ℕ) (new xs : List ℕ) where
  pub length_put : (length new ≡ 0) ⊎ (n + length new ≤ length xs) → length (overwritten n new xs) ≡ length xs
  unfolding overwritten
  length_put (inl h) = simp (length-append, length-take, length-drop) (omega arith)
  length_put (inr h) = simp (length-append, length-take, length-drop) (omega arith)

  pub bytes_put : Bytes new → Bytes xs → Bytes (overwritten n new xs)
  unfolding overwritten
  bytes_put p q = append-bytes _ _ (bytes_take n xs q) (append-bytes _ _ p (bytes_drop (n + length new) xs q))

pub bytes_set : (xs : List ℕ) (i b : ℕ) → b < 256 → Bytes xs → Bytes (set xs i b)
bytes_set [] i b h k a = omega arith
bytes_set (x ∷ xs) zero b h k zero = h
bytes_set (x ∷ xs) zero b h k (suc a) = k (suc a)
bytes_set (x ∷ xs) (suc i) b h k zero = k zero
bytes_set (x ∷ xs) (suc i) b h k (suc a) = bytes_set xs i b h (bytes_behind x xs k) a
