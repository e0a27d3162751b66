-- The dictionary that boot leaves is one that the law starts from.
use Rattle.std.proofs.Common.{◌≡◌, ℕ, zero, suc, ◌+◌, ◌-◌, ◌*◌, ◌<◌, Bool, true, ◌&&◌, ltb, leb, List, [], ◌∷◌, length, refl, arith}
use Rattle.std.proofs.lemmas.Bool.{ltb-true, leb-true, and_parts}
use Rattle.image.specs.Cells.{cell_at, cell, set_cell, Bytes}
use Rattle.forgetting.proofs.Raw.{youngest, youngest_in, first_at, link_of}
use Rattle.forgetting.proofs.Stack.{Booted}
use Rattle.forgetting.proofs.Story.{Boots}
use Rattle.entries.specs.Entries.{entry_bytes}
use Rattle.kernel.specs.Table.{kernel}
use Rattle.kernel.specs.Boot.{boot_dict, with_kernel, forth_alone}

abbrev all_bytes : List ℕ → Bool
all_bytes [] = true
all_bytes (b ∷ bs) = ltb b 256 && all_bytes bs

pub all_bytes_lem : (l : List ℕ) → all_bytes l ≡ true → Bytes l
all_bytes_lem [] h a = omega arith
all_bytes_lem (b ∷ bs) h zero = ltb-true b 256 (and_parts (ltb b 256) (all_bytes bs) h).0
all_bytes_lem (b ∷ bs) h (suc a) = all_bytes_lem bs (and_parts (ltb b 256) (all_bytes bs) h).1 a

-- what has to be computed of the image
abbrev is_tested : List ℕ → Bool
is_tested low = all_bytes low && (leb 280 (length low) && (leb (length low) 32768 && (ltb (cell_at low 270) (length low) && (ltb (cell_at low 272) (length low)
    && (ltb (cell_at low 274) (length low) && (ltb (cell_at low 276) (length low) && (leb 280 (youngest (270 ∷ []) low)
    && (leb (youngest (270 ∷ []) low + 3) (length low) && (ltb (cell_at low (first_at low (youngest (270 ∷ []) low) - 2)) 202)))))))))

pub tested : is_tested boot_dict.low ≡ true
unfolding boot_dict with_kernel kernel forth_alone entry_bytes cell_at cell set_cell youngest youngest_in first_at link_of
tested = refl

pub boot_long : length boot_dict.low ≡ 1618
unfolding boot_dict with_kernel kernel forth_alone entry_bytes cell_at cell set_cell youngest youngest_in first_at link_of
boot_long = refl

pub boot_ends : cell_at boot_dict.low 278 ≡ 0
unfolding boot_dict with_kernel kernel forth_alone entry_bytes cell_at cell set_cell youngest youngest_in first_at link_of
boot_ends = refl

snd : (x y : Bool) → (x && y) ≡ true → y ≡ true
snd x y h = (and_parts x y h).1

fst : (x y : Bool) → (x && y) ≡ true → x ≡ true
fst x y h = (and_parts x y h).0

four : (low : List ℕ) → cell_at low 270 < length low → cell_at low 272 < length low → cell_at low 274 < length low → cell_at low 276 < length low
    → (k : ℕ) → k < 4 → cell_at low (270 + 2 * k) < length low
four low a b c d zero h = a
four low a b c d (suc zero) h = b
four low a b c d (suc (suc zero)) h = c
four low a b c d (suc (suc (suc zero))) h = d
four low a b c d (suc (suc (suc (suc k)))) h = let z : ⊥ = omega arith in absurd z

booted : (low : List ℕ) → is_tested low ≡ true → cell_at low 278 ≡ 0 → Booted (record { low = low; vocs = 270 ∷ [] })
booted low h e =
    let n = length low in
    let y = youngest (270 ∷ []) low in
    let h₁ = snd _ _ h in
    let h₂ = snd _ _ h₁ in
    let h₃ = snd _ _ h₂ in
    let h₄ = snd _ _ h₃ in
    let h₅ = snd _ _ h₄ in
    let h₆ = snd _ _ h₅ in
    let h₇ = snd _ _ h₆ in
    let h₈ = snd _ _ h₇ in
    let h₉ = snd _ _ h₈ in
    record {
      vocs_are = refl;
      ends = e;
      long = leb-true 280 n (fst _ _ h₁);
      room = leb-true n 32768 (fst _ _ h₂);
      heads = four low (ltb-true (cell_at low 270) n (fst _ _ h₃)) (ltb-true (cell_at low 272) n (fst _ _ h₄)) (ltb-true (cell_at low 274) n (fst _ _ h₅)) (ltb-true (cell_at low 276) n (fst _ _ h₆));
      whole = all_bytes_lem low (fst _ _ h);
      newest_from = leb-true 280 y (fst _ _ h₇);
      newest_to = leb-true (y + 3) n (fst _ _ h₈);
      kernel = ltb-true (cell_at low (first_at low y - 2)) 202 h₉;
    }

pub boots : Boots boot_dict
unfolding boot_dict with_kernel kernel forth_alone entry_bytes cell_at cell set_cell youngest youngest_in first_at link_of
boots = record { booted = booted boot_dict.low tested boot_ends; link_is = refl; newest_is = refl; context_is = refl; current_is = refl; open_is = refl }
