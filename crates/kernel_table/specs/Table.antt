-- Boot's dictionary holds the kernel table: the entry of each word, in order.
use Rattle.std.specs.Prelude.{◌≡◌, ℕ, ◌+◌, Bool, false, List, [], ◌∷◌, ◌++◌, map, length, take, drop, None, ◌==◌}
use Rattle.store.specs.Meaning.{Meaning}
use Rattle.image.specs.Cells.{cell, cell_at, zeros}
use Rattle.entries.specs.Entries.{forth, spelled, name_length, is_immediate, token_of, body_of}
use Rattle.entries.specs.Search.{Found, hit, search_in}
use Rattle.image.specs.Views.{low_of}
use Rattle.definition.specs.declared.registers.Seat.{Seat}
use Rattle.definition.specs.declared.registers.Shared.{Shared}
use Rattle.definition.specs.Ranges.{resting}
use Rattle.definition.specs.Kernel.{Row}
use Rattle.definition.specs.Boot.{kernel, kernel_token, boot_dict, boot}
use Rattle.image.specs.Views.{high_of, line_of}
use Rattle.definition.specs.View.{Lent, view_of}

-- what an entry holds
pub record Entry : Type 0 where
  pub view : ℕ
  pub name : List ℕ
  pub immediate : Bool
  pub number : ℕ
  pub body : ℕ

-- the entry that begins these bytes
abbrev entry_in : List ℕ → Entry
entry_in bytes = record {
  view = cell_at bytes 0;
  name = take (name_length bytes 2) (drop 5 bytes);
  immediate = is_immediate bytes 2;
  number = cell_at bytes (token_of bytes 2);
  body = body_of bytes 2;
}

abbrev entry_of : ℕ → Row → Entry
entry_of n r = record { view = 0; name = spelled r.name; immediate = (r.flags == 64); number = n; body = 34048 }

-- an entry is 9 bytes and its name long
abbrev size_of : Row → ℕ
size_of r = 9 + length r.name

-- of the words from number n on: what the bytes hold, and what their rows say
unfoldable pub entries_in : List ℕ → List Row → List Entry
entries_in bytes [] = []
entries_in bytes (r ∷ rs) = entry_in bytes ∷ entries_in (drop (size_of r) bytes) rs

unfoldable pub entries_of : ℕ → List Row → List Entry
entries_of n [] = []
entries_of n (r ∷ rs) = entry_of n r ∷ entries_of (n + 1) rs

-- what a search of FORTH for each name finds, and where those entries lie if the first begins at a
unfoldable pub found_in : List ℕ → List Row → List Found
found_in low [] = []
found_in low (r ∷ rs) = search_in low forth r.name ∷ found_in low rs

unfoldable pub places_from : ℕ → List Row → List Found
places_from a [] = []
places_from a (r ∷ rs) = hit (a + 2) ∷ places_from (a + size_of r) rs

-- the kernel words that other words append
abbrev compiled : List ℕ
compiled = 91 ∷ 98 ∷ 99 ∷ 100 ∷ 101 ∷ 102 ∷ 103 ∷ 104 ∷ 105 ∷ []

-- Each of the 105 words stands as its row says and is found in its thread, nothing lies behind the last, and at the token of a word appended stands its number
pub record KernelStands : Type 0 where
  pub count : length kernel ≡ 105
  pub entries : entries_in (drop 280 boot_dict.low) kernel ≡ entries_of 1 kernel
  pub threads : found_in boot_dict.low kernel ≡ places_from 280 kernel
  pub end : length boot_dict.low ≡ 1618
  pub tokens : map (λ n. cell_at boot_dict.low (kernel_token n)) compiled ≡ compiled

-- the registers at boot
abbrev pub boot_shared : Shared
boot_shared = record {
  ends = record { dp = 1618; here = 34048 };
  names = record { newest = 1607; voclink = 278; opened = 0 };
  buffer = record { held = None; updated = false };
}

abbrev pub boot_seat : Seat
boot_seat = resting (record { context = 270; current = 270 }) (record { start = 0; length = 0 })

-- with boot's bytes in the image, they make the machine that boot gives
abbrev pub RegistersBoot : Type 0
RegistersBoot =
    (l : Lent) (m : Meaning) → low_of 1618 l.image ≡ boot_dict.low → high_of 34048 l.image ≡ cell 10 ++ zeros 1278 → line_of l.image ≡ zeros 128 → view_of boot_shared boot_seat l m ≡ boot m
