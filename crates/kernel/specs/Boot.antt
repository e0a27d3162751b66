-- The dictionary at its beginning: FORTH at 256, then the kernel words in order.
use Rattle.std.specs.Prelude.{ℕ, ◌+◌, List, [], ◌∷◌, ◌++◌, codes}
use Rattle.image.specs.Cells.{zeros}
use Rattle.entries.specs.Entries.{forth, spelled, entry_bytes, count_byte}
use Rattle.dictionary.specs.Dict.{Dict, defined, joined}
use Rattle.kernel.specs.Table.{Row, kernel}

-- FORTH's link cell is 258, its heads 270, its vocabulary link 278; it is its own first entry
unfoldable pub forth_alone : Dict
forth_alone =
    let name = spelled (codes "FORTH") in
    joined 70 258 (record {
      low = zeros 256 ++ entry_bytes 0 0 (count_byte 0 name) name 204 34048 (zeros 10);
      here = 34048;
      newest = 258;
      voc_link = 278;
      context = forth;
      current = forth;
      opened = 0;
    })

-- kernel word n and those behind it, each with its number as its code
unfoldable pub with_kernel : ℕ → List Row → Dict → Dict
with_kernel n [] D = D
with_kernel n (r ∷ rs) D = with_kernel (n + 1) rs (defined 0 r.flags (spelled r.name) n [] D)

unfoldable pub boot_dict : Dict
boot_dict = with_kernel 1 kernel forth_alone
