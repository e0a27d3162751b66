-- The machine at its beginning: FORTH at 256, then the kernel words in order.
use Rattle.std.specs.Prelude.{ℕ, zero, suc, ◌+◌, false, List, [], ◌∷◌, ◌++◌, length, None}
use Rattle.store.specs.Meaning.{Meaning}
use Rattle.image.specs.Cells.{cell, zeros}
unfoldable pub use Rattle.kernel.specs.Boot.{boot_dict}
use Rattle.definition.specs.Ranges.{line_start}
use Rattle.definition.specs.Machine.{Machine, no_stacks}
use Rattle.definition.specs.Kernel.{Row, stack_rows, space_rows, defining_rows, inside_rows}

abbrev pub kernel : List Row
kernel = stack_rows ++ (space_rows ++ (defining_rows ++ inside_rows))

-- BASE is 10, the buffer has no block
unfoldable pub boot : Meaning → Machine
boot s =
    let D = boot_dict in
    record {
      low = D.low;
      high = cell 10 ++ zeros 1278;
      stacks = no_stacks;
      text = record { line = zeros 128; source = record { length = 0; position = line_start; word = record { start = 0; length = 0 } }; loads = [] };
      names = record { newest = D.newest; voclink = D.voc_link; opened = D.opened };
      order = record { context = D.context; current = D.current };
      flow = record { compiling = false; ip = 0 };
      buffer = record { held = None; updated = false };
      store = s;
    }

-- where the kernel words lie: an entry has 9 bytes besides its name

abbrev end_from : ℕ → List Row → ℕ
end_from a [] = a
end_from a (r ∷ rs) = end_from (a + 9 + length r.name) rs

-- DP when the machine boots
abbrev pub fence : ℕ
fence = end_from 280 kernel

abbrev token_from : ℕ → ℕ → List Row → ℕ
token_from a n [] = 0
token_from a zero (r ∷ rs) = 0
token_from a (suc zero) (r ∷ rs) = a + 5 + length r.name
token_from a (suc (suc n)) (r ∷ rs) = token_from (a + 9 + length r.name) (suc n) rs

-- the token of kernel word n
abbrev pub kernel_token : ℕ → ℕ
kernel_token n = token_from 280 n kernel
