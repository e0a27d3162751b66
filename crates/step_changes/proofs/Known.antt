-- What is known of a dictionary that came from boot's by allowed changes.
use Rattle.std.proofs.Common.{◌≡◌, ◌+◌, ◌<◌, ◌≤◌, ◌≢◌, length, sym, ap, subst, arith}
use Rattle.image.specs.Cells.{Bytes}
use Rattle.entries.specs.Entries.{first_at}
use Rattle.dictionary.specs.Dict.{Dict, dp}
use Rattle.kernel.specs.Boot.{boot_dict}
use Rattle.forgetting.specs.Law.{fence, Run}
use Rattle.forgetting.proofs.Stack.{Stack, base, push, Good, image}
use Rattle.forgetting.proofs.Spacing as spacing
use Rattle.forgetting.proofs.Trims.{whole, append-bytes}
use Rattle.forgetting.proofs.Chains.{low_long, link_low}
use Rattle.forgetting.proofs.Shape.{Shape, shut, opened, Fit}
use Rattle.forgetting.proofs.Steps.{open_first, open_long}
use Rattle.forgetting.proofs.Whole.{run_fit}
use Rattle.forgetting.proofs.Booting.{boots}
use Rattle.forgetting.proofs.Meeting as meeting

pub record Known (D : Dict) : Type 0 where
  pub bytes : Bytes D.low
  pub long : 280 ≤ dp D
  pub room : dp D ≤ 32768
  pub link : D.voc_link < 65536
  -- the open entry's first parameter cell lies below DP
  pub first : D.opened ≢ 0 → first_at D.low D.opened + 2 ≤ dp D

stack_room : (m : Stack) → Good m → spacing.dp m ≤ 32768
unfolding image
stack_room (base I) g = g.room
stack_room (push e m) g = g.0.room

from_shape : (D : Dict) (x : Shape) → Fit fence D x → Known D
from_shape D (shut m) f =
    let e : dp D ≡ spacing.dp m = ap length f.low_is in record {
      bytes = subst Bytes (sym f.low_is) (whole m f.good);
      long = omega (arith, low_long m f.good);
      room = omega (arith, stack_room m f.good);
      link = omega (arith, f.link_is, link_low m f.good, stack_room m f.good);
      first = λ n. absurd (n f.open_is);
    }
from_shape D (opened e m) f =
    let l = open_long fence D e m f in
    let g = spacing.length_grow e (image m) in record {
      bytes = subst Bytes (sym f.low_is) (append-bytes _ _ (whole m f.good) f.fits.whole);
      long = omega (arith, low_long m f.good);
      room = omega (arith, f.fits.room);
      link = omega (arith, f.link_is, link_low m f.good, stack_room m f.good);
      first = λ n. omega (arith, open_first fence D e m f);
    }

pub known : (D : Dict) → Run boot_dict D → Known D
known D r = let s = run_fit boot_dict D boots (meeting.run boot_dict D r) in from_shape D s.0 s.1
