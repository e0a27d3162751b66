-- The dictionary's bytes in the machine that registers and image hold.
use Rattle.std.proofs.Common.{◌≡◌, ℕ, ◌+◌, ◌≤◌, Bool, true, leb, ◌&&◌, List, length, ap, ◌∙◌, arith}
use Rattle.std.proofs.lemmas.Bool.Decides.{nat_tests}
use Rattle.store.specs.Meaning.{Meaning}
use Rattle.image.specs.Views.{low_of}
use Rattle.image.proofs.Laws.{length_low}
use Rattle.definition.specs.declared.registers.Mark.{Mark}
use Rattle.definition.specs.declared.ranged.Registers.{Registers}
use Rattle.definition.specs.Flow.{in_dictionary}
use Rattle.definition.proofs.Agreeing.{dp_bottom}
use Rattle.steps.specs.Inside.{inside}
use Rattle.steps.specs.Does.{seen}

-- what is inside, by numbers
pub inside_tells : (a n dp : ℕ) → inside a n dp ≡ true → (256 ≤ a) × (a + n ≤ dp)
inside_tells a n dp p = (grind (arith, nat_tests), grind (arith, nat_tests))

module _ (r : Registers) (i : List ℕ) (l : length i ≡ 65536) where
  pub low_long : length (low_of r.shared.ends.dp i) ≡ r.shared.ends.dp
  low_long = length_low r.shared.ends.dp i (dp_bottom r) (omega (arith, r.top))

  pub inside_is : (c t : List ℕ) (k : List Mark) (s : Meaning) (a n : ℕ) (b : Bool) → inside a n r.shared.ends.dp ≡ b → in_dictionary a n (seen r i c t k s) ≡ b
  inside_is c t k s a n b p = ap (λ d. leb 256 a && leb (a + n) d) low_long ∙ p
