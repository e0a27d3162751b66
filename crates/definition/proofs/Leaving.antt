-- The view of cleared registers is the cleared view.
use Rattle.std.proofs.Common.{◌≡◌, ℕ, ◌+◌, ◌-◌, ◌<◌, ◌≤◌, Bool, true, false, cond, eqb, List, [], ◌++◌, take, drop, sym, refl, ap, ◌∙◌, subst, arith, take-take}
use lib.Seq.{take-append-add}
use Rattle.std.proofs.lemmas.List.{drop-take}
use Rattle.std.proofs.lemmas.Bool.Decides.{nat_tests}
use Rattle.store.specs.Meaning.{Meaning}
use Rattle.image.specs.Cells.{zeros}
use Rattle.image.specs.Views.{low_of}
use Rattle.stacks.specs.Stack.{stack_of}
use Rattle.definition.specs.declared.registers.Seat.{Seat}
use Rattle.definition.specs.declared.registers.Shared.{Shared}
use Rattle.definition.specs.Ranges.{settled, resting}
use Rattle.definition.specs.Run.{cleared}
use Rattle.definition.specs.View.{Lent, view_of}

pub settled_in : (s : Shared) → s.names.opened + 3 < s.ends.dp → settled s ≤ s.ends.dp
settled_in s h = grind (arith, nat_tests)

low_add : (k d : ℕ) (image : List ℕ) → 256 + k ≤ d → take (256 + k) (low_of d image) ≡ low_of (256 + k) image
unfolding low_of
low_add k d image h =
    take-append-add (zeros 256) (drop 256 (take d image)) k
    ∙ ap (λ z. zeros 256 ++ z) (sym (drop-take 256 k (take d image)) ∙ ap (drop 256) (take-take (256 + k) d image h))

low_front : (e d : ℕ) (image : List ℕ) → 256 ≤ e → e ≤ d → take e (low_of d image) ≡ low_of e image
low_front e d image h₀ h₁ =
    let n : 256 + (e - 256) ≡ e = omega arith in
    subst (λ z. take z (low_of d image) ≡ low_of z image) n (low_add (e - 256) d image (omega arith))

low_left : (b : Bool) (d o : ℕ) (image : List ℕ) → 256 ≤ cond b d (o - 2) → cond b d (o - 2) ≤ d → low_of (cond b d (o - 2)) image ≡ cond b (low_of d image) (take (o - 2) (low_of d image))
low_left true d o image h₀ h₁ = refl
low_left false d o image h₀ h₁ = sym (low_front (o - 2) d image h₀ h₁)

abbrev left_shared : ℕ → Shared → Shared
left_shared e s = record { ends = record { dp = e; here = s.ends.here }; names = record { newest = s.names.newest; voclink = s.names.voclink; opened = 0 }; buffer = s.buffer }

pub cleared_view : (s : Shared) (t : Seat) (e : ℕ) (r : Seat) → e ≡ settled s → r ≡ resting t.order t.source.word → 256 ≤ settled s → settled s ≤ s.ends.dp → (l : Lent) (m : Meaning) → view_of (left_shared e s) r l m ≡ cleared (view_of s t l m)
unfolding stack_of
cleared_view s t e r p o h₀ h₁ l m =
    let q = ap (λ z. low_of z l.image) p ∙ low_left (eqb s.names.opened 0) s.ends.dp s.names.opened l.image h₀ h₁ in
    let rest = resting t.order t.source.word in
    ap (λ z. view_of (left_shared e s) z l m) o ∙ (λ i. record {
      low = q i;
      high = (view_of s t l m).high;
      stacks = record { cells = []; returns = []; marks = [] };
      text = record { line = (view_of s t l m).text.line; source = rest.source; loads = [] };
      names = (left_shared e s).names;
      order = t.order;
      flow = rest.flow;
      buffer = s.buffer;
      store = m;
    })
