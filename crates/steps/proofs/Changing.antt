-- A change of the dictionary that leaves the rest of the image is a change of the machine.
use Rattle.std.proofs.Common.{◌≡◌, ℕ, ◌-◌, ◌≤◌, List, length, take, drop, sym, ap, ◌∙◌, arith, take_all, take-take}
use Rattle.std.proofs.lemmas.List.{drop-take}
use Rattle.store.specs.Meaning.{Meaning}
use Rattle.stacks.specs.Stack.{stack_of}
use Rattle.image.specs.Views.{low_of, high_of, line_of}
use Rattle.image.proofs.Laws.{length_high}
use Rattle.dictionary.specs.declared.registers.Dictionary.{Dictionary}
use Rattle.dictionary.specs.Dict.{Dict}
use Rattle.dictionary.specs.Lent as lent
use Rattle.dictionary.specs.Lent.{Outside, dict_in}
use Rattle.definition.specs.declared.registers.Mark.{Mark}
use Rattle.definition.specs.declared.ranged.Registers.{Registers}
use Rattle.definition.specs.Machine.{Machine, here, dict_of, changed, with_high}
use Rattle.definition.specs.View as view
use Rattle.definition.specs.View.{view_of, loads_of}
use Rattle.steps.specs.Does.{seen}
use Rattle.steps.specs.Parts.{share_of, seat_with}

-- the dictionary's registers, read off the machine's
pub record ReadOff (r : Registers) (d : Dictionary) : Type 0 where
  pub ends : d.ends ≡ r.shared.ends
  pub names : d.names ≡ r.shared.names
  pub order : d.order ≡ r.seat.order

-- the machine's registers, with those of the dictionary put back
pub record PutBack (r r' : Registers) (d : Dictionary) : Type 0 where
  pub shared : r'.shared ≡ share_of d.ends d.names r.shared
  pub seat : r'.seat ≡ seat_with d.order r.seat

-- what was read off, put back at once
pub read_back : (r : Registers) (d : Dictionary) → ReadOff r d → PutBack r r d
read_back r d p = record {
  shared = ap (λ y. share_of y r.shared.names r.shared) (sym p.ends) ∙ ap (λ y. share_of d.ends y r.shared) (sym p.names);
  seat = ap (λ y. seat_with y r.seat) (sym p.order);
}

pub here_seen : (r : Registers) (i c t : List ℕ) (k : List Mark) (s : Meaning) → length i ≡ 65536 → here (seen r i c t k s) ≡ r.shared.ends.here
here_seen r i c t k s l =
    let e : length (high_of r.shared.ends.here i) ≡ r.shared.ends.here - 32768 = length_high r.shared.ends.here i (omega (arith, r.limit)) in
    omega (arith, r.space)

pub dict_seen : (r : Registers) (d : Dictionary) (i c t : List ℕ) (k : List Mark) (s : Meaning) → length i ≡ 65536 → ReadOff r d → dict_of (seen r i c t k s) ≡ lent.dict_of d i
dict_seen r d i c t k s l p =
    ap (λ h. dict_in (record { dp = r.shared.ends.dp; here = h }) r.shared.names r.seat.order i) (here_seen r i c t k s l)
    ∙ sym (ap (λ e. dict_in e d.names d.order i) p.ends ∙ ap (λ n. dict_in r.shared.ends n d.order i) p.names ∙ ap (λ o. dict_in r.shared.ends r.shared.names o i) p.order)

-- data space up to an end at or below HERE, and the line, are those of the image before
high_front : (h g : ℕ) (i i' : List ℕ) → drop 32768 i' ≡ drop 32768 i → g ≤ h → high_of g i' ≡ take (g - 32768) (high_of h i)
unfolding high_of
high_front h g i i' e l = ap (take (g - 32768)) e ∙ sym (take-take (g - 32768) (h - 32768) (drop 32768 i) (omega arith))

line_same : (i i' : List ℕ) → take 256 i' ≡ take 256 i → line_of i' ≡ line_of i
unfolding line_of
line_same i i' e = sym (drop-take 128 128 i') ∙ ap (drop 128) e ∙ drop-take 128 128 i

-- the machine by what a change of the dictionary can touch
abbrev built : Registers → List ℕ → List ℕ → List Mark → Meaning → Dictionary → List ℕ → List ℕ → List ℕ → Machine
built r c t k s d low high line = record {
  low = low;
  high = high;
  stacks = record { cells = stack_of r.seat.depths.cells c; returns = stack_of r.seat.depths.returns t; marks = stack_of r.seat.depths.marks k };
  text = record { line = line; source = r.seat.source; loads = loads_of r.seat.loads };
  names = d.names;
  order = d.order;
  flow = r.seat.flow;
  buffer = r.shared.buffer;
  store = s;
}

-- the dictionary changed by f, and data space cut at HERE
module _ (r r' : Registers) (d d' : Dictionary) (i i' : List ℕ) (f : Dict → Dict) (l : length i ≡ 65536) (p : ReadOff r d) (q : PutBack r r' d') (e : lent.dict_of d' i' ≡ f (lent.dict_of d i)) (o : Outside i i') where
  module _ (c t : List ℕ) (k : List Mark) (s : Meaning) where
    parts : seen r' i' c t k s ≡ built r c t k s d' (low_of d'.ends.dp i') (high_of d'.ends.here i') (line_of i')
    parts = ap (λ y. view_of y r'.seat (view.lent i' c t k) s) q.shared ∙ ap (λ y. view_of (share_of d'.ends d'.names r.shared) y (view.lent i' c t k) s) q.seat

    pub cut_view : d'.ends.here ≤ r.shared.ends.here → seen r' i' c t k s ≡ with_high (take (d'.ends.here - 32768) (seen r i c t k s).high) (changed f (seen r i c t k s))
    cut_view h =
        parts
        ∙ ap (λ y. built r c t k s d' (low_of d'.ends.dp i') y (line_of i')) (high_front r.shared.ends.here d'.ends.here i i' o.above h)
        ∙ ap (λ y. built r c t k s d' (low_of d'.ends.dp i') (take (d'.ends.here - 32768) (high_of r.shared.ends.here i)) y) (line_same i i' o.below)
        ∙ ap (λ (D : Dict). with_high (take (d'.ends.here - 32768) (seen r i c t k s).high) (changed (λ _. D) (seen r i c t k s))) (e ∙ ap f (sym (dict_seen r d i c t k s l p)))

    -- HERE stays
    pub changed_view : d'.ends.here ≡ r.shared.ends.here → seen r' i' c t k s ≡ changed f (seen r i c t k s)
    changed_view h =
        cut_view (omega (arith, h))
        ∙ ap (λ y. with_high y (changed f (seen r i c t k s))) (ap (λ y. take (y - 32768) (high_of r.shared.ends.here i)) h ∙ take_all (r.shared.ends.here - 32768) (high_of r.shared.ends.here i) (omega (arith, length_high r.shared.ends.here i (omega (arith, r.limit)))))
