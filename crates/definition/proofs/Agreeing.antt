-- Machines agree exactly if their views are equal.
use Rattle.std.proofs.Common.{◌≡◌, ℕ, ◌+◌, ◌-◌, ◌<◌, ◌≤◌, false, ◌⊎◌, List, ◌++◌, reverse, length, get_or, take, drop, sym, refl, ap, ◌∙◌, subst, inl, inr, arith, length-drop, length-take, length-take-le, get_or-drop, get_or-take, drop_at}
use Rattle.std.proofs.lemmas.Bool.{cases_lt}
use Rattle.std.proofs.lemmas.Bool.Decides.{nat_tests}
use Rattle.store.specs.Meaning.{Meaning}
use Rattle.image.specs.Cells.{zeros}
use Rattle.image.specs.Views.{low_of}
use Rattle.dictionary.specs.Lent.{dict_in}
use Rattle.definition.specs.declared.ranged.Registers.{Registers}
use Rattle.definition.specs.declared.registers.Depths.{Depths}
use Rattle.definition.specs.declared.registers.Shared.{Shared}
use Rattle.definition.specs.Ranges.{eight, line_start}
use Rattle.image.specs.Views.{line_of, high_of}
use Rattle.stacks.specs.Stack.{stack_of}
use Rattle.definition.specs.View.{Lent, Whole, is_free, loads_of, view_of}
use Rattle.definition.specs.Agree.{Agree, AgreeIsEqualViews, ViewDictionary, no_mark}
use Rattle.definition.proofs.Leaving.{settled_in}
use Rattle.definition.proofs.Windows.{front_same, front_reads, window_same, window_reads, reverse_same}

-- lists of the view

pub low_same : (d : ℕ) (i j : List ℕ) → d ≤ length i → d ≤ length j → ((a : ℕ) → a < d → get_or i a 0 ≡ get_or j a 0) → low_of d i ≡ low_of d j
unfolding low_of
low_same d i j hi hj same = ap (λ (z : List ℕ). zeros 256 ++ drop 256 z) (front_same 0 d i j hi hj same)

pub low_tails : (d e : ℕ) (i j : List ℕ) → low_of d i ≡ low_of e j → drop 256 (take d i) ≡ drop 256 (take e j)
unfolding low_of
low_tails d e i j p =
    sym (drop_at (zeros 256) (drop 256 (take d i)) 256 refl) ∙ ap (drop 256) p ∙ drop_at (zeros 256) (drop 256 (take e j)) 256 refl

pub low_ends : (d e : ℕ) (i j : List ℕ) → 256 ≤ d → d ≤ length i → 256 ≤ e → e ≤ length j → low_of d i ≡ low_of e j → d ≡ e
unfolding low_of
low_ends d e i j d₀ d₁ e₀ e₁ p =
    let q : length (drop 256 (take d i)) ≡ length (drop 256 (take e j)) = ap length (low_tails d e i j p) in
    omega (arith, simp (length-drop, length-take) at q)

pub low_reads : (d e : ℕ) (i j : List ℕ) → low_of d i ≡ low_of e j → d ≡ e → (a : ℕ) → 256 ≤ a → a < d → get_or i a 0 ≡ get_or j a 0
unfolding low_of
low_reads d e i j p q a h₀ h₁ =
    let k : ℕ = a - 256 in
    let n : 256 + k ≡ a = omega arith in
    let x : get_or (drop 256 (take d i)) k 0 ≡ get_or i a 0 = get_or-drop 256 (take d i) k 0 ∙ ap (λ z. get_or (take d i) z 0) n ∙ get_or-take d i a 0 h₁ in
    let y : get_or (drop 256 (take e j)) k 0 ≡ get_or j a 0 =
    get_or-drop 256 (take e j) k 0 ∙ ap (λ z. get_or (take e j) z 0) n ∙ get_or-take e j a 0 (omega arith) in
    sym x ∙ ap (λ z. get_or z k 0) (low_tails d e i j p) ∙ y

pub line_same : (i j : List ℕ) → 256 ≤ length i → 256 ≤ length j → ((a : ℕ) → a < 256 → get_or i a 0 ≡ get_or j a 0) → line_of i ≡ line_of j
unfolding line_of
line_same i j hi hj same = window_same 0 128 128 i j hi hj (λ k _ h. same k h)

pub line_reads : (i j : List ℕ) → line_of i ≡ line_of j → (a : ℕ) → 128 ≤ a → a < 256 → get_or i a 0 ≡ get_or j a 0
unfolding line_of
line_reads i j p a h₀ h₁ =
    let n : 128 + (a - 128) ≡ a = omega arith in
    subst (λ z. get_or i z 0 ≡ get_or j z 0) n (window_reads 0 128 128 i j p (a - 128) (omega arith))

pub high_same : (h : ℕ) (i j : List ℕ) → 32768 ≤ h → h ≤ length i → h ≤ length j → ((a : ℕ) → 32768 ≤ a → a < h → get_or i a 0 ≡ get_or j a 0) → high_of h i ≡ high_of h j
unfolding high_of
high_same h i j h₀ hi hj same =
    window_same 0 32768 (h - 32768) i j (omega arith) (omega arith) (λ k l u. same k l (omega arith))

pub high_ends : (g h : ℕ) (i j : List ℕ) → 32768 ≤ g → g ≤ length i → 32768 ≤ h → h ≤ length j → high_of g i ≡ high_of h j → g ≡ h
unfolding high_of
high_ends g h i j g₀ g₁ h₀ h₁ p =
    let q : length (high_of g i) ≡ length (high_of h j) = ap length p in
    omega (arith, simp (length-take, length-drop) at q)

pub high_reads : (g h : ℕ) (i j : List ℕ) → high_of g i ≡ high_of h j → g ≡ h → (a : ℕ) → 32768 ≤ a → a < g → get_or i a 0 ≡ get_or j a 0
unfolding high_of
high_reads g h i j p q a h₀ h₁ =
    let p' : high_of g i ≡ high_of g j = p ∙ sym (ap (λ z. high_of z j) q) in
    let n : 32768 + (a - 32768) ≡ a = omega arith in
    subst (λ z. get_or i z 0 ≡ get_or j z 0) n (window_reads 0 32768 (g - 32768) i j p' (a - 32768) (omega arith))

module _ {A : Type 0} (d : A) where
  pub stack_same : (n : ℕ) (xs ys : List A) → n ≤ length xs → n ≤ length ys → ((k : ℕ) → k < n → get_or xs k d ≡ get_or ys k d) → stack_of n xs ≡ stack_of n ys
  unfolding stack_of
  stack_same n xs ys hx hy same = ap reverse (front_same d n xs ys hx hy same)

  pub stack_depths : (m n : ℕ) (xs ys : List A) → m ≤ length xs → n ≤ length ys → stack_of m xs ≡ stack_of n ys → m ≡ n
  unfolding stack_of
  stack_depths m n xs ys hx hy p =
      let q : length (take m xs) ≡ length (take n ys) = ap length (reverse_same (take m xs) (take n ys) p) in
      sym (length-take-le m xs hx) ∙ q ∙ length-take-le n ys hy

  pub stack_reads : (m n : ℕ) (xs ys : List A) → stack_of m xs ≡ stack_of n ys → m ≡ n → (k : ℕ) → k < m → get_or xs k d ≡ get_or ys k d
  unfolding stack_of
  stack_reads m n xs ys p q k h =
      let f : take m xs ≡ take m ys = reverse_same (take m xs) (take n ys) p ∙ sym (ap (λ z. take z ys) q) in
      front_reads d m xs ys f k h

pub not_free : (s : Shared) (a : ℕ) → is_free s a ≡ false → ((a < s.ends.dp) ⊎ (32768 ≤ a)) × (a < s.ends.here)
not_free s a e = grind (arith, nat_tests)

pub kept_low : (s : Shared) (a : ℕ) → s.ends.dp ≤ 32768 → 32768 ≤ s.ends.here → a < s.ends.dp → is_free s a ≡ false
kept_low s a h₀ h₁ h = grind (arith, nat_tests)

pub kept_high : (s : Shared) (a : ℕ) → 32768 ≤ a → a < s.ends.here → is_free s a ≡ false
kept_high s a h₀ h = grind (arith, nat_tests)

pub dp_bottom : (r : Registers) → 256 ≤ r.shared.ends.dp
dp_bottom r = omega (arith, r.bottom, settled_in r.shared r.open)

high_length : (h : ℕ) (image : List ℕ) → 32768 ≤ h → h ≤ length image → 32768 + length (high_of h image) ≡ h
unfolding high_of
high_length h image h₀ h₁ = simp (length-take, length-drop) (omega arith)

pub view_dictionary : ViewDictionary
view_dictionary r l s w =
    let e = high_length r.shared.ends.here l.image (omega (arith, r.space)) (omega (arith, r.limit, w.image)) in
    ap (λ h. dict_in (record { dp = r.shared.ends.dp; here = h }) r.shared.names r.seat.order l.image) e

module _ (r : Registers) (l : Lent) (r' : Registers) (l' : Lent) (w : Whole l) (w' : Whole l') where
  module _ (a : Agree r l r' l') where
    byte_low : (k : ℕ) → k < r.shared.ends.dp → get_or l.image k 0 ≡ get_or l'.image k 0
    byte_low k h = a.bytes k (omega (arith, r.top)) (kept_low r.shared k r.top (omega (arith, r.space)) h)

    byte_high : (k : ℕ) → 32768 ≤ k → k < r.shared.ends.here → get_or l.image k 0 ≡ get_or l'.image k 0
    byte_high k h₀ h = a.bytes k (omega (arith, r.limit)) (kept_high r.shared k h₀ h)

    low_seen : low_of r.shared.ends.dp l.image ≡ low_of r'.shared.ends.dp l'.image
    low_seen =
        low_same r.shared.ends.dp l.image l'.image (omega (arith, r.top, w.image)) (omega (arith, r.top, w'.image)) byte_low
        ∙ ap (λ (z : Shared). low_of z.ends.dp l'.image) a.shared

    high_seen : high_of r.shared.ends.here l.image ≡ high_of r'.shared.ends.here l'.image
    high_seen =
        high_same r.shared.ends.here l.image l'.image (omega (arith, r.space)) (omega (arith, r.limit, w.image)) (omega (arith, r.limit, w'.image)) byte_high
        ∙ ap (λ (z : Shared). high_of z.ends.here l'.image) a.shared

    line_seen : line_of l.image ≡ line_of l'.image
    line_seen =
        line_same l.image l'.image (omega (arith, w.image)) (omega (arith, w'.image)) (λ k h. byte_low k (omega (arith, dp_bottom r)))

    cells_seen : stack_of r.seat.depths.cells l.cells ≡ stack_of r'.seat.depths.cells l'.cells
    cells_seen =
        stack_same 0 r.seat.depths.cells l.cells l'.cells (omega (arith, r.cells, w.cells)) (omega (arith, r.cells, w'.cells)) a.cells
        ∙ ap (λ (z : Depths). stack_of z.cells l'.cells) a.depths

    returns_seen : stack_of r.seat.depths.returns l.returns ≡ stack_of r'.seat.depths.returns l'.returns
    returns_seen =
        stack_same 0 r.seat.depths.returns l.returns l'.returns (omega (arith, r.returns, w.returns)) (omega (arith, r.returns, w'.returns)) a.returns
        ∙ ap (λ (z : Depths). stack_of z.returns l'.returns) a.depths

    marks_seen : stack_of r.seat.depths.marks l.marks ≡ stack_of r'.seat.depths.marks l'.marks
    marks_seen =
        stack_same no_mark r.seat.depths.marks l.marks l'.marks (omega (arith, r.marks, w.marks)) (omega (arith, r.marks, w'.marks)) a.marks
        ∙ ap (λ (z : Depths). stack_of z.marks l'.marks) a.depths

    loads_seen : loads_of r.seat.loads ≡ loads_of r'.seat.loads
    loads_seen =
        stack_same line_start r.seat.loads.count (eight r.seat.loads) (eight r'.seat.loads) r.loads r.loads a.loads
        ∙ ap (λ z. stack_of z (eight r'.seat.loads)) a.open_loads

    agree_seen : (s s' : Meaning) → s ≡ s' → view_of r.shared r.seat l s ≡ view_of r'.shared r'.seat l' s'
    agree_seen s s' e = λ i. record {
      low = low_seen i;
      high = high_seen i;
      stacks = record { cells = cells_seen i; returns = returns_seen i; marks = marks_seen i };
      text = record { line = line_seen i; source = a.source i; loads = loads_seen i };
      names = (a.shared i).names;
      order = a.order i;
      flow = a.flow i;
      buffer = (a.shared i).buffer;
      store = e i;
    }

  module _ (s s' : Meaning) (e : view_of r.shared r.seat l s ≡ view_of r'.shared r'.seat l' s') where
    lows : low_of r.shared.ends.dp l.image ≡ low_of r'.shared.ends.dp l'.image
    lows = λ i. (e i).low

    highs : high_of r.shared.ends.here l.image ≡ high_of r'.shared.ends.here l'.image
    highs = λ i. (e i).high

    dps : r.shared.ends.dp ≡ r'.shared.ends.dp
    dps =
        low_ends r.shared.ends.dp r'.shared.ends.dp l.image l'.image (dp_bottom r) (omega (arith, r.top, w.image)) (dp_bottom r') (omega (arith, r'.top, w'.image)) lows

    heres : r.shared.ends.here ≡ r'.shared.ends.here
    heres =
        high_ends r.shared.ends.here r'.shared.ends.here l.image l'.image (omega (arith, r.space)) (omega (arith, r.limit, w.image)) (omega (arith, r'.space)) (omega (arith, r'.limit, w'.image)) highs

    depth_cells : r.seat.depths.cells ≡ r'.seat.depths.cells
    depth_cells =
        stack_depths 0 r.seat.depths.cells r'.seat.depths.cells l.cells l'.cells (omega (arith, r.cells, w.cells)) (omega (arith, r'.cells, w'.cells)) (λ i. (e i).stacks.cells)

    depth_returns : r.seat.depths.returns ≡ r'.seat.depths.returns
    depth_returns =
        stack_depths 0 r.seat.depths.returns r'.seat.depths.returns l.returns l'.returns (omega (arith, r.returns, w.returns)) (omega (arith, r'.returns, w'.returns)) (λ i. (e i).stacks.returns)

    depth_marks : r.seat.depths.marks ≡ r'.seat.depths.marks
    depth_marks =
        stack_depths no_mark r.seat.depths.marks r'.seat.depths.marks l.marks l'.marks (omega (arith, r.marks, w.marks)) (omega (arith, r'.marks, w'.marks)) (λ i. (e i).stacks.marks)

    counts : r.seat.loads.count ≡ r'.seat.loads.count
    counts =
        stack_depths line_start r.seat.loads.count r'.seat.loads.count (eight r.seat.loads) (eight r'.seat.loads) r.loads r'.loads (λ i. (e i).text.loads)

    byte_same : (a : ℕ) → is_free r.shared a ≡ false → get_or l.image a 0 ≡ get_or l'.image a 0
    byte_same a f =
        let n = not_free r.shared a f in
        elim n.0 [
          | inr above ↦ high_reads r.shared.ends.here r'.shared.ends.here l.image l'.image highs heres a above n.1
          | inl below ↦
              elim (cases_lt a 256) [
                | inr h ↦ low_reads r.shared.ends.dp r'.shared.ends.dp l.image l'.image lows dps a h below
                | inl h ↦
                    elim (cases_lt a 128) [
                      | inl g ↦ w.zeros a g ∙ sym (w'.zeros a g)
                      | inr g ↦ line_reads l.image l'.image (λ i. (e i).text.line) a g h
                    ]
              ]
        ]

    seen_agree : Agree r l r' l'
    seen_agree = record {
      shared = λ i. record { ends = record { dp = dps i; here = heres i }; names = (e i).names; buffer = (e i).buffer };
      order = λ i. (e i).order;
      flow = λ i. (e i).flow;
      depths = λ i. record { cells = depth_cells i; returns = depth_returns i; marks = depth_marks i };
      source = λ i. (e i).text.source;
      open_loads = counts;
      loads = stack_reads line_start r.seat.loads.count r'.seat.loads.count (eight r.seat.loads) (eight r'.seat.loads) (λ i. (e i).text.loads) counts;
      bytes = λ a _ f. byte_same a f;
      cells = stack_reads 0 r.seat.depths.cells r'.seat.depths.cells l.cells l'.cells (λ i. (e i).stacks.cells) depth_cells;
      returns = stack_reads 0 r.seat.depths.returns r'.seat.depths.returns l.returns l'.returns (λ i. (e i).stacks.returns) depth_returns;
      marks = stack_reads no_mark r.seat.depths.marks r'.seat.depths.marks l.marks l'.marks (λ i. (e i).stacks.marks) depth_marks;
    }

pub agree_is_equal_views : AgreeIsEqualViews
agree_is_equal_views r l s r' l' s' w w' = record {
  seen = λ a e. agree_seen r l r' l' w w' a s s' e;
  agree = λ e. seen_agree r l r' l' w w' s s' e;
  store = λ e i. (e i).store;
}
