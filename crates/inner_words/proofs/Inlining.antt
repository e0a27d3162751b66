-- The ends of the words that read the cell behind their token.
use Rattle.std.proofs.Common.{◌≡◌, ℕ, ◌+◌, ◌<◌, ◌≤◌, Bool, true, false, ◌&&◌, eqb, leb, List, [], ◌∷◌, length, get_or, Ok, Err, sym, refl, ap, ◌∙◌, arith}
use Rattle.std.proofs.lemmas.Bool.Decides.{nat_tests}
use Rattle.fault.specs.declared.Fault.{Fault}
use Rattle.fault.specs.declared.Reason.{Reason}
use Rattle.fault.specs.declared.Reason.TheVariants.{StackUnderflow, StackOverflow, ReturnUnderflow, ReturnOverflow, BadToken}
use Rattle.fault.specs.Numbers.{fault_of}
use Rattle.store.specs.Meaning.{Meaning}
use Rattle.stacks.specs.Stack.{stack_of}
use Rattle.image.specs.Cells.{cell_at}
use Rattle.image.specs.Views.{low_of}
use Rattle.image.proofs.Laws.{length_low}
use Rattle.definition.specs.declared.registers.Mark.{Mark}
use Rattle.definition.specs.declared.ranged.Registers.{Registers}
use Rattle.definition.specs.Machine.{Machine, told}
use Rattle.definition.specs.Asked.{Asked, refused, After, quietly}
use Rattle.definition.specs.Kernel
use Rattle.definition.specs.Kernel.{InlineWord}
use Rattle.definition.specs.Words.{Argument, perform}
use Rattle.definition.specs.Stacks.{has_cells, has_room, has_returns, has_return_room, nth, popped, pushed, popped_returns, pushed_returns, go_to}
use Rattle.definition.specs.Flow.{has_inline, inline, past, do_inline}
use Rattle.numbers.specs.Cells.{wrap, minus}
use Rattle.definition.proofs.Agreeing.{dp_bottom}
use Rattle.steps.specs.Seats.{told_by}
use Rattle.steps.specs.Does.{seen, acts, OnReturns, Does}
use Rattle.steps.proofs.Exits.{refused_at, has_cells_lem, lacks_cells}
use Rattle.steps.specs.Inside.{inside}
use Rattle.inner_words.specs.Numbers.{passes}
use Rattle.inner_words.specs.Turns.{turned}
use Rattle.inner_words.proofs.Views.{deep, deep_returns, Popped, Pushed, PoppedReturns, PushedReturn, Went, Skipped, pop_view, push_view, pop_return_view, push_return_view, go_view, skip_view, has_returns_lem, lacks_returns, has_return_room_lem, lacks_return_room, has_one, lacks_one}

abbrev Acts : ℕ → InlineWord → Type 0
Acts n w = (again : ℕ → Machine → Asked After) (a : Argument) (m : Machine) → acts n again a m ≡ do_inline w m

pub lit_acts : Acts 98 Kernel.lit
unfolding perform
lit_acts again a m = refl

pub branch_acts : Acts 99 Kernel.branch
unfolding perform
branch_acts again a m = refl

pub if_zero_acts : Acts 100 Kernel.branch_if_zero
unfolding perform
if_zero_acts again a m = refl

pub do_acts : Acts 101 Kernel.do_r
unfolding perform
do_acts again a m = refl

pub loop_acts : Acts 102 Kernel.loop_r
unfolding perform
loop_acts again a m = refl

pub plus_loop_acts : Acts 103 Kernel.plus_loop_r
unfolding perform
plus_loop_acts again a m = refl

-- the questions of each word, answered
lit_full : (m : Machine) → has_room 1 m ≡ false → do_inline Kernel.lit m ≡ refused StackOverflow m
lit_full m h = rw h

lit_no : (m : Machine) → has_room 1 m ≡ true → has_inline m ≡ false → do_inline Kernel.lit m ≡ refused BadToken m
lit_no m h k = rw (h, k)

lit_yes : (m : Machine) → has_room 1 m ≡ true → has_inline m ≡ true → do_inline Kernel.lit m ≡ quietly (pushed (inline m) (past m))
lit_yes m h k = rw (h, k)

branch_no : (m : Machine) → has_inline m ≡ false → do_inline Kernel.branch m ≡ refused BadToken m
branch_no m h = rw h

branch_yes : (m : Machine) → has_inline m ≡ true → do_inline Kernel.branch m ≡ quietly (go_to (inline m) m)
branch_yes m h = rw h

if_zero_short : (m : Machine) → has_cells 1 m ≡ false → do_inline Kernel.branch_if_zero m ≡ refused StackUnderflow m
if_zero_short m h = rw h

if_zero_no : (m : Machine) → has_cells 1 m ≡ true → has_inline m ≡ false → do_inline Kernel.branch_if_zero m ≡ refused BadToken m
if_zero_no m h k = rw (h, k)

if_zero_goes : (m : Machine) → has_cells 1 m ≡ true → has_inline m ≡ true → eqb (nth 0 m) 0 ≡ true → do_inline Kernel.branch_if_zero m ≡ quietly (go_to (inline m) (popped 1 m))
if_zero_goes m h k z = rw (h, k, z)

if_zero_stays : (m : Machine) → has_cells 1 m ≡ true → has_inline m ≡ true → eqb (nth 0 m) 0 ≡ false → do_inline Kernel.branch_if_zero m ≡ quietly (past (popped 1 m))
if_zero_stays m h k z = rw (h, k, z)

do_short : (m : Machine) → has_cells 2 m ≡ false → do_inline Kernel.do_r m ≡ refused StackUnderflow m
do_short m h = rw h

do_full : (m : Machine) → has_cells 2 m ≡ true → has_return_room 3 m ≡ false → do_inline Kernel.do_r m ≡ refused ReturnOverflow m
do_full m h k = rw (h, k)

do_no : (m : Machine) → has_cells 2 m ≡ true → has_return_room 3 m ≡ true → has_inline m ≡ false → do_inline Kernel.do_r m ≡ refused BadToken m
do_no m h k j = rw (h, k, j)

do_yes : (m : Machine) → has_cells 2 m ≡ true → has_return_room 3 m ≡ true → has_inline m ≡ true → do_inline Kernel.do_r m ≡ quietly (past (pushed_returns (nth 0 m ∷ nth 1 m ∷ inline m ∷ []) (popped 2 m)))
do_yes m h k j = rw (h, k, j)

loop_short : (m : Machine) → has_returns 3 m ≡ false → do_inline Kernel.loop_r m ≡ refused ReturnUnderflow m
loop_short m h = rw h

loop_no : (m : Machine) → has_returns 3 m ≡ true → has_inline m ≡ false → do_inline Kernel.loop_r m ≡ refused BadToken m
loop_no m h k = rw (h, k)

loop_yes : (m : Machine) → has_returns 3 m ≡ true → has_inline m ≡ true → do_inline Kernel.loop_r m ≡ quietly (turned 1 (inline m) m)
loop_yes m h k = rw (h, k)

plus_loop_short : (m : Machine) → has_cells 1 m ≡ false → do_inline Kernel.plus_loop_r m ≡ refused StackUnderflow m
plus_loop_short m h = rw h

plus_loop_few : (m : Machine) → has_cells 1 m ≡ true → has_returns 3 m ≡ false → do_inline Kernel.plus_loop_r m ≡ refused ReturnUnderflow (popped 1 m)
plus_loop_few m h k = rw (h, k)

plus_loop_no : (m : Machine) → has_cells 1 m ≡ true → has_returns 3 m ≡ true → has_inline m ≡ false → do_inline Kernel.plus_loop_r m ≡ refused BadToken (popped 1 m)
plus_loop_no m h k j = rw (h, k, j)

plus_loop_yes : (m : Machine) → has_cells 1 m ≡ true → has_returns 3 m ≡ true → has_inline m ≡ true → do_inline Kernel.plus_loop_r m ≡ quietly (turned (nth 0 m) (inline m) (popped 1 m))
plus_loop_yes m h k j = rw (h, k, j)

-- a refusal at the popped machine is one at the machine
refused_popped : (f : Machine → Asked After) (m : Machine) (e : Fault) (why : Reason) → f m ≡ refused why (popped 1 m) → e ≡ fault_of why (told m) → Does f m (Err e) m
refused_popped f m e why p q = (rw p (q, refl), refl)

abbrev top : ℕ → List ℕ → ℕ → ℕ
top d c k = get_or (stack_of d c) k 0

module _ (r : Registers) (i c t : List ℕ) (li : length i ≡ 65536) (lc : length c ≡ 128) (lt : length t ≡ 128) where
  -- the cell at IP
  low_long : length (low_of r.shared.ends.dp i) ≡ r.shared.ends.dp
  low_long = length_low r.shared.ends.dp i (dp_bottom r) (omega (arith, r.top))

  inline_is : (k : List Mark) (s : Meaning) (b : Bool) → inside r.seat.flow.ip 2 r.shared.ends.dp ≡ b → has_inline (seen r i c t k s) ≡ b
  inline_is k s b p = ap (λ d. leb 256 r.seat.flow.ip && leb (r.seat.flow.ip + 2) d) low_long ∙ p

  abbrev Bad : Fault → Reason → Type 0
  Bad e why = e ≡ fault_of why (told_by r.seat)

  abbrev Is : Bool → Type 0
  Is b = inside r.seat.flow.ip 2 r.shared.ends.dp ≡ b

  abbrev word : ℕ
  word = cell_at (low_of r.shared.ends.dp i) r.seat.flow.ip

  refuses : (n : ℕ) (w : InlineWord) → Acts n w → (e : Fault) (why : Reason) → ((k : List Mark) (s : Meaning) → do_inline w (seen r i c t k s) ≡ refused why (seen r i c t k s)) → Bad e why → OnReturns n r i c t (Err e) r c t
  refuses n w q e why h p = λ again a k s. refused_at (acts n again a) (seen r i c t k s) e why (q again a (seen r i c t k s) ∙ h k s) p

  pub lit_over : (e : Fault) → 128 < 1 + deep r → Bad e StackOverflow → OnReturns 98 r i c t (Err e) r c t
  lit_over e h p = refuses 98 Kernel.lit lit_acts e StackOverflow (λ k s. lit_full (seen r i c t k s) (lacks_one r i c t k s lc h)) p

  pub lit_bad : (e : Fault) → 1 + deep r ≤ 128 → Is false → Bad e BadToken → OnReturns 98 r i c t (Err e) r c t
  lit_bad e h b p = refuses 98 Kernel.lit lit_acts e BadToken (λ k s. lit_no (seen r i c t k s) (has_one r i c t k s lc h) (inline_is k s false b)) p

  pub lit_done : (r' r'' : Registers) (c' : List ℕ) (x : ℕ) → 1 + deep r ≤ 128 → Is true → x ≡ word → Skipped r r' → Pushed r' r'' c c' x → OnReturns 98 r i c t (Ok tt) r'' c' t
  lit_done r' r'' c' x h b p u v = λ again a k s.
      lit_acts again a (seen r i c t k s) ∙ lit_yes (seen r i c t k s) (has_one r i c t k s lc h) (inline_is k s true b)
      ∙ ap quietly (sym (push_view r' r'' i c c' t t k s x v ∙ ap (pushed x) (skip_view r r' i c c t t k s u) ∙ ap (λ y. pushed y (past (seen r i c t k s))) p))

  pub branch_bad : (e : Fault) → Is false → Bad e BadToken → OnReturns 99 r i c t (Err e) r c t
  branch_bad e b p = refuses 99 Kernel.branch branch_acts e BadToken (λ k s. branch_no (seen r i c t k s) (inline_is k s false b)) p

  pub branch_done : (r' : Registers) (x : ℕ) → Is true → x ≡ word → Went r r' x → OnReturns 99 r i c t (Ok tt) r' c t
  branch_done r' x b p v = λ again a k s.
      branch_acts again a (seen r i c t k s) ∙ branch_yes (seen r i c t k s) (inline_is k s true b)
      ∙ ap quietly (sym (go_view r r' i c c t t k s x v ∙ ap (λ y. go_to y (seen r i c t k s)) p))

  pub if_short : (e : Fault) → deep r < 1 → Bad e StackUnderflow → OnReturns 100 r i c t (Err e) r c t
  if_short e h p = refuses 100 Kernel.branch_if_zero if_zero_acts e StackUnderflow (λ k s. if_zero_short (seen r i c t k s) (lacks_cells r i c t k s lc 1 h)) p

  pub if_bad : (e : Fault) → 1 ≤ deep r → Is false → Bad e BadToken → OnReturns 100 r i c t (Err e) r c t
  if_bad e h b p = refuses 100 Kernel.branch_if_zero if_zero_acts e BadToken (λ k s. if_zero_no (seen r i c t k s) (has_cells_lem r i c t k s lc 1 h) (inline_is k s false b)) p

  pub if_goes : (r' r'' : Registers) (x z : ℕ) → 1 ≤ deep r → Is true → x ≡ word → z ≡ top (deep r) c 0 → z ≡ 0 → Popped r r' c 1 → Went r' r'' x → OnReturns 100 r i c t (Ok tt) r'' c t
  if_goes r' r'' x z h b p q n u v = λ again a k s.
      let o : eqb (top (deep r) c 0) 0 ≡ true = grind (arith, nat_tests) in
      if_zero_acts again a (seen r i c t k s) ∙ if_zero_goes (seen r i c t k s) (has_cells_lem r i c t k s lc 1 h) (inline_is k s true b) o
      ∙ ap quietly (sym (go_view r' r'' i c c t t k s x v ∙ ap (go_to x) (pop_view r r' i c c t t k s 1 u) ∙ ap (λ y. go_to y (popped 1 (seen r i c t k s))) p))

  pub if_stays : (r' r'' : Registers) (z : ℕ) → 1 ≤ deep r → Is true → z ≡ top (deep r) c 0 → (z ≡ 0 → ⊥) → Popped r r' c 1 → Skipped r' r'' → OnReturns 100 r i c t (Ok tt) r'' c t
  if_stays r' r'' z h b q n u v = λ again a k s.
      let o : eqb (top (deep r) c 0) 0 ≡ false = grind (arith, nat_tests) in
      if_zero_acts again a (seen r i c t k s) ∙ if_zero_stays (seen r i c t k s) (has_cells_lem r i c t k s lc 1 h) (inline_is k s true b) o
      ∙ ap quietly (sym (skip_view r' r'' i c c t t k s v ∙ ap past (pop_view r r' i c c t t k s 1 u)))

  pub do_few : (e : Fault) → deep r < 2 → Bad e StackUnderflow → OnReturns 101 r i c t (Err e) r c t
  do_few e h p = refuses 101 Kernel.do_r do_acts e StackUnderflow (λ k s. do_short (seen r i c t k s) (lacks_cells r i c t k s lc 2 h)) p

  pub do_over : (e : Fault) → 2 ≤ deep r → 128 < 3 + deep_returns r → Bad e ReturnOverflow → OnReturns 101 r i c t (Err e) r c t
  do_over e h b p = refuses 101 Kernel.do_r do_acts e ReturnOverflow (λ k s. do_full (seen r i c t k s) (has_cells_lem r i c t k s lc 2 h) (lacks_return_room r i c t k s lt 3 b)) p

  pub do_bad : (e : Fault) → 2 ≤ deep r → 3 + deep_returns r ≤ 128 → Is false → Bad e BadToken → OnReturns 101 r i c t (Err e) r c t
  do_bad e h g b p = refuses 101 Kernel.do_r do_acts e BadToken (λ k s. do_no (seen r i c t k s) (has_cells_lem r i c t k s lc 2 h) (has_return_room_lem r i c t k s lt 3 g) (inline_is k s false b)) p

  pub do_done : (r1 r2 r3 r4 r5 : Registers) (t2 t3 t4 : List ℕ) (x y z : ℕ) → 2 ≤ deep r → 3 + deep_returns r ≤ 128 → Is true → x ≡ word → y ≡ top (deep r) c 1 → z ≡ top (deep r) c 0 → Popped r r1 c 2 → PushedReturn r1 r2 t t2 x → PushedReturn r2 r3 t2 t3 y → PushedReturn r3 r4 t3 t4 z → Skipped r4 r5 → OnReturns 101 r i c t (Ok tt) r5 c t4
  do_done r1 r2 r3 r4 r5 t2 t3 t4 x y z h g b px py pz u v2 v3 v4 w = λ again a k s.
      let m = seen r i c t k s in
      let e : seen r4 i c t4 k s ≡ pushed_returns (z ∷ y ∷ x ∷ []) (popped 2 m) =
      push_return_view r3 r4 i c c t3 t4 k s z v4 ∙ ap (pushed_returns (z ∷ [])) (push_return_view r2 r3 i c c t2 t3 k s y v3) ∙ ap (λ n. pushed_returns (z ∷ []) (pushed_returns (y ∷ []) n)) (push_return_view r1 r2 i c c t t2 k s x v2) ∙ ap (λ n. pushed_returns (z ∷ []) (pushed_returns (y ∷ []) (pushed_returns (x ∷ []) n))) (pop_view r r1 i c c t t k s 2 u) in
      let f : pushed_returns (z ∷ y ∷ x ∷ []) (popped 2 m) ≡ pushed_returns (top (deep r) c 0 ∷ top (deep r) c 1 ∷ word ∷ []) (popped 2 m) =
      ap (λ n. pushed_returns (n ∷ y ∷ x ∷ []) (popped 2 m)) pz ∙ ap (λ n. pushed_returns (top (deep r) c 0 ∷ n ∷ x ∷ []) (popped 2 m)) py ∙ ap (λ n. pushed_returns (top (deep r) c 0 ∷ top (deep r) c 1 ∷ n ∷ []) (popped 2 m)) px in
      do_acts again a m ∙ do_yes m (has_cells_lem r i c t k s lc 2 h) (has_return_room_lem r i c t k s lt 3 g) (inline_is k s true b)
      ∙ ap quietly (sym (skip_view r4 r5 i c c t4 t4 k s w ∙ ap past (e ∙ f)))

  pub loop_few : (e : Fault) → deep_returns r < 3 → Bad e ReturnUnderflow → OnReturns 102 r i c t (Err e) r c t
  loop_few e h p = refuses 102 Kernel.loop_r loop_acts e ReturnUnderflow (λ k s. loop_short (seen r i c t k s) (lacks_returns r i c t k s lt 3 h)) p

  pub loop_bad : (e : Fault) → 3 ≤ deep_returns r → Is false → Bad e BadToken → OnReturns 102 r i c t (Err e) r c t
  loop_bad e h b p = refuses 102 Kernel.loop_r loop_acts e BadToken (λ k s. loop_no (seen r i c t k s) (has_returns_lem r i c t k s lt 3 h) (inline_is k s false b)) p

  pub loop_done : (r' : Registers) (t' : List ℕ) (x : ℕ) → 3 ≤ deep_returns r → Is true → x ≡ word → ((i c : List ℕ) (k : List Mark) (s : Meaning) → seen r' i c t' k s ≡ turned 1 x (seen r i c t k s)) → OnReturns 102 r i c t (Ok tt) r' c t'
  loop_done r' t' x h b p v = λ again a k s.
      loop_acts again a (seen r i c t k s) ∙ loop_yes (seen r i c t k s) (has_returns_lem r i c t k s lt 3 h) (inline_is k s true b)
      ∙ ap quietly (sym (v i c k s ∙ ap (λ y. turned 1 y (seen r i c t k s)) p))

  pub plus_short : (e : Fault) → deep r < 1 → Bad e StackUnderflow → OnReturns 103 r i c t (Err e) r c t
  plus_short e h p = refuses 103 Kernel.plus_loop_r plus_loop_acts e StackUnderflow (λ k s. plus_loop_short (seen r i c t k s) (lacks_cells r i c t k s lc 1 h)) p

  pub plus_few : (e : Fault) → 1 ≤ deep r → deep_returns r < 3 → Bad e ReturnUnderflow → OnReturns 103 r i c t (Err e) r c t
  plus_few e h b p = λ again a k s. refused_popped (acts 103 again a) (seen r i c t k s) e ReturnUnderflow (plus_loop_acts again a (seen r i c t k s) ∙ plus_loop_few (seen r i c t k s) (has_cells_lem r i c t k s lc 1 h) (lacks_returns r i c t k s lt 3 b)) p

  pub plus_bad : (e : Fault) → 1 ≤ deep r → 3 ≤ deep_returns r → Is false → Bad e BadToken → OnReturns 103 r i c t (Err e) r c t
  plus_bad e h g b p = λ again a k s. refused_popped (acts 103 again a) (seen r i c t k s) e BadToken (plus_loop_acts again a (seen r i c t k s) ∙ plus_loop_no (seen r i c t k s) (has_cells_lem r i c t k s lc 1 h) (has_returns_lem r i c t k s lt 3 g) (inline_is k s false b)) p

  pub plus_done : (r1 r' : Registers) (t' : List ℕ) (x n : ℕ) → 1 ≤ deep r → 3 ≤ deep_returns r → Is true → x ≡ word → n ≡ top (deep r) c 0 → Popped r r1 c 1 → ((i c : List ℕ) (k : List Mark) (s : Meaning) → seen r' i c t' k s ≡ turned n x (seen r1 i c t k s)) → OnReturns 103 r i c t (Ok tt) r' c t'
  plus_done r1 r' t' x n h g b p q u v = λ again a k s.
      plus_loop_acts again a (seen r i c t k s) ∙ plus_loop_yes (seen r i c t k s) (has_cells_lem r i c t k s lc 1 h) (has_returns_lem r i c t k s lt 3 g) (inline_is k s true b)
      ∙ ap quietly (sym (v i c k s ∙ ap (turned n x) (pop_view r r1 i c c t t k s 1 u) ∙ ap (λ y. turned y x (popped 1 (seen r i c t k s))) q ∙ ap (λ y. turned (top (deep r) c 0) y (popped 1 (seen r i c t k s))) p))

-- one turn
pub turn_round : (r r1 r2 r3 : Registers) (t t2 : List ℕ) (n start index limit x : ℕ) → index ≡ top (deep_returns r) t 0 → limit ≡ top (deep_returns r) t 1 → passes (minus index limit) n ≡ false → x ≡ wrap (index + n) → PoppedReturns r r1 t 1 → PushedReturn r1 r2 t t2 x → Went r2 r3 start → (i c : List ℕ) (k : List Mark) (s : Meaning) → seen r3 i c t2 k s ≡ turned n start (seen r i c t k s)
turn_round r r1 r2 r3 t t2 n start index limit x p q e y u v w i c k s =
    let m = seen r i c t k s in
    let e' : passes (minus (top (deep_returns r) t 0) (top (deep_returns r) t 1)) n ≡ false = rw (p, q) at e in
    let y' : x ≡ wrap (top (deep_returns r) t 0 + n) = y ∙ ap (λ z. wrap (z + n)) p in
    go_view r2 r3 i c c t2 t2 k s start w
    ∙ ap (go_to start) (push_return_view r1 r2 i c c t t2 k s x v ∙ ap (pushed_returns (x ∷ [])) (pop_return_view r r1 i c t k s 1 u) ∙ ap (λ z. pushed_returns (z ∷ []) (popped_returns 1 m)) y')
    ∙ sym (rw e')

pub turn_out : (r r1 r2 : Registers) (t : List ℕ) (n start index limit : ℕ) → index ≡ top (deep_returns r) t 0 → limit ≡ top (deep_returns r) t 1 → passes (minus index limit) n ≡ true → PoppedReturns r r1 t 3 → Skipped r1 r2 → (i c : List ℕ) (k : List Mark) (s : Meaning) → seen r2 i c t k s ≡ turned n start (seen r i c t k s)
turn_out r r1 r2 t n start index limit p q e u w i c k s =
    let m = seen r i c t k s in
    let e' : passes (minus (top (deep_returns r) t 0) (top (deep_returns r) t 1)) n ≡ true = rw (p, q) at e in
    skip_view r1 r2 i c c t t k s w ∙ ap past (pop_return_view r r1 i c t k s 3 u) ∙ sym (rw e')
