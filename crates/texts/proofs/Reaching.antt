-- The text up to a byte.
use Rattle.std.proofs.Common.{◌≡◌, ℕ, zero, suc, ◌+◌, ◌-◌, ◌<◌, ◌≤◌, Bool, true, false, cond, not, ◌&&◌, eqb, ltb, leb, ◌⊎◌, List, [], ◌∷◌, length, take, drop, Some, None, Ok, Err, Option, sym, refl, ap, ◌∙◌, subst, inl, inr, arith}
use Rattle.std.specs.List.{prefix_len}
use Rattle.std.proofs.lemmas.Bool.Decides.{nat_tests}
use Rattle.std.proofs.lemmas.List.{length-take-le, length-drop, take-take, drop-take, drop-drop}
use Rattle.definition.specs.Machine.{Machine, offset, reading_on}
use Rattle.definition.specs.Asked.{Asked, refused, given}
use Rattle.fault.specs.declared.Reason.TheVariants.{NothingFollows}
use Rattle.definition.specs.Text.{Taken, text_of, take_to}
use Rattle.definition.specs.declared.ranged.Registers.{Registers}
use Rattle.fault.specs.declared.Fault.{Fault}
use Rattle.fault.specs.Numbers.{fault_of}
use Rattle.steps.specs.Seats.{told_by}
use Rattle.steps.specs.Does.{seen}
use Rattle.texts.specs.Texts.{text_start, text_length, text_in, differs, read_to}
use Rattle.texts.specs.Strings.{between, TookTo}
use Rattle.texts.proofs.Windows.{text_seen, text_long, text_short, text_low, read_view}

-- how many bytes come before the first b
abbrev until : ℕ → List ℕ → ℕ
until b [] = 0
until b (x ∷ xs) = elim (eqb x b) [ true ↦ 0 | false ↦ suc (until b xs) ]

until_is : (b : ℕ) (xs : List ℕ) → until b xs ≡ prefix_len (differs b) xs
until_is b [] = refl
until_is b (x ∷ xs) =
    let e = until_is b xs in
    elim (eqb x b) as (λ v. (elim v as (λ _. ℕ) [ true ↦ 0 | false ↦ suc (until b xs) ]) ≡ cond (not v) (1 + prefix_len (differs b) xs) 0) [ true ↦ refl | false ↦ omega arith ]

abbrev until_by : ℕ → List ℕ → Bool → ℕ
until_by b xs v = elim v as (λ _. ℕ) [ true ↦ 0 | false ↦ suc (until b xs) ]

until_cons : (b x : ℕ) (xs : List ℕ) (v : Bool) → eqb x b ≡ v → until b (x ∷ xs) ≡ until_by b xs v
until_cons b x xs v e = ap (until_by b xs) e

abbrev behind : ℕ → Option (List ℕ) → Option (List ℕ)
behind x o = elim o [ None ↦ None | Some ys ↦ Some (x ∷ ys) ]

abbrev came : Machine → Option (List ℕ) → Asked Taken
came m o = elim o [ None ↦ refused NothingFollows m | Some bs ↦ given (record { machine = reading_on (offset m + length bs + 1) m.text.source.word m; bytes = bs }) ]

-- the bytes before the first b, if it follows
abbrev up_to : ℕ → List ℕ → Option (List ℕ)
up_to b [] = None
up_to b (x ∷ xs) = elim (eqb x b) [ true ↦ Some [] | false ↦ elim (up_to b xs) [ None ↦ None | Some ys ↦ Some (x ∷ ys) ] ]

abbrev stepped : ℕ → List ℕ → ℕ → Bool → Option (List ℕ)
stepped x xs b v = elim v as (λ _. Option (List ℕ)) [ true ↦ Some [] | false ↦ behind x (up_to b xs) ]

step : (b x : ℕ) (xs : List ℕ) (n : ℕ) (v : Bool) → eqb x b ≡ v → up_to b (x ∷ take n xs) ≡ stepped x (take n xs) b v
step b x xs n v e = ap (stepped x (take n xs) b) e

abbrev Found : ℕ → List ℕ → Type 0
Found b xs = (n : ℕ) → until b xs < length xs → until b xs ≤ n → up_to b (take (suc n) xs) ≡ Some (take (until b xs) xs)

found_cons : (b x : ℕ) (xs : List ℕ) (v : Bool) → eqb x b ≡ v → Found b xs → Found b (x ∷ xs)
found_cons b x xs true e ih n h k = step b x xs n true e ∙ ap (λ j. Some (take j (x ∷ xs))) (sym (until_cons b x xs true e))
found_cons b x xs false e ih zero h k = let u = until_cons b x xs false e in absurd (omega arith)
found_cons b x xs false e ih (suc n) h k =
    let u = until_cons b x xs false e in
    step b x xs (suc n) false e ∙ ap (behind x) (ih n (omega arith) (omega arith)) ∙ ap (λ j. Some (take j (x ∷ xs))) (sym u)

found : (b : ℕ) (xs : List ℕ) → Found b xs
found b [] = λ n h k. absurd (omega arith)
found b (x ∷ xs) = found_cons b x xs (eqb x b) refl (found b xs)

abbrev Missed : ℕ → List ℕ → Type 0
Missed b xs = (n : ℕ) → (length xs ≤ until b xs) ⊎ (n < until b xs) → up_to b (take (suc n) xs) ≡ None

missed_cons : (b x : ℕ) (xs : List ℕ) (v : Bool) → eqb x b ≡ v → Missed b xs → Missed b (x ∷ xs)
missed_cons b x xs true e ih n (inl h) = let u = until_cons b x xs true e in absurd (omega arith)
missed_cons b x xs true e ih n (inr h) = let u = until_cons b x xs true e in absurd (omega arith)
missed_cons b x xs false e ih zero h = step b x xs 0 false e
missed_cons b x xs false e ih (suc n) (inl h) =
    let u = until_cons b x xs false e in
    step b x xs (suc n) false e ∙ ap (behind x) (ih n (inl (omega arith)))
missed_cons b x xs false e ih (suc n) (inr h) =
    let u = until_cons b x xs false e in
    step b x xs (suc n) false e ∙ ap (behind x) (ih n (inr (omega arith)))

missed : (b : ℕ) (xs : List ℕ) → Missed b xs
missed b [] = λ n h. refl
missed b (x ∷ xs) = missed_cons b x xs (eqb x b) refl (missed b xs)

abbrev rest_of : Machine → List ℕ
rest_of m = drop (offset m) (text_of m)

to_is : (b n : ℕ) (m : Machine) → take_to b n m ≡ came m (up_to b (take (suc n) (rest_of m)))
to_is b n m = refl

came_there : (b n : ℕ) (m : Machine) (rest : List ℕ) → rest_of m ≡ rest → prefix_len (differs b) rest < length rest → prefix_len (differs b) rest ≤ n → take_to b n m ≡ given (record { machine = reading_on (offset m + prefix_len (differs b) rest + 1) m.text.source.word m; bytes = take (prefix_len (differs b) rest) rest })
came_there b n m rest e h k =
    let u = until_is b rest in
    let l : length (take (prefix_len (differs b) rest) rest) ≡ prefix_len (differs b) rest = length-take-le (prefix_len (differs b) rest) rest (omega arith) in
    to_is b n m ∙ ap (λ (x : List ℕ). came m (up_to b (take (suc n) x))) e ∙ ap (came m) (found b rest n (omega arith) (omega arith)) ∙ ap (λ j. came m (Some (take j rest))) u
    ∙ ap (λ j. given (record { machine = reading_on (offset m + j + 1) m.text.source.word m; bytes = take (prefix_len (differs b) rest) rest })) l

came_not : (b n : ℕ) (m : Machine) (rest : List ℕ) → rest_of m ≡ rest → (length rest ≤ prefix_len (differs b) rest) ⊎ (n < prefix_len (differs b) rest) → take_to b n m ≡ refused NothingFollows m
came_not b n m rest e h =
    let u = until_is b rest in
    let P : ℕ → Type 0 = λ j. (length rest ≤ j) ⊎ (n < j) in
    to_is b n m ∙ ap (λ (x : List ℕ). came m (up_to b (take (suc n) x))) e ∙ ap (came m) (missed b rest n (subst P (sym u) h))

-- a part of a part of the image
part_of : (i : List ℕ) (start size from j : ℕ) → from + j ≤ size → take j (drop from (take size (drop start i))) ≡ between (start + from) (start + (from + j)) i
part_of i start size from j h =
    let e : from + (size - from) ≡ size = omega arith in
    let d : start + (from + j) - (start + from) ≡ j = omega arith in
    ap (λ z. take j (drop from (take z (drop start i)))) (sym e)
    ∙ ap (take j) (drop-take from (size - from) (drop start i))
    ∙ take-take j (size - from) (drop from (drop start i)) (omega arith)
    ∙ ap (take j) (drop-drop from start i)
    ∙ ap (λ z. take z (drop (start + from) i)) (sym d)

module _ (r : Registers) (i : List ℕ) (li : length i ≡ 65536) (b n f end L : ℕ) (x : List ℕ) (pf : f ≡ r.seat.source.position.offset) (px : x ≡ text_in r.seat i) (pl : L ≡ length x) (p : end ≡ f + prefix_len (differs b) (drop f x)) where
  abbrev rest : List ℕ
  rest = drop r.seat.source.position.offset (text_in r.seat i)

  abbrev run : ℕ
  run = prefix_len (differs b) rest

  end_is : end ≡ r.seat.source.position.offset + run
  end_is = p ∙ ap (λ z. z + prefix_len (differs b) (drop z x)) pf ∙ ap (λ (z : List ℕ). r.seat.source.position.offset + prefix_len (differs b) (drop r.seat.source.position.offset z)) px

  size_is : L ≡ text_length r.seat
  size_is = pl ∙ ap length px ∙ text_long r i li

  rest_long : length rest ≡ text_length r.seat - r.seat.source.position.offset
  rest_long = length-drop r.seat.source.position.offset (text_in r.seat i) ∙ ap (λ z. z - r.seat.source.position.offset) (text_long r i li)

  late_by : (v : Bool) → ltb end L ≡ v → (ltb end L && leb end (f + n)) ≡ false → (length rest ≤ run) ⊎ (n < run)
  late_by true h g = inr (let e = end_is in let g' : (true && leb end (f + n)) ≡ false = ap (λ z. z && leb end (f + n)) (sym h) ∙ g in let k : f + n < end = grind (arith, nat_tests) in omega arith)
  late_by false h g = inl (let e = end_is in let z = size_is in let l = rest_long in let k : L ≤ end = grind (arith, nat_tests) in omega arith)

  pub too_late : (e : Fault) → (ltb end L && leb end (f + n)) ≡ false → e ≡ fault_of NothingFollows (told_by r.seat) → TookTo b n r i (Err e) r
  too_late e g q = λ c t k s.
      rw (came_not b n (seen r i c t k s) rest (ap (drop r.seat.source.position.offset) (text_seen r i c t k s)) (late_by (ltb end L) refl g)) (q, refl)

  module _ (g : (ltb end L && leb end (f + n)) ≡ true) where
    before_end : end < L
    before_end = grind (arith, nat_tests)

    near : end ≤ f + n
    near = grind (arith, nat_tests)

    pub end_short : end + 1 ≤ 1024
    end_short = let a = before_end in let z = size_is in let m = text_short r in omega arith

    pub taken_to : (start : ℕ) (r' : Registers) → start ≡ text_start r.seat → r'.shared ≡ r.shared → r'.seat ≡ read_to (end + 1) r.seat.source.word r.seat → TookTo b n r i (Ok (start + f, start + end)) r'
    taken_to start r' ps u w =
        let a = before_end in
        let d = near in
        let e = end_is in
        let z = size_is in
        let l = rest_long in
        let lo = text_low r in (
          omega arith,
          omega arith,
          omega arith,
          λ c t k s.
              let m = seen r i c t k s in
              came_there b n m rest (ap (drop r.seat.source.position.offset) (text_seen r i c t k s)) (omega arith) (omega arith)
              ∙ ap (λ y. given (record { machine = reading_on (y + 1) r.seat.source.word m; bytes = take run rest })) (sym e)
              ∙ ap (λ (y : Machine). given (record { machine = y; bytes = take run rest })) (sym (read_view r r' (end + 1) r.seat.source.word u w i c t k s))
              ∙ ap (λ (y : List ℕ). given (record { machine = seen r' i c t k s; bytes = y })) (part_of i (text_start r.seat) (text_length r.seat) r.seat.source.position.offset run (omega arith))
              ∙ ap (λ y. given (record { machine = seen r' i c t k s; bytes = between (text_start r.seat + r.seat.source.position.offset) (text_start r.seat + y) i })) (sym e)
              ∙ ap (λ y. given (record { machine = seen r' i c t k s; bytes = between (text_start r.seat + y) (text_start r.seat + end) i })) (sym pf)
              ∙ ap (λ y. given (record { machine = seen r' i c t k s; bytes = between (y + f) (y + end) i })) (sym ps),
        )
