-- The text of the machine in registers and image, and the next word of it.
use Rattle.std.proofs.Common.{◌≡◌, ℕ, ◌+◌, ◌-◌, ◌≤◌, min, Bool, true, false, cond, eqb, List, length, take, drop, sym, refl, ap, ◌∙◌, arith, if◌then◌else◌}
use Rattle.std.specs.List.{prefix_len}
use Rattle.std.proofs.lemmas.List.Sums.{prefix_len-le-length}
use Rattle.std.proofs.lemmas.Bool.Decides.{nat_tests}
use Rattle.std.proofs.lemmas.List.{length-drop, length-take-le, take-take, drop-take, drop-drop}
use Rattle.store.specs.Meaning.{Meaning}
use Rattle.image.specs.Views.{line_of, high_of}
use Rattle.definition.specs.declared.registers.Mark.{Mark}
use Rattle.definition.specs.declared.registers.LastWord.{LastWord}
use Rattle.definition.specs.declared.registers.Seat.{Seat}
use Rattle.definition.specs.declared.ranged.Registers.{Registers}
use Rattle.definition.specs.Machine.{Machine, offset, reading_on}
use Rattle.definition.specs.Text.{Taken, separates, gap, word_length, text_of, next_word, no_word_left}
use Rattle.definition.specs.View.{lent, view_of}
use Rattle.steps.specs.Does.{seen}
use Rattle.texts.specs.Texts.{text_start, text_length, text_in, word_in, other, read_to, NextIs, NoneLeft, TookWord}
use Rattle.texts.proofs.Runs.{gap_is, word_is, run_in}

buffer_in : (n : ℕ) (i : List ℕ) → 34048 ≤ n → take 1024 (drop 256 (high_of n i)) ≡ take 1024 (drop 33024 i)
unfolding high_of
buffer_in n i h =
    let e : n - 32768 ≡ 256 + (n - 33024) = omega arith in
    ap (λ z. take 1024 (drop 256 (take z (drop 32768 i)))) e
    ∙ ap (take 1024) (drop-take 256 (n - 33024) (drop 32768 i))
    ∙ take-take 1024 (n - 33024) (drop 256 (drop 32768 i)) (omega arith)
    ∙ ap (take 1024) (drop-drop 256 32768 i)

line_in : (n : ℕ) (i : List ℕ) → n ≤ 128 → take n (line_of i) ≡ take n (drop 128 i)
unfolding line_of
line_in n i h = take-take n 128 (drop 128 i) h

text_by : (b : Bool) (n here : ℕ) (i : List ℕ) → n ≤ 128 → 34048 ≤ here → (if b then take n (line_of i) else take 1024 (drop 256 (high_of here i))) ≡ take (cond b n 1024) (drop (cond b 128 33024) i)
text_by true n here i h k = line_in n i h
text_by false n here i h k = buffer_in here i k

-- the text lies in the image
pub text_seen : (r : Registers) (i c t : List ℕ) (k : List Mark) (s : Meaning) → text_of (seen r i c t k s) ≡ text_in r.seat i
text_seen r i c t k s = text_by (eqb r.seat.source.position.blk 0) r.seat.source.length r.shared.ends.here i r.line r.space

short_by : (b : Bool) (n : ℕ) → n ≤ 128 → cond b n 1024 ≤ 1024
short_by true n h = omega arith
short_by false n h = omega arith

fits_by : (b : Bool) (n : ℕ) → n ≤ 128 → cond b 128 33024 + cond b n 1024 ≤ 34048
fits_by true n h = omega arith
fits_by false n h = omega arith

pub text_short : (r : Registers) → text_length r.seat ≤ 1024
text_short r = short_by (eqb r.seat.source.position.blk 0) r.seat.source.length r.line

pub text_low : (r : Registers) → text_start r.seat + text_length r.seat ≤ 34048
text_low r = fits_by (eqb r.seat.source.position.blk 0) r.seat.source.length r.line

pub text_long : (r : Registers) (i : List ℕ) → length i ≡ 65536 → length (text_in r.seat i) ≡ text_length r.seat
text_long r i l = let b = text_low r in length-take-le (text_length r.seat) (drop (text_start r.seat) i) (simp length-drop (omega arith))

-- the next word by its place
abbrev placed : List ℕ → ℕ → LastWord
placed text from = record { start = from + gap (drop from text); length = word_length (drop (gap (drop from text)) (drop from text)) }

placed_is : (text : List ℕ) (from start n : ℕ) → start ≡ from + prefix_len separates (drop from text) → n ≡ prefix_len other (drop start text) → placed text from ≡ record { start = start; length = n }
placed_is text from start n p q =
    let g : from + gap (drop from text) ≡ start = ap (λ n. from + n) (gap_is (drop from text)) ∙ sym p in
    let w : word_length (drop (gap (drop from text)) (drop from text)) ≡ n = word_is (drop (gap (drop from text)) (drop from text)) ∙ ap (prefix_len other) (drop-drop (gap (drop from text)) from text ∙ ap (λ n. drop n text) g) ∙ sym q in
    ap (λ n. record { start = n; length = word_length (drop (gap (drop from text)) (drop from text)) }) g ∙ ap (λ n. record { start = start; length = n }) w

-- it lies in the text, if there is one
placed_in : (text : List ℕ) (from : ℕ) → 1 ≤ (placed text from).length → (placed text from).start + (placed text from).length ≤ length text
placed_in text from h =
    let rest = drop from text in
    let g : gap rest ≤ length rest = rw (gap_is rest) (prefix_len-le-length separates rest) in
    let w : word_length (drop (gap rest) rest) ≤ length (drop (gap rest) rest) = rw (word_is (drop (gap rest) rest)) (prefix_len-le-length other (drop (gap rest) rest)) in
    let a = length-drop (gap rest) rest in
    let b = length-drop from text in
    omega arith

-- where the next word begins: so many separators come first in the rest of the text
pub begins : (r : Registers) (i : List ℕ) (o n : ℕ) (rest x : List ℕ) → o ≡ r.seat.source.position.offset → n ≡ prefix_len separates rest → rest ≡ drop o x → x ≡ text_in r.seat i → o + n ≡ r.seat.source.position.offset + prefix_len separates (drop r.seat.source.position.offset (text_in r.seat i))
begins r i o n rest x a e d b = ap (λ z. z + n) a ∙ ap (λ z. r.seat.source.position.offset + z) (run_in separates n o r.seat.source.position.offset rest x (text_in r.seat i) e d a b)

module _ (r : Registers) (i : List ℕ) (li : length i ≡ 65536) where
  abbrev text : List ℕ
  text = text_in r.seat i

  abbrev from : ℕ
  from = r.seat.source.position.offset

  pub start_short : (start : ℕ) → start ≡ from + prefix_len separates (drop from text) → start ≤ 1024
  start_short start p =
      let a = prefix_len-le-length separates (drop from text) in
      let b = length-drop from text in
      let l = text_long r i li in
      let m = text_short r in
      let o = r.text in
      omega arith

  module _ (start n : ℕ) (p : start ≡ from + prefix_len separates (drop from text)) (q : n ≡ prefix_len other (drop start text)) where
    pub next_is : NextIs r i (record { start = start; length = n })
    next_is c t k s = ap (λ (x : List ℕ). placed x from) (text_seen r i c t k s) ∙ placed_is text from start n p q

    pub next_inside : 1 ≤ n → start + n ≤ text_length r.seat
    next_inside h =
        let e = placed_is text from start n p q in
        let l = text_long r i li in
        let a : (placed text from).start ≡ start = ap (λ (w : LastWord). w.start) e in
        let b : (placed text from).length ≡ n = ap (λ (w : LastWord). w.length) e in
        let d = placed_in text from (omega arith) in
        omega arith

    pub word_short : n ≤ 1024
    word_short =
        let a = prefix_len-le-length other (drop start text) in
        let b = length-drop start text in
        let l = text_long r i li in
        let m = text_short r in
        omega arith

-- the machine behind what was read
pub read_view : (r r' : Registers) (n : ℕ) (w : LastWord) → r'.shared ≡ r.shared → r'.seat ≡ read_to n w r.seat → (i c t : List ℕ) (k : List Mark) (s : Meaning) → seen r' i c t k s ≡ reading_on n w (seen r i c t k s)
read_view r r' n w p q i c t k s =
    ap (λ h. view_of h r'.seat (lent i c t k) s) p
    ∙ ap (λ h. view_of r.shared h (lent i c t k) s) q

-- what is taken, by the place of the word
abbrev taken_as : LastWord → List ℕ → Machine → Taken
taken_as w text m = record { machine = reading_on (min (length text) (w.start + w.length + 1)) w m; bytes = take w.length (drop w.start text) }

next_by : (m : Machine) → next_word m ≡ taken_as (next_word m).machine.text.source.word (text_of m) m
next_by m = ap (λ (x : List ℕ). record { machine = (next_word m).machine; bytes = take (next_word m).machine.text.source.word.length x }) (drop-drop (gap (drop (offset m) (text_of m))) (offset m) (text_of m))

next_length : (m : Machine) → length (next_word m).bytes ≡ (next_word m).machine.text.source.word.length
next_length m =
    let word = drop (gap (drop (offset m) (text_of m))) (drop (offset m) (text_of m)) in
    length-take-le (word_length word) word (rw (word_is word) (prefix_len-le-length other word))

left_by_lem : (m : Machine) (n : ℕ) → (next_word m).machine.text.source.word.length ≡ n → no_word_left m ≡ eqb n 0
left_by_lem m n e = ap (λ x. eqb x 0) (next_length m ∙ e)

module _ (r : Registers) (i : List ℕ) (li : length i ≡ 65536) (w : LastWord) (next : NextIs r i w) where
  pub none_left : w.length ≡ 0 → NoneLeft r i r
  none_left h = (refl, λ c t k s. left_by_lem (seen r i c t k s) 0 (ap (λ (x : LastWord). x.length) (next c t k s) ∙ h))

  pub took : (r' : Registers) (word : List ℕ) → 1 ≤ w.length → w.start + w.length ≤ text_length r.seat → r'.shared ≡ r.shared → r'.seat ≡ read_to (min (text_length r.seat) (w.start + w.length + 1)) w r.seat → word ≡ word_in r'.seat i → TookWord r i word r'
  took r' word h b p q e = (
    rw q b,
    e,
    λ c t k s.
        let m = seen r i c t k s in
        let o : eqb w.length 0 ≡ false = grind (arith, nat_tests) in (
          left_by_lem m w.length (ap (λ (x : LastWord). x.length) (next c t k s)) ∙ o,
          next_by m
              ∙ ap (λ x. taken_as x (text_of m) m) (next c t k s)
              ∙ ap (λ (x : List ℕ). taken_as w x m) (text_seen r i c t k s)
              ∙ ap (λ x. record { machine = reading_on (min x (w.start + w.length + 1)) w m; bytes = take w.length (drop w.start (text_in r.seat i)) }) (text_long r i li)
              ∙ ap (λ (x : Machine). record { machine = x; bytes = take w.length (drop w.start (text_in r.seat i)) }) (sym (read_view r r' (min (text_length r.seat) (w.start + w.length + 1)) w p q i c t k s))
              ∙ ap (λ (x : Seat). record { machine = seen r' i c t k s; bytes = word_in x i }) (sym q),
        ),
  )
