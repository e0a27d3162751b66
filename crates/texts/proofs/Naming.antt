-- What is a name, and the ends of taking one.
use Rattle.std.proofs.Common.{◌≡◌, ℕ, zero, suc, ◌+◌, ◌<◌, ◌≤◌, Bool, true, false, ◌&&◌, eqb, ltb, leb, List, [], ◌∷◌, ◌++◌, length, get_or, take, drop, Ok, Err, sym, refl, ap, ◌∙◌, arith}
use Rattle.std.proofs.lemmas.Bool.Decides.{nat_tests}
use Rattle.std.proofs.lemmas.List.{drop_more, drop_all, length-append, length-drop, take_at}
use Rattle.fault.specs.declared.Fault.{Fault}
use Rattle.fault.specs.declared.Reason.TheVariants.{NothingFollows, BadName}
use Rattle.fault.specs.Numbers.{fault_of}
use Rattle.definition.specs.declared.ranged.Registers.{Registers}
use Rattle.definition.specs.Machine.{Machine}
use Rattle.definition.specs.Asked.{Asked, refused, given, ask, ◌>>◌}
use Rattle.definition.specs.Run.{cleared}
use Rattle.definition.specs.Text.{Taken, next_word, no_word_left, is_name, take_name}
use Rattle.steps.specs.Seats.{told_by}
use Rattle.steps.specs.Does.{seen}
use Rattle.entries.specs.Threads.{Ascii}
use Rattle.texts.specs.declared.name.Name.{Name}
use Rattle.texts.specs.Texts.{word_in, NoneLeft, TookWord}
use Rattle.texts.specs.Names.{graphic, name_of, TookName}

-- each byte is one of a name
abbrev pub are_graphic : List ℕ → Bool
are_graphic [] = true
are_graphic (b ∷ bs) = leb 33 b && leb b 126 && are_graphic bs

pub name_is : (bs : List ℕ) → is_name bs ≡ (leb 1 (length bs) && leb (length bs) 31 && are_graphic bs)
name_is bs = refl

pub long_is_none : (bs : List ℕ) → 31 < length bs → is_name bs ≡ false
long_is_none bs h = let a = are_graphic bs in let e : (leb 1 (length bs) && leb (length bs) 31 && a) ≡ false = grind (arith, nat_tests) in name_is bs ∙ e

pub empty_is_none : (bs : List ℕ) → length bs ≡ 0 → is_name bs ≡ false
empty_is_none bs h = let a = are_graphic bs in let e : (leb 1 (length bs) && leb (length bs) 31 && a) ≡ false = grind (arith, nat_tests) in name_is bs ∙ e

pub name_in_range : (bs : List ℕ) → 1 ≤ length bs → length bs ≤ 31 → is_name bs ≡ are_graphic bs
name_in_range bs h k = let a = are_graphic bs in let e : (leb 1 (length bs) && leb (length bs) 31 && a) ≡ a = grind (arith, nat_tests) in name_is bs ∙ e

head_yes : (b : ℕ) (a : Bool) → graphic b ≡ true → (leb 33 b && leb b 126 && a) ≡ a
head_yes b a h = grind (arith, nat_tests)

head_no : (b : ℕ) (a : Bool) → graphic b ≡ false → (leb 33 b && leb b 126 && a) ≡ false
head_no b a h = grind (arith, nat_tests)

pub graphic_more : (bs : List ℕ) (i : ℕ) → i < length bs → graphic (get_or bs i 0) ≡ true → are_graphic (drop i bs) ≡ are_graphic (drop (i + 1) bs)
graphic_more bs i h g = ap are_graphic (drop_more bs i 0 h) ∙ head_yes (get_or bs i 0) (are_graphic (drop (i + 1) bs)) g

pub graphic_stops : (bs : List ℕ) (i : ℕ) → i < length bs → graphic (get_or bs i 0) ≡ false → are_graphic (drop i bs) ≡ false
graphic_stops bs i h g = ap are_graphic (drop_more bs i 0 h) ∙ head_no (get_or bs i 0) (are_graphic (drop (i + 1) bs)) g

pub graphic_ends : (bs : List ℕ) (i : ℕ) → length bs ≤ i → are_graphic (drop i bs) ≡ true
graphic_ends bs i h = ap are_graphic (drop_all i bs h)

-- a name's bytes are below 128, and there are 1 to 31
head_low : (b : ℕ) (a : Bool) → (leb 33 b && leb b 126 && a) ≡ true → b < 128
head_low b a h = grind (arith, nat_tests)

tail_too : (b : ℕ) (a : Bool) → (leb 33 b && leb b 126 && a) ≡ true → a ≡ true
tail_too b a h = grind (arith, nat_tests)

graphic_ascii : (bs : List ℕ) → are_graphic bs ≡ true → Ascii bs
graphic_ascii [] h i = omega arith
graphic_ascii (b ∷ bs) h zero = head_low b (are_graphic bs) h
graphic_ascii (b ∷ bs) h (suc i) = graphic_ascii bs (tail_too b (are_graphic bs) h) i

least : (n : ℕ) (a : Bool) → (leb 1 n && leb n 31 && a) ≡ true → 1 ≤ n
least n a h = grind (arith, nat_tests)

most : (n : ℕ) (a : Bool) → (leb 1 n && leb n 31 && a) ≡ true → n ≤ 31
most n a h = grind (arith, nat_tests)

all_graphic : (n : ℕ) (a : Bool) → (leb 1 n && leb n 31 && a) ≡ true → a ≡ true
all_graphic n a h = grind (arith, nat_tests)

pub name_least : (bs : List ℕ) → is_name bs ≡ true → 1 ≤ length bs
name_least bs h = least (length bs) (are_graphic bs) (sym (name_is bs) ∙ h)

pub name_most : (bs : List ℕ) → is_name bs ≡ true → length bs ≤ 31
name_most bs h = most (length bs) (are_graphic bs) (sym (name_is bs) ∙ h)

pub name_ascii : (bs : List ℕ) → is_name bs ≡ true → Ascii bs
name_ascii bs h = graphic_ascii bs (all_graphic (length bs) (are_graphic bs) (sym (name_is bs) ∙ h))

-- a word copied to the front of 31 bytes
pub copy_size : (w v z : List ℕ) → v ≡ w → length z ≡ 31 → length w ≤ 31 → length (v ++ drop (length w) z) ≡ 31
copy_size w v z e l h = ap (λ (x : List ℕ). length (x ++ drop (length w) z)) e ∙ simp (length-append, length-drop) (omega arith)

pub copy_front : (w v z : List ℕ) → v ≡ w → take (length w) (v ++ drop (length w) z) ≡ w
copy_front w v z e = ap (λ (x : List ℕ). take (length w) (x ++ drop (length w) z)) e ∙ take_at w (drop (length w) z) (length w) refl

-- the ends of taking a name
none : (n : ℕ) → eqb n 0 ≡ true → ltb 0 n ≡ false
none n h = grind (arith, nat_tests)

some : (n : ℕ) → eqb n 0 ≡ false → ltb 0 n ≡ true
some n h = grind (arith, nat_tests)

asked_none : (m : Machine) → no_word_left m ≡ true → take_name m ≡ refused NothingFollows m
asked_none m h =
    rw (none (length (next_word m).bytes) h)

abbrev judged : Taken → Asked Taken
judged t = ask t.machine BadName (is_name t.bytes) >> given t

asked_bad : (m m' : Machine) (bs : List ℕ) → no_word_left m ≡ false → next_word m ≡ record { machine = m'; bytes = bs } → is_name bs ≡ false → take_name m ≡ refused BadName m'
asked_bad m m' bs h e g =
    ap (λ b. ask m NothingFollows b >> judged (next_word m)) (some (length (next_word m).bytes) h) ∙ ap judged e ∙ ap (λ b. ask m' BadName b >> given (record { machine = m'; bytes = bs })) g

asked_good : (m m' : Machine) (bs : List ℕ) → no_word_left m ≡ false → next_word m ≡ record { machine = m'; bytes = bs } → is_name bs ≡ true → take_name m ≡ given (record { machine = m'; bytes = bs })
asked_good m m' bs h e g =
    ap (λ b. ask m NothingFollows b >> judged (next_word m)) (some (length (next_word m).bytes) h) ∙ ap judged e ∙ ap (λ b. ask m' BadName b >> given (record { machine = m'; bytes = bs })) g

module _ (r r' : Registers) (i : List ℕ) where
  pub nothing_follows : (e : Fault) → NoneLeft r i r' → e ≡ fault_of NothingFollows (told_by r'.seat) → TookName r i (Err e) r'
  nothing_follows e w p = λ c t k s.
      rw (asked_none (seen r i c t k s) (w.1 c t k s)) (p ∙ ap (λ (x : Registers). fault_of NothingFollows (told_by x.seat)) w.0, ap (λ (x : Registers). cleared (seen x i c t k s)) (sym w.0))

  module _ (word : List ℕ) (w : TookWord r i word r') where
    pub bad_name : (e : Fault) → is_name word ≡ false → e ≡ fault_of BadName (told_by r'.seat) → TookName r i (Err e) r'
    bad_name e g p = λ c t k s.
        rw (asked_bad (seen r i c t k s) (seen r' i c t k s) (word_in r'.seat i) (w.2 c t k s).0 (w.2 c t k s).1 (ap is_name (sym w.1) ∙ g)) (p, refl)

    pub named : (n : Name) → is_name word ≡ true → name_of n ≡ word → TookName r i (Ok n) r'
    named n g e = λ c t k s.
        asked_good (seen r i c t k s) (seen r' i c t k s) (word_in r'.seat i) (w.2 c t k s).0 (w.2 c t k s).1 (ap is_name (sym w.1) ∙ g)
        ∙ ap (λ (x : List ℕ). given (record { machine = seen r' i c t k s; bytes = x })) (sym (e ∙ w.1))
