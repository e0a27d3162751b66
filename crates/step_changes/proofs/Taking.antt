-- What words take from the text, and what a search finds.
use Rattle.std.proofs.Common.{◌≡◌, ℕ, zero, suc, ◌+◌, ◌%◌, ◌<◌, ◌≤◌, Bool, true, false, eqb, ltb, leb, List, [], ◌∷◌, length, take, drop, Some, None, Option, refl, subst, arith, if◌then◌else◌}
use Rattle.std.proofs.lemmas.List.{length-take}
use Rattle.std.proofs.lemmas.Bool.{leb-true}
use Rattle.fault.specs.declared.Reason.TheVariants.{NothingFollows, BadName, BrokenLink}
use Rattle.image.specs.Cells.{at, cell_at, Bytes}
use Rattle.entries.specs.Entries.{first_at, token_of, spelled, head_at, is_named}
use Rattle.entries.specs.Search.{Found, missing, broken, hit, in_order, walk, search_in}
use Rattle.entries.specs.Threads.{Youngest}
use Rattle.entries.proofs.Walks.{in_parts, walk_youngest}
use Rattle.dictionary.specs.Dict.{Dict}
use Rattle.dictionary.specs.Search.{searched, or_else}
use Rattle.numbers.specs.Cells.{negated}
use Rattle.numbers.specs.Text.{number_in, magnitude_of}
use Rattle.numbers.specs.Text as writing
use Rattle.definition.specs.declared.registers.LastWord.{LastWord}
use Rattle.definition.specs.Machine.{Machine, blk, offset, reading_on, dict_of}
use Rattle.definition.specs.Asked.{Asked, refused, given, ask, ◌>>=◌, ◌>>◌}
use Rattle.definition.specs.Text.{Taken, buffer_of, text_of, before, next_word, is_name, take_name, take_to, ask_found, ask_there}
use Rattle.definition.specs.Kernel
use Rattle.definition.specs.Kernel.{Takes}
use Rattle.definition.specs.Words.{Argument, taken}
use Rattle.step_changes.specs.Steady.{Steady}
use Rattle.step_changes.proofs.Known.{known}
use Rattle.step_changes.proofs.Ranges.{bytes_none, bytes_more, bytes_behind, bytes_take, bytes_drop}
use Rattle.step_changes.proofs.Leading.{Gives, gives_on}
use Rattle.step_changes.proofs.Buffering.{Kept, with_reading, buffer_bytes}
use Rattle.step_changes.proofs.Defining.{InThread}

-- the text

text_bytes : (m : Machine) → Steady m → Bytes (text_of m)
text_bytes m s = either (eqb (blk m) 0)
  where
    either : (b : Bool) → Bytes (if b then take m.text.source.length m.text.line else buffer_of m)
    either true = bytes_take m.text.source.length m.text.line s.text.line
    either false = buffer_bytes m s

abbrev up_to : Machine → Option (List ℕ) → Asked Taken
up_to m None = refused NothingFollows m
up_to m (Some bs) = given (record { machine = reading_on (offset m + length bs + 1) m.text.source.word m; bytes = bs })

pub read_on : (m : Machine) → Steady m → (t : ℕ) (w : LastWord) → Steady (reading_on t w m)
read_on m s t w = with_reading m s _ w m.text.loads s.text.reads s.text.loads

pub next_steady : (m : Machine) → Steady m → Steady (next_word m).machine
next_steady m s = read_on m s _ _

-- the bytes before a byte are fewer

abbrev Fewer : ℕ → Option (List ℕ) → Type 0
Fewer n None = Unit {0}
Fewer n (Some ys) = (length ys < n) × Bytes ys

before_fewer : (b : ℕ) (xs : List ℕ) → Bytes xs → Fewer (length xs) (before b xs)
before_fewer b [] h = tt
before_fewer b (x ∷ xs) h = go (eqb x b) (before b xs) (before_fewer b xs (bytes_behind x xs h))
  where
    go : (q : Bool) (o : Option (List ℕ)) → Fewer (length xs) o → Fewer (suc (length xs)) (elim q [ true ↦ Some [] | false ↦ elim o [ None ↦ None | Some ys ↦ Some (x ∷ ys) ] ])
    go true o f = (omega arith, bytes_none)
    go false None f = tt
    go false (Some ys) f = (omega (arith, f.0), bytes_more x ys (h zero) f.1)

abbrev Quoted : ℕ → Machine → Taken → Type 0
Quoted n m t = Kept m t.machine × ((length t.bytes ≤ n) × Bytes t.bytes)

text_gives : (b n : ℕ) (m : Machine) → Steady m → Gives (Quoted n m) (take_to b n m)
text_gives b n m s = go (before b xs) (before_fewer b xs (bytes_take (suc n) (drop (offset m) (text_of m)) (bytes_drop (offset m) (text_of m) (text_bytes m s))))
  where
    xs : List ℕ
    xs = take (suc n) (drop (offset m) (text_of m))

    few : length xs ≤ suc n
    few = simp length-take (omega arith)

    go : (o : Option (List ℕ)) → Fewer (length xs) o → Gives (Quoted n m) (up_to m o)
    go None f = tt
    go (Some ys) f = ((read_on m s _ _, refl), (omega (arith, few, f.0), f.1))

-- the search

abbrev Whole : List ℕ → Found → Type 0
Whole low missing = Unit {0}
Whole low broken = Unit {0}
Whole low (hit e) = first_at low e + 2 ≤ length low

walk_whole : (n : ℕ) (low name : List ℕ) (before e : ℕ) → Whole low (walk n low (length low) name before e)
unfolding walk
walk_whole zero low name before e = tt
walk_whole (suc n) low name before e = go (eqb e 0) (in_order low (length low) before e) (is_named low e name) refl (walk_whole n low name e (cell_at low e))
  where
    go : (p q r : Bool) → in_order low (length low) before e ≡ q → Whole low (walk n low (length low) name e (cell_at low e)) → Whole low (elim p [ true ↦ missing | false ↦ elim q [ false ↦ broken | true ↦ elim r [ true ↦ hit e | false ↦ walk n low (length low) name e (cell_at low e) ] ] ])
    go true q r h k = tt
    go false false r h k = tt
    go false true true h k = (in_parts low (length low) before e h).2
    go false true false h k = k

search_whole : (low : List ℕ) (voc : ℕ) (name : List ℕ) → Whole low (search_in low voc name)
unfolding search_in
search_whole low voc name = walk_whole (suc (length low)) low (spelled name) (length low) (cell_at low (head_at voc (at (spelled name) 0)))

or_whole : (low : List ℕ) (f : Found) (g : Unit {0} → Found) → Whole low f → Whole low (g tt) → Whole low (or_else f g)
or_whole low missing g p q = q
or_whole low broken g p q = tt
or_whole low (hit e) g p q = p

searched_whole : (D : Dict) (name : List ℕ) → Whole D.low (searched D name)
unfolding searched
searched_whole D name =
    or_whole D.low (search_in D.low D.context name) _ (search_whole D.low D.context name)
    (or_whole D.low (search_in D.low D.current name) _ (search_whole D.low D.current name) (search_whole D.low 270 name))

-- the token of what is found is a cell
pub found_token : (m : Machine) → Steady m → (name : List ℕ) (e : ℕ) → searched (dict_of m) name ≡ hit e → token_of m.low e < 65536
unfolding first_at
found_token m s name e h = let w : Whole m.low (hit e) = subst (Whole m.low) h (searched_whole (dict_of m) name) in omega (arith, w, (known (dict_of m) s.came).room)

-- what CURRENT's thread holds
found_walk : (m : Machine) → Steady m → (name : List ℕ) (w : ℕ) → search_in m.low m.order.current name ≡ hit w → InThread m w
unfolding search_in
found_walk m s name w h =
    let head = cell_at m.low (head_at m.order.current (at (spelled name) 0)) in
    let y : Youngest m.low (spelled name) head (hit w) = subst (Youngest m.low (spelled name) head) h (walk_youngest m.low (length m.low) (spelled name) head refl (omega (arith, (known (dict_of m) s.came).long))) in
    record { thread = at (spelled name) 0 % 4; thread_lt = omega arith; walk = y.0 }

-- a number in the text is a cell

abbrev pub CellOr : Option ℕ → Type 0
CellOr None = Unit {0}
CellOr (Some n) = n < 65536

up_to_cell : (limit : ℕ) (f : ℕ → ℕ) → ((n : ℕ) → n ≤ limit → f n < 65536) → (o : Option ℕ) → CellOr (writing.up_to limit f o)
up_to_cell limit f h None = tt
up_to_cell limit f h (Some n) = go (leb n limit) refl
  where
    go : (b : Bool) → leb n limit ≡ b → CellOr (if◌then◌else◌ b (Some (f n)) None)
    go true e = h n (leb-true n limit e)
    go false e = tt

pub number_cell : (base : ℕ) (bs : List ℕ) → CellOr (number_in base bs)
number_cell base [] = tt
number_cell base (b ∷ bs) = go (eqb b 45)
  where
    go : (q : Bool) → CellOr (if◌then◌else◌ q (writing.up_to 32768 negated (magnitude_of base bs)) (writing.up_to 65535 (λ n. n) (magnitude_of base (b ∷ bs))))
    go true = up_to_cell 32768 negated (λ n h. omega arith) (magnitude_of base bs)
    go false = up_to_cell 65535 (λ n. n) (λ n h. omega arith) (magnitude_of base (b ∷ bs))

-- a name taken, and what is found for it

pub named_gives : {B : Type 0} (Q : B → Type 0) (m : Machine) (g : Taken → Asked B) → (is_name (next_word m).bytes ≡ true → Gives Q (g (next_word m))) → Gives Q (take_name m >>= g)
named_gives Q m g h = go (ltb 0 (length (next_word m).bytes)) (is_name (next_word m).bytes) refl
  where
    go : (b c : Bool) → is_name (next_word m).bytes ≡ c → Gives Q ((ask m NothingFollows b >> (ask (next_word m).machine BadName c >> given (next_word m))) >>= g)
    go false c e = tt
    go true false e = tt
    go true true e = h e

found_gives : {B : Type 0} (Q : B → Type 0) (m : Machine) (f : Found) (g : ℕ → Asked B) → ((e : ℕ) → f ≡ hit e → Gives Q (g e)) → Gives Q (ask_found m f >>= λ found. ask_there m found >>= g)
found_gives Q m missing g h = tt
found_gives Q m broken g h = tt
found_gives Q m (hit e) g h = h e refl

-- what a word has taken
abbrev pub Facts : Takes → Argument → Type 0
Facts Kernel.nothing a = Unit {0}
Facts Kernel.a_name a = is_name a.bytes ≡ true
Facts Kernel.a_word a = token_of a.machine.low a.entry < 65536
Facts Kernel.a_forgettable a = InThread a.machine a.entry
Facts Kernel.to_paren a = Unit {0}
Facts Kernel.to_quote a = (length a.bytes ≤ 255) × Bytes a.bytes

abbrev pub Took : Takes → Machine → Argument → Type 0
Took t m a = Kept m a.machine × Facts t a

pub taken_gives : (t : Takes) (m : Machine) → Steady m → Gives (Took t m) (taken t m)
unfolding taken
taken_gives Kernel.nothing m s = ((s, refl), tt)
taken_gives Kernel.a_name m s = named_gives (Took Kernel.a_name m) m _ (λ h. ((next_steady m s, refl), h))
taken_gives Kernel.a_word m s =
    named_gives (Took Kernel.a_word m) m _ (λ h.
    found_gives (Took Kernel.a_word m) (next_word m).machine (searched (dict_of m) (next_word m).bytes) _ (λ e f. ((next_steady m s, refl), found_token m s (next_word m).bytes e f)))
taken_gives Kernel.a_forgettable m s =
    named_gives (Took Kernel.a_forgettable m) m _ (λ h.
    found_gives (Took Kernel.a_forgettable m) (next_word m).machine (search_in m.low m.order.current (next_word m).bytes) _ (λ w f. forgettable w (found_walk m s (next_word m).bytes w f) _))
  where
    forgettable : (w : ℕ) → InThread m w → (b : Bool) → Gives (Took Kernel.a_forgettable m) (ask (next_word m).machine BrokenLink b >> given (record { machine = (next_word m).machine; bytes = (next_word m).bytes; entry = w }))
    forgettable w t true = ((next_steady m s, refl), record { thread = t.thread; thread_lt = t.thread_lt; walk = t.walk })
    forgettable w t false = tt
taken_gives Kernel.to_paren m s = gives_on (Quoted 1024 m) (Took Kernel.to_paren m) (take_to 41 1024 m) _ (text_gives 41 1024 m s) (λ t k. (k.0, tt))
taken_gives Kernel.to_quote m s = gives_on (Quoted 255 m) (Took Kernel.to_quote m) (take_to 34 255 m) _ (text_gives 34 255 m s) (λ t k. (k.0, k.1))
