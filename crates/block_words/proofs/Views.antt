-- The buffer as the machine sees it, and what the store's answers come to.
use Rattle.std.proofs.Common.{◌≡◌, ℕ, ◌+◌, ◌-◌, ◌<◌, ◌≤◌, Bool, true, false, eqb, ltb, ◌⊎◌, List, ◌++◌, length, take, drop, Some, None, Ok, Err, Option, Result, sym, refl, ap, ◌∙◌, subst, inl, inr, arith, take-append-drop, take-take, if◌then◌else◌}
use Rattle.std.proofs.lemmas.List.{drop-take, drop-drop, length-take, length-drop}
use Rattle.std.proofs.lemmas.Bool.Decides.{nat_tests}
use Rattle.fault.specs.declared.Fault.{Fault}
use Rattle.fault.specs.declared.Place.{Place}
use Rattle.fault.specs.declared.Reason.{Reason}
use Rattle.fault.specs.declared.Reason.TheVariants.{NoBlock, NotWritable}
use Rattle.fault.specs.Numbers.{fault_of}
use Rattle.store.specs.Meaning.{Meaning, block, written}
use Rattle.image.specs.Views.{low_of, high_of, line_of}
use Rattle.image.specs.Writes.{overwritten}
use Rattle.image.proofs.Laws.{low_kept, line_kept, high_within}
use Rattle.image.proofs.Overwriting.{take-before}
use Rattle.definition.specs.declared.registers.Buffer.{Buffer}
use Rattle.definition.specs.declared.registers.Mark.{Mark}
use Rattle.definition.specs.declared.ranged.Registers.{Registers}
use Rattle.definition.specs.Machine.{Machine, told, with_blocks}
use Rattle.definition.specs.Asked.{Asked, refused, given, ◌>>=◌}
use Rattle.definition.specs.Run.{cleared}
use Rattle.definition.specs.View.{lent, view_of}
use Rattle.definition.specs.Text.{buffer_of}
use Rattle.definition.specs.Space.{stored}
use Rattle.definition.specs.Blocks.{is_held, written_to, saved, read_from, brought}
use Rattle.steps.specs.Seats.{told_by}
use Rattle.steps.specs.Does.{seen, IsRefused}
use Rattle.block_words.specs.Buffers.{Comes, Brings, holding, with_buffer}

yes : (n k : ℕ) → n < k → ltb n k ≡ true
yes n k h = grind (arith, nat_tests)

no : (n k : ℕ) → k ≤ n → ltb n k ≡ false
no n k h = grind (arith, nat_tests)

-- the buffer's bytes
high_buffer : (h : ℕ) (i : List ℕ) → 34048 ≤ h → take 1024 (drop 256 (high_of h i)) ≡ take 1024 (drop 33024 i)
unfolding high_of
high_buffer h i l =
    let n : h - 32768 ≡ 256 + (h - 33024) = omega arith in
    ap (λ z. take 1024 (drop 256 (take z (drop 32768 i)))) n
    ∙ ap (take 1024) (drop-take 256 (h - 33024) (drop 32768 i))
    ∙ take-take 1024 (h - 33024) (drop 256 (drop 32768 i)) (omega arith)
    ∙ ap (take 1024) (drop-drop 256 32768 i)

pub buffer_seen : (r : Registers) (i c t : List ℕ) (k : List Mark) (s : Meaning) → buffer_of (seen r i c t k s) ≡ take 1024 (drop 33024 i)
buffer_seen r i c t k s = high_buffer r.shared.ends.here i r.space

-- registers whose buffer was assigned, over a store
pub record Assigned (r r' : Registers) (b : Buffer) : Type 0 where
  pub shared : r'.shared ≡ with_buffer b r.shared
  pub seat : r'.seat ≡ r.seat

pub blocks_view : (r r' : Registers) (b : Buffer) (i c t : List ℕ) (k : List Mark) (s s' : Meaning) → Assigned r r' b → seen r' i c t k s' ≡ with_blocks b.held b.updated s' (seen r i c t k s)
blocks_view r r' b i c t k s s' a =
    ap (λ y. view_of y r'.seat (lent i c t k) s') a.shared ∙ ap (λ y. view_of (with_buffer b r.shared) y (lent i c t k) s') a.seat

pub refuses_on : {A B : Type 0} (x : Asked A) (f : A → Asked B) (e : Fault) (m : Machine) → IsRefused x e m → IsRefused (x >>= f) e m
refuses_on (refused why m') f e m h = h
refuses_on (given a) f e m h = absurd h

-- how the definition comes to its answers
saved_not : (m : Machine) → m.buffer.updated ≡ false → saved m ≡ given m
saved_not m p = rw p

abbrev out : Machine → Option ℕ → Asked Machine
out m None = given m
out m (Some n) = written_to n m

if_updated : (m : Machine) → m.buffer.updated ≡ true → saved m ≡ out m m.buffer.held
if_updated m p = ap (λ u. if u then elim m.buffer.held [ None ↦ given m | Some n ↦ written_to n m ] else given m) p ∙ at m.buffer.held
  where
    at : (h : Option ℕ) → elim h [ None ↦ given m | Some n ↦ written_to n m ] ≡ out m h
    at None = refl
    at (Some n) = refl

saved_none : (m : Machine) → m.buffer.updated ≡ true → m.buffer.held ≡ None → saved m ≡ given m
saved_none m p q = if_updated m p ∙ ap (out m) q

saved_some : (m : Machine) (n : ℕ) → m.buffer.updated ≡ true → m.buffer.held ≡ Some n → saved m ≡ written_to n m
saved_some m n p q = if_updated m p ∙ ap (out m) q

written_done : (m : Machine) (n : ℕ) → ltb n m.store.count ≡ true → m.store.writable ≡ true → written_to n m ≡ given (with_blocks (Some n) false (written m.store n (buffer_of m)) m)
written_done m n p q = rw (p, q)

written_beyond : (m : Machine) (n : ℕ) → ltb n m.store.count ≡ false → written_to n m ≡ refused NoBlock m
written_beyond m n p = rw p

written_locked : (m : Machine) (n : ℕ) → ltb n m.store.count ≡ true → m.store.writable ≡ false → written_to n m ≡ refused NotWritable m
written_locked m n p q = rw (p, q)

read_from_lem : (m : Machine) (n : ℕ) → ltb n m.store.count ≡ true → read_from n m ≡ given (with_blocks (Some n) false m.store (stored 33024 (block m.store n) m))
read_from_lem m n p = rw p

read_beyond : (m : Machine) (n : ℕ) → ltb n m.store.count ≡ false → read_from n m ≡ refused NoBlock m
read_beyond m n p = rw p

brought_held : (m : Machine) (n : ℕ) → is_held n m ≡ true → brought n m ≡ given m
brought_held m n p = rw p

brought_not : (m : Machine) (n : ℕ) → is_held n m ≡ false → brought n m ≡ (saved m >>= read_from n)
brought_not m n p = rw p

pub refuses_at : {A : Type 0} (x : Asked A) (why : Reason) (m m' : Machine) (e : Fault) → x ≡ refused why m → e ≡ fault_of why (told m) → cleared m ≡ cleared m' → IsRefused x e m'
refuses_at x why m m' e p q f = rw p (q, f)

-- an updated buffer written out
module _ (r : Registers) (i : List ℕ) (s : Meaning) where
  pub not_updated : r.shared.buffer.updated ≡ false → Brings saved r i s (Ok tt) r i s
  not_updated p c t k = saved_not (seen r i c t k s) p

  pub none_held : r.shared.buffer.held ≡ None → Brings saved r i s (Ok tt) r i s
  none_held p c t k = at r.shared.buffer.updated refl
    where
      at : (u : Bool) → r.shared.buffer.updated ≡ u → saved (seen r i c t k s) ≡ given (seen r i c t k s)
      at true q = saved_none (seen r i c t k s) q p
      at false q = saved_not (seen r i c t k s) q

  module _ (n : ℕ) (p : r.shared.buffer.updated ≡ true) (q : r.shared.buffer.held ≡ Some n) where
    writes : (c t : List ℕ) (k : List Mark) → saved (seen r i c t k s) ≡ written_to n (seen r i c t k s)
    writes c t k = saved_some (seen r i c t k s) n p q

    pub wrote : (r' : Registers) (b : Buffer) (s' : Meaning) → n < s.count → s.writable ≡ true → s' ≡ written s n (take 1024 (drop 33024 i)) → b ≡ record { held = Some n; updated = false } → Assigned r r' b → Brings saved r i s (Ok tt) r' i s'
    wrote r' b s' l w e f a c t k =
        let m = seen r i c t k s in
        writes c t k ∙ written_done m n (yes n s.count l) w ∙ ap given (
        ap (λ y. with_blocks (Some n) false (written s n y) m) (buffer_seen r i c t k s)
        ∙ ap (λ y. with_blocks (Some n) false y m) (sym e)
        ∙ ap (λ (y : Buffer). with_blocks y.held y.updated s' m) (sym f)
        ∙ sym (blocks_view r r' b i c t k s s' a))

    pub write_refused : (s' : Meaning) (e : Fault) (at : Place) → at ≡ told_by r.seat → (s' ≡ s) × (((s.count ≤ n) × (e ≡ fault_of NoBlock at)) ⊎ ((n < s.count) × (s.writable ≡ false) × (e ≡ fault_of NotWritable at))) → Brings saved r i s (Err e) r i s'
    write_refused s' e at q h c t k = subst (λ y. IsRefused y e (seen r i c t k s')) (sym (writes c t k)) (either h.1)
      where
        m : Machine
        m = seen r i c t k s

        same : cleared (seen r i c t k s) ≡ cleared (seen r i c t k s')
        same = ap (λ y. cleared (seen r i c t k y)) (sym h.0)

        either : ((s.count ≤ n) × (e ≡ fault_of NoBlock at)) ⊎ ((n < s.count) × (s.writable ≡ false) × (e ≡ fault_of NotWritable at)) → IsRefused (written_to n (seen r i c t k s)) e (seen r i c t k s')
        either (inl g) = refuses_at (written_to n m) NoBlock m (seen r i c t k s') e (written_beyond m n (no n s.count g.0)) (g.1 ∙ ap (fault_of NoBlock) q) same
        either (inr g) = refuses_at (written_to n m) NotWritable m (seen r i c t k s') e (written_locked m n (yes n s.count g.0) g.1) (g.2 ∙ ap (fault_of NotWritable) q) same

-- a machine with other bytes
abbrev rewritten : Machine → List ℕ → List ℕ → List ℕ → Machine
rewritten m low high line = record { low = low; high = high; stacks = m.stacks; text = record { line = line; source = m.text.source; loads = m.text.loads }; names = m.names; order = m.order; flow = m.flow; buffer = m.buffer; store = m.store }

-- a block read in
module _ (r : Registers) (i : List ℕ) (s : Meaning) (n : ℕ) where
  pub read_refused : (i' : List ℕ) (e : Fault) → s.count ≤ n → e ≡ fault_of NoBlock (told_by r.seat) → i' ≡ i → Brings (read_from n) r i s (Err e) r i' s
  read_refused i' e l g f c t k = refuses_at (read_from n (seen r i c t k s)) NoBlock (seen r i c t k s) (seen r i' c t k s) e (read_beyond (seen r i c t k s) n (no n s.count l)) g (ap (λ y. cleared (seen r y c t k s)) (sym f))

  -- the buffer's part of the image filled
  pub filled : (i' new : List ℕ) (c t : List ℕ) (k : List Mark) → length i ≡ 65536 → length new ≡ 1024 → i' ≡ overwritten 33024 new i → seen r i' c t k s ≡ stored 33024 new (seen r i c t k s)
  unfolding overwritten high_of
  filled i' new c t k l ln e =
      let f : 33024 + length new ≤ length i = omega (arith, ln) in
      ap (λ y. seen r y c t k s) e
      ∙ ap (λ y. rewritten (seen r i c t k s) y (high_of r.shared.ends.here (overwritten 33024 new i)) (line_of (overwritten 33024 new i))) (low_kept 33024 new i f r.shared.ends.dp (omega (arith, r.top)))
      ∙ ap (λ y. rewritten (seen r i c t k s) (low_of r.shared.ends.dp i) y (line_of (overwritten 33024 new i))) (high_within 33024 new i f r.shared.ends.here (omega arith) (omega (arith, r.space, ln)) (omega (arith, r.limit)))
      ∙ ap (λ y. rewritten (seen r i c t k s) (low_of r.shared.ends.dp i) (overwritten 256 new (high_of r.shared.ends.here i)) y) (line_kept 33024 new i f (omega arith))

  pub read_done : (r' : Registers) (b : Buffer) (i' new : List ℕ) → length i ≡ 65536 → n < s.count → new ≡ block s n → length new ≡ 1024 → i' ≡ overwritten 33024 new i → b ≡ record { held = Some n; updated = false } → Assigned r r' b → Brings (read_from n) r i s (Ok tt) r' i' s
  read_done r' b i' new li l g ln e f a c t k =
      read_from_lem (seen r i c t k s) n (yes n s.count l) ∙ ap given (
      ap (λ y. with_blocks (Some n) false s (stored 33024 y (seen r i c t k s))) (sym g)
      ∙ ap (λ y. with_blocks (Some n) false s y) (sym (filled i' new c t k li ln e))
      ∙ ap (λ (y : Buffer). with_blocks y.held y.updated s (seen r i' c t k s)) (sym f)
      ∙ sym (blocks_view r r' b i' c t k s s a))

  pub below_same : (i' new : List ℕ) → length i ≡ 65536 → length new ≡ 1024 → i' ≡ overwritten 33024 new i → take 256 i' ≡ take 256 i
  below_same i' new l ln e = ap (take 256) e ∙ take-before 256 33024 new i (omega arith) (omega arith)

-- bytes put back where they were
long : (a k : ℕ) (xs : List ℕ) → a + k ≤ length xs → length (take k (drop a xs)) ≡ k
long a k xs h = simp (length-take, length-drop) (omega arith)

same_bytes : (a k : ℕ) (xs : List ℕ) → a + k ≤ length xs → overwritten a (take k (drop a xs)) xs ≡ xs
unfolding overwritten
same_bytes a k xs h =
    ap (λ z. take a xs ++ (take k (drop a xs) ++ drop (a + z) xs)) (long a k xs h)
    ∙ ap (λ (z : List ℕ). take a xs ++ (take k (drop a xs) ++ z)) (sym (drop-drop k a xs))
    ∙ ap (λ (z : List ℕ). take a xs ++ z) (take-append-drop k (drop a xs))
    ∙ take-append-drop a xs

-- a part of the bytes put in place, between those before it and the rest behind it
pub put_in : (a k : ℕ) (xs front rest last : List ℕ) → front ≡ take a xs → rest ≡ drop a xs → length last ≡ k → front ++ (last ++ drop k rest) ≡ overwritten a last xs
unfolding overwritten
put_in a k xs front rest last f r l =
    ap (λ (p : List ℕ). p ++ (last ++ drop k rest)) f
    ∙ ap (λ (p : List ℕ). take a xs ++ (last ++ drop k p)) r
    ∙ ap (λ (p : List ℕ). take a xs ++ (last ++ p)) (drop-drop k a xs)
    ∙ ap (λ j. take a xs ++ (last ++ drop (a + j) xs)) (sym l)

pub put_back : (a k : ℕ) (xs front rest last : List ℕ) → a + k ≤ length xs → front ≡ take a xs → rest ≡ drop a xs → last ≡ take k rest → front ++ (last ++ drop k rest) ≡ xs
put_back a k xs front rest last h f r e =
    let e' : last ≡ take k (drop a xs) = e ∙ ap (take k) r in
    put_in a k xs front rest last f r (ap length e' ∙ long a k xs h) ∙ ap (λ (p : List ℕ). overwritten a p xs) e' ∙ same_bytes a k xs h

-- the block held already, or brought in
held_is : (h : Option ℕ) (n : ℕ) → elim h [ None ↦ false | Some k ↦ eqb k n ] ≡ holding h n
held_is None n = refl
held_is (Some k) n = refl

module _ (r : Registers) (i : List ℕ) (s : Meaning) (n : ℕ) where
  is_held_lem : (c t : List ℕ) (k : List Mark) → is_held n (seen r i c t k s) ≡ holding r.shared.buffer.held n
  is_held_lem c t k = held_is r.shared.buffer.held n

  pub bring_held : holding r.shared.buffer.held n ≡ true → Brings (brought n) r i s (Ok tt) r i s
  bring_held h c t k = brought_held (seen r i c t k s) n (is_held_lem c t k ∙ h)

  module _ (h : holding r.shared.buffer.held n ≡ false) where
    brings : (c t : List ℕ) (k : List Mark) → brought n (seen r i c t k s) ≡ (saved (seen r i c t k s) >>= read_from n)
    brings c t k = brought_not (seen r i c t k s) n (is_held_lem c t k ∙ h)

    pub bring_refused : (r' : Registers) (e : Fault) (s' : Meaning) → Brings saved r i s (Err e) r' i s' → Brings (brought n) r i s (Err e) r' i s'
    bring_refused r' e s' g c t k = subst (λ y. IsRefused y e (seen r' i c t k s')) (sym (brings c t k)) (refuses_on (saved (seen r i c t k s)) (read_from n) e (seen r' i c t k s') (g c t k))

    pub bring_done : (r' : Registers) (s' : Meaning) (o : Result (Unit {0}) Fault) (r'' : Registers) (i' : List ℕ) → Brings saved r i s (Ok tt) r' i s' → Brings (read_from n) r' i s' o r'' i' s' → Brings (brought n) r i s o r'' i' s'
    bring_done r' s' o r'' i' g f c t k = subst (λ y. Comes y o (seen r'' i' c t k s')) (sym (brings c t k ∙ ap (λ y. y >>= read_from n) (g c t k))) (f c t k)
