-- The ends of BLOCK, UPDATE and FLUSH.
use Rattle.std.proofs.Common.{◌≡◌, ℕ, ◌+◌, ◌-◌, ◌<◌, ◌≤◌, true, false, List, [], ◌∷◌, length, get_or, drop, is_some, Some, None, Ok, Err, Option, sym, refl, ap, ◌∙◌, subst}
use Rattle.std.proofs.lemmas.Bool as Tests
use Rattle.fault.specs.declared.Fault.{Fault}
use Rattle.fault.specs.declared.Reason.TheVariants.{StackUnderflow, NotWritable}
use Rattle.fault.specs.Numbers.{fault_of}
use Rattle.store.specs.Meaning.{Meaning}
use Rattle.stacks.specs.Stack.{stack_of}
use Rattle.definition.specs.declared.registers.Buffer.{Buffer}
use Rattle.definition.specs.declared.registers.Mark.{Mark}
use Rattle.definition.specs.declared.ranged.Registers.{Registers}
use Rattle.definition.specs.Machine.{Machine, with_blocks, with_cells}
use Rattle.definition.specs.Asked.{Asked, refused, ask, ◌>>=◌, ◌>>◌, After, no_news, quietly}
use Rattle.definition.specs.Kernel
use Rattle.definition.specs.Words.{Argument, perform}
use Rattle.definition.specs.Stacks.{has_cells, nth, popped, pushed}
use Rattle.definition.specs.Blocks.{saved, brought, do_blocks}
use Rattle.steps.specs.Seats.{told_by, with_cell_depth}
use Rattle.steps.specs.Does.{seen, acts, IsRefused, Did, OnBlocks}
use Rattle.steps.proofs.Exits.{has_cells_lem, lacks_cells, cells_view}
use Rattle.block_words.specs.Buffers.{Brings}
use Rattle.block_words.proofs.Views.{Assigned, blocks_view, refuses_on, refuses_at}

abbrev Acts : ℕ → Kernel.BlocksWord → Type 0
Acts n w = (again : ℕ → Machine → Asked After) (a : Argument) (m : Machine) → acts n again a m ≡ do_blocks w m

block_acts : Acts 55 Kernel.block
unfolding perform
block_acts again a m = refl

update_acts : Acts 56 Kernel.update
unfolding perform
update_acts again a m = refl

flush_acts : Acts 57 Kernel.flush
unfolding perform
flush_acts again a m = refl

did_quietly : (x : Asked After) (m : Machine) → x ≡ quietly m → Did x (Ok tt) m
did_quietly x m p = (record { machine = m; typed = []; news = no_news }, p, refl, refl)

did_refused : (x y : Asked After) (e : Fault) (m : Machine) → x ≡ y → IsRefused y e m → Did x (Err e) m
did_refused x y e m p h = subst (λ z. IsRefused z e m) (sym p) h

-- BLOCK
abbrev answer : Machine → Asked After
answer m = quietly (pushed 33024 (popped 1 m))

block_short : (m : Machine) → has_cells 1 m ≡ false → do_blocks Kernel.block m ≡ refused StackUnderflow m
block_short m h = rw h

block_brings : (m : Machine) → has_cells 1 m ≡ true → do_blocks Kernel.block m ≡ (brought (nth 0 m) m >>= answer)
block_brings m h = rw h

module _ (r : Registers) (i c : List ℕ) (s : Meaning) (lc : length c ≡ 128) where
  pub short : (e : Fault) → r.seat.depths.cells < 1 → e ≡ fault_of StackUnderflow (told_by r.seat) → OnBlocks 55 r i c s (Err e) r i c s
  short e h p again a t k =
      let m = seen r i c t k s in
      did_refused (acts 55 again a m) (do_blocks Kernel.block m) e m (block_acts again a m)
      (refuses_at (do_blocks Kernel.block m) StackUnderflow m m e (block_short m (lacks_cells r i c t k s lc 1 h)) p refl)

  module _ (n : ℕ) (h : 1 ≤ r.seat.depths.cells) (q : n ≡ get_or (stack_of r.seat.depths.cells c) 0 0) where
    brings : (again : ℕ → Machine → Asked After) (a : Argument) (t : List ℕ) (k : List Mark) → acts 55 again a (seen r i c t k s) ≡ (brought n (seen r i c t k s) >>= answer)
    brings again a t k =
        block_acts again a (seen r i c t k s) ∙ block_brings (seen r i c t k s) (has_cells_lem r i c t k s lc 1 h)
        ∙ ap (λ y. brought y (seen r i c t k s) >>= answer) (sym q)

    pub not-brought : (r' : Registers) (i' : List ℕ) (s' : Meaning) (e : Fault) → Brings (brought n) r i s (Err e) r' i' s' → OnBlocks 55 r i c s (Err e) r' i' c s'
    not-brought r' i' s' e b again a t k =
        did_refused (acts 55 again a (seen r i c t k s)) (brought n (seen r i c t k s) >>= answer) e (seen r' i' c t k s') (brings again a t k)
        (refuses_on (brought n (seen r i c t k s)) answer e (seen r' i' c t k s') (b c t k))

    pub answered : (r' r'' : Registers) (i' c' : List ℕ) (s' : Meaning) (x : ℕ) → Brings (brought n) r i s (Ok tt) r' i' s' → x ≡ 33024 → r''.shared ≡ r'.shared → r''.seat ≡ with_cell_depth (r'.seat.depths.cells - 1 + 1) r'.seat → stack_of (r'.seat.depths.cells - 1 + 1) c' ≡ x ∷ drop 1 (stack_of r'.seat.depths.cells c) → OnBlocks 55 r i c s (Ok tt) r'' i' c' s'
    answered r' r'' i' c' s' x b z u w e again a t k =
        did_quietly (acts 55 again a (seen r i c t k s)) (seen r'' i' c' t k s')
        (brings again a t k ∙ ap (λ (y : Asked Machine). y >>= answer) (b c t k)
        ∙ ap quietly (ap (λ y. with_cells (y ∷ drop 1 (stack_of r'.seat.depths.cells c)) (seen r' i' c t k s')) (sym z) ∙ sym (cells_view r' r'' i' c c' t k s' _ _ u w e)))

-- UPDATE
none_of : (h : Option ℕ) → is_some h ≡ false → h ≡ None
none_of None p = refl
none_of (Some n) p = absurd (Tests.false≢true (sym p))

abbrev updates : Machine → Option ℕ → Asked After
updates m None = quietly m
updates m (Some n) = ask m NotWritable m.store.writable >> quietly (with_blocks (Some n) true m.store m)

update_is : (m : Machine) → do_blocks Kernel.update m ≡ updates m m.buffer.held
update_is m = at m.buffer.held
  where
    at : (h : Option ℕ) → elim h [ None ↦ quietly m | Some n ↦ (ask m NotWritable m.store.writable >> quietly (with_blocks (Some n) true m.store m)) ] ≡ updates m h
    at None = refl
    at (Some n) = refl

update_none : (m : Machine) → m.buffer.held ≡ None → do_blocks Kernel.update m ≡ quietly m
update_none m p = update_is m ∙ ap (updates m) p

some_locked : (m : Machine) (h : Option ℕ) → is_some h ≡ true → m.store.writable ≡ false → updates m h ≡ refused NotWritable m
some_locked m None p w = absurd (Tests.false≢true p)
some_locked m (Some n) p w = rw w

some_marked : (m : Machine) (h : Option ℕ) → is_some h ≡ true → m.store.writable ≡ true → updates m h ≡ quietly (with_blocks h true m.store m)
some_marked m None p w = absurd (Tests.false≢true p)
some_marked m (Some n) p w = ap (λ b. ask m NotWritable b >> quietly (with_blocks (Some n) true m.store m)) w

module _ (r : Registers) (s : Meaning) where
  pub nothing_held : is_some r.shared.buffer.held ≡ false → (i c : List ℕ) → OnBlocks 56 r i c s (Ok tt) r i c s
  nothing_held p i c again a t k =
      let m = seen r i c t k s in
      did_quietly (acts 56 again a m) m (update_acts again a m ∙ update_none m (none_of r.shared.buffer.held p))

  pub locked : (e : Fault) → is_some r.shared.buffer.held ≡ true → s.writable ≡ false → e ≡ fault_of NotWritable (told_by r.seat) → (i c : List ℕ) → OnBlocks 56 r i c s (Err e) r i c s
  locked e p w q i c again a t k =
      let m = seen r i c t k s in
      did_refused (acts 56 again a m) (do_blocks Kernel.update m) e m (update_acts again a m)
      (refuses_at (do_blocks Kernel.update m) NotWritable m m e (update_is m ∙ some_locked m r.shared.buffer.held p w) q refl)

  pub updated : (r' : Registers) (b : Buffer) → is_some r.shared.buffer.held ≡ true → s.writable ≡ true → b ≡ record { held = r.shared.buffer.held; updated = true } → Assigned r r' b → (i c : List ℕ) → OnBlocks 56 r i c s (Ok tt) r' i c s
  updated r' b p w f y i c again a t k =
      let m = seen r i c t k s in
      did_quietly (acts 56 again a m) (seen r' i c t k s)
      (update_acts again a m ∙ update_is m ∙ some_marked m r.shared.buffer.held p w
      ∙ ap quietly (ap (λ (z : Buffer). with_blocks z.held z.updated s m) (sym f) ∙ sym (blocks_view r r' b i c t k s s y)))

-- FLUSH
abbrev unassigned : Machine → Asked After
unassigned m = quietly (with_blocks None false m.store m)

module _ (r : Registers) (i : List ℕ) (s : Meaning) where
  pub not_flushed : (r' : Registers) (s' : Meaning) (e : Fault) → Brings saved r i s (Err e) r' i s' → (c : List ℕ) → OnBlocks 57 r i c s (Err e) r' i c s'
  not_flushed r' s' e b c again a t k =
      did_refused (acts 57 again a (seen r i c t k s)) (saved (seen r i c t k s) >>= unassigned) e (seen r' i c t k s') (flush_acts again a (seen r i c t k s))
      (refuses_on (saved (seen r i c t k s)) unassigned e (seen r' i c t k s') (b c t k))

  pub flushed : (r' r'' : Registers) (s' : Meaning) (b : Buffer) → Brings saved r i s (Ok tt) r' i s' → b ≡ record { held = None; updated = false } → Assigned r' r'' b → (c : List ℕ) → OnBlocks 57 r i c s (Ok tt) r'' i c s'
  flushed r' r'' s' b g f y c again a t k =
      did_quietly (acts 57 again a (seen r i c t k s)) (seen r'' i c t k s')
      (flush_acts again a (seen r i c t k s) ∙ ap (λ (z : Asked Machine). z >>= unassigned) (g c t k)
      ∙ ap quietly (ap (λ (z : Buffer). with_blocks z.held z.updated s' (seen r' i c t k s')) (sym f) ∙ sym (blocks_view r' r'' b i c t k s' s' y)))
