-- The words on blocks.
use Rattle.std.proofs.Common.{◌≡◌, ℕ, ◌<◌, ◌≤◌, Bool, true, false, not, ◌&&◌, eqb, ltb, ◌⊎◌, List, [], ◌∷◌, length, get_or, drop, set, Some, None, Option, sym, refl, ap, ◌∙◌, subst, inl, inr, arith}
use Rattle.std.specs.List.{AllByRecursion}
use Rattle.std.proofs.lemmas.List.{length-drop, length-take, length-set, get_or-set_same, get_or-set_other, set_past}
use Rattle.std.proofs.ByRecursion.{All-drop}
use Rattle.std.proofs.lemmas.Bool.{ltb-true, cases_eq, cases_lt}
use Rattle.fault.specs.declared.Reason.TheVariants.{NotWritable}
use Rattle.image.specs.Cells.{Bytes}
use Rattle.image.specs.Writes.{overwritten}
use Rattle.store.specs.Meaning.{Meaning, block, written}
use Rattle.definition.specs.declared.registers.LastWord.{LastWord}
use Rattle.definition.specs.declared.registers.Position.{Position}
use Rattle.definition.specs.Machine.{Machine, with_blocks, with_high, reading, dict_of, blk}
use Rattle.definition.specs.Asked.{Asked, refused, given, ask, ◌>>◌, quietly}
use Rattle.definition.specs.Text.{buffer_of}
use Rattle.definition.specs.Kernel
use Rattle.definition.specs.Kernel.{BlocksWord}
use Rattle.definition.specs.Stacks.{nth, popped, pushed, has_cells}
use Rattle.definition.specs.Space.{stored}
use Rattle.definition.specs.Blocks.{is_held, written_to, saved, read_from, brought, do_blocks}
use Rattle.definition.specs.Step.{bringing}
use Rattle.step_changes.specs.Steady.{BlockInCell, StoreHolds, Steady}
use Rattle.step_changes.specs.Laws.{Quietly, stays}
use Rattle.step_changes.proofs.Ranges.{bytes_take, bytes_drop, length_put, bytes_put}
use Rattle.step_changes.proofs.Leading.{Leads, Gives, leads_ask, leads_given, gives_ask, gives_on, gives_if, stayed, same_dict, with_high_lem, with_cells_lem, with_text_lem, nth_cell, with_popped}

-- a machine that is steady and has the dictionary of m
abbrev pub Kept : Machine → Machine → Type 0
Kept m m' = Steady m' × (dict_of m' ≡ dict_of m)

pub kept_quiet : (m m' : Machine) → Kept m m' → Quietly (dict_of m) (dict_of m') × Steady m'
kept_quiet m m' k = (subst (Quietly (dict_of m)) (sym k.1) stays, k.0)

pub with_store_lem : (m : Machine) → Steady m → (h : Option ℕ) (u : Bool) (s' : Meaning) → StoreHolds s' → Steady (with_blocks h u s' m)
with_store_lem m s h u s' k = record {
  came = s.came;
  compiles = s.compiles;
  marks = s.marks;
  stacks = s.stacks;
  text = s.text;
  space = s.space;
  pointer = s.pointer;
  store = k;
}

-- text goes on elsewhere
pub with_reading : (m : Machine) → Steady m → (p : Position) (w : LastWord) (ls : List Position) → BlockInCell p → AllByRecursion BlockInCell ls → Steady (reading p w ls m)
with_reading m s p w ls h k = with_text_lem m s _ (record { line = s.text.line; reads = h; loads = k })

-- a store with a block replaced
module _ (s : Meaning) (k : StoreHolds s) (n : ℕ) (new : List ℕ) (b : Bytes new) (l : length new ≡ 1024) where
  replaced_long : (i : ℕ) → i < s.count → (i ≡ n) ⊎ (i ≡ n → ⊥) → length (block (written s n new) i) ≡ 1024
  replaced_long i h (inl e) = subst (λ j. length (get_or (set s.blocks n new) j []) ≡ 1024) (sym e) (ap length (get_or-set_same s.blocks n new [] (omega (arith, k.sound.counted))) ∙ l)
  replaced_long i h (inr e) = ap length (get_or-set_other s.blocks n i new [] e) ∙ k.sound.whole i h

  replaced_bytes : (i : ℕ) → (i ≡ n) ⊎ (i ≡ n → ⊥) → (n < length s.blocks) ⊎ (length s.blocks ≤ n) → Bytes (block (written s n new) i)
  replaced_bytes i (inl e) (inl h) = subst (λ j. Bytes (get_or (set s.blocks n new) j [])) (sym e) (subst Bytes (sym (get_or-set_same s.blocks n new [] h)) b)
  replaced_bytes i (inl e) (inr h) = subst (λ xs. Bytes (get_or xs i [])) (sym (set_past s.blocks n new h)) (k.bytes i)
  replaced_bytes i (inr e) h = subst Bytes (sym (get_or-set_other s.blocks n i new [] e)) (k.bytes i)

  pub written_holds : StoreHolds (written s n new)
  written_holds = record {
    sound = record {
      few = k.sound.few;
      counted = length-set s.blocks n new ∙ k.sound.counted;
      whole = λ i h. replaced_long i h (cases_eq i n);
    };
    bytes = λ i. replaced_bytes i (cases_eq i n) (cases_lt n (length s.blocks));
  }

module _ (m : Machine) (s : Steady m) where
  pub buffer_long : length (buffer_of m) ≡ 1024
  buffer_long = simp (length-take, length-drop) (omega (arith, s.space.long))

  pub buffer_bytes : Bytes (buffer_of m)
  buffer_bytes = bytes_take 1024 (drop 256 m.high) (bytes_drop 256 m.high s.space.bytes)

  pub saved_store : (n : ℕ) → StoreHolds (written m.store n (buffer_of m))
  saved_store n = written_holds m.store s.store n (buffer_of m) buffer_bytes buffer_long

  written_keeps : (n : ℕ) → Gives (Kept m) (written_to n m)
  written_keeps n =
      gives_ask _ _ _ (ltb n m.store.count) _ (λ h. gives_ask _ _ _ m.store.writable _ (λ g.
      let x : Kept m (with_blocks (Some n) false (written m.store n (buffer_of m)) m) = (with_store_lem m s (Some n) false _ (saved_store n), refl) in x))

  held_keeps : (h : Option ℕ) → Gives (Kept m) (elim h [ None ↦ given m | Some n ↦ written_to n m ])
  held_keeps None = (s, refl)
  held_keeps (Some n) = written_keeps n

  saved_keeps : Gives (Kept m) (saved m)
  saved_keeps = gives_if (Kept m) m.buffer.updated _ _ (λ h. held_keeps m.buffer.held) (λ h. (s, refl))

  read_keeps : (n : ℕ) → Gives (Kept m) (read_from n m)
  unfolding overwritten
  read_keeps n =
      gives_ask _ _ _ (ltb n m.store.count) _ (λ h.
      let l = s.store.sound.whole n (ltb-true n m.store.count h) in
      let xs = overwritten 256 (block m.store n) m.high in
      let e : length xs ≡ length m.high = length_put 256 (block m.store n) m.high (inr (omega (arith, s.space.long))) in
      let b : Bytes xs = bytes_put 256 (block m.store n) m.high (s.store.bytes n) s.space.bytes in
      let x : Kept m (with_blocks (Some n) false m.store (stored 33024 (block m.store n) m)) = (with_store_lem (with_high xs m) (with_high_lem m s xs b e) (Some n) false m.store s.store, sym (same_dict m xs e)) in x)

pub brought_keeps : (m : Machine) → Steady m → (n : ℕ) → Gives (Kept m) (brought n m)
brought_keeps m s n =
    gives_if (Kept m) (is_held n m) _ _ (λ h. (s, refl))
    (λ h. gives_on (Kept m) (Kept m) (saved m) (read_from n) (saved_keeps m s) (λ m' k. onward m' k (read_from n m') (read_keeps m' k.0 n)))
  where
    onward : (m' : Machine) → Kept m m' → (a : Asked Machine) → Gives (Kept m') a → Gives (Kept m) a
    onward m' k (refused why x) g = tt
    onward m' k (given x) g = (g.0, g.1 ∙ k.1)

pub bringing_leads : (m : Machine) → Steady m → Leads (dict_of m) (bringing m)
bringing_leads m s = leads_given (dict_of m) (Kept m) (brought (blk m) m) quietly (brought_keeps m s (blk m)) (λ m' k. kept_quiet m m' k)

module _ (m : Machine) (s : Steady m) where
  update_leads : (h : Option ℕ) → Leads (dict_of m) (elim h [ None ↦ quietly m | Some n ↦ (ask m NotWritable m.store.writable >> quietly (with_blocks (Some n) true m.store m)) ])
  update_leads None = (stays, s)
  update_leads (Some n) = leads_ask _ _ _ m.store.writable _ (λ h. stayed (with_blocks (Some n) true m.store m) stays (with_store_lem m s (Some n) true m.store s.store))

  pushed_keeps : (m' : Machine) → Kept m m' → Kept m (pushed 33024 (popped 1 m'))
  pushed_keeps m' k =
      let xs = m'.stacks.cells in
      (with_cells_lem m' k.0 (33024 ∷ drop 1 xs) (omega arith, All-drop (λ x. x < 65536) 1 xs k.0.stacks.cells) (simp length-drop (omega (arith, k.0.stacks.depth))), k.1)

  pub blocks_lead : (w : BlocksWord) → Leads (dict_of m) (do_blocks w m)
  blocks_lead Kernel.block =
      leads_ask _ _ _ (has_cells 1 m) _ (λ h. leads_given (dict_of m) (Kept m) (brought (nth 0 m) m) (λ m'. quietly (pushed 33024 (popped 1 m'))) (brought_keeps m s (nth 0 m)) (λ m' k. kept_quiet m (pushed 33024 (popped 1 m')) (pushed_keeps m' k)))
  blocks_lead Kernel.update = update_leads m.buffer.held
  blocks_lead Kernel.flush =
      leads_given (dict_of m) (Kept m) (saved m) (λ m'. quietly (with_blocks None false m'.store m')) (saved_keeps m s) (λ m' k. kept_quiet m (with_blocks None false m'.store m') (with_store_lem m' k.0 None false m'.store k.0.store, k.1))
  blocks_lead Kernel.load =
      let w = m.text.source in
      leads_ask _ _ _ (has_cells 1 m) _ (λ h. leads_ask _ _ _ (not (eqb (nth 0 m) 0) && ltb (length m.text.loads) 8) _ (λ g.
      stayed (reading (record { blk = nth 0 m; offset = 0 }) w.word (w.position ∷ m.text.loads) (popped 1 m)) stays
      (with_reading (popped 1 m) (with_popped m s 1) _ w.word _ (nth_cell m s 0) (s.text.reads, s.text.loads))))
