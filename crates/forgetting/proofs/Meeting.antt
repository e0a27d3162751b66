-- The changes of the law are moves that entries are stacked by, so its stories are theirs.
use Rattle.std.proofs.Common.{◌≡◌, ℕ, ◌≤◌, true, false, ◌⊎◌, List, [], ◌∷◌, ◌++◌, length, sym, refl, ap, ◌∙◌, subst, inl, inr, add-zero, arith}
use Rattle.std.proofs.lemmas.List.{append-nil}
use Rattle.image.specs.Cells.{at, cell_at, cell, zeros, Bytes}
use Rattle.entries.specs.Entries.{entry_bytes, count_byte}
use Rattle.dictionary.specs.Dict.{Dict, next_entry, thread_of}
use Rattle.dictionary.specs.Trim.{forgotten, chain_of}
use Rattle.kernel.specs.Boot.{boot_dict}
use Rattle.forgetting.specs.Changes.{Change, colon, define, vocabulary, append, patch, semicolon, immediate, does, allot, seek, definitions, forget, give_up, changed, Begins, Allowed, OnChain}
use Rattle.forgetting.specs.Law.{fence, Run, start, and_then, Begin, Ends, Keeps, still, and_still, Same, Forgets, Absorbs, Composes}
use Rattle.forgetting.proofs.Stack.{Mem, frame, tail_of}
use Rattle.forgetting.proofs.Moves as moves
use Rattle.forgetting.proofs.Moves.{Move, apply, entry_of}
use Rattle.forgetting.proofs.Story as stacked
use Rattle.forgetting.proofs.Whole as whole
use Rattle.forgetting.proofs.Booting.{boots}

abbrev move_of : Change → Move
move_of (colon view name) = moves.colon view (count_byte 0 name) name
move_of (define view name code rest) = moves.make view (count_byte 0 name) name code rest false 0
move_of (vocabulary view name) = moves.make view (count_byte 0 name) name 204 [] true 0
move_of (append bytes) = moves.append bytes
move_of (patch a x) = moves.patch a x
move_of semicolon = moves.semi
move_of immediate = moves.immediate
move_of (does x) = moves.does x
move_of (allot h) = moves.allot h
move_of (seek v) = moves.seek v
move_of definitions = moves.definitions
move_of (forget w) = moves.forget w
move_of give_up = moves.give_up

-- an entry's bytes, either way
frame_plain : (D : Dict) (view code : ℕ) (name rest : List ℕ) (l k : ℕ) → frame (entry_of D view (count_byte 0 name) name code rest false) l k ≡ entry_bytes view l (count_byte 0 name) name code D.here rest
unfolding frame entry_bytes tail_of
frame_plain D view code name rest l k = ap (λ (r : List ℕ). cell view ++ (cell l ++ (count_byte 0 name ∷ (name ++ (cell code ++ (cell D.here ++ r)))))) (append-nil rest)

frame_heads : (D : Dict) (view : ℕ) (name : List ℕ) (l k : ℕ) → frame (entry_of D view (count_byte 0 name) name 204 [] true) l k ≡ entry_bytes view l (count_byte 0 name) name 204 D.here (zeros 8 ++ cell k)
unfolding frame entry_bytes tail_of
frame_heads D view name l k = refl

meets : (c : Change) (D : Dict) → apply (move_of c) D ≡ changed c D
unfolding apply changed
meets (colon view name) D = unfold frame in unfold entry_bytes in unfold tail_of in refl
meets (define view name code rest) D = let e = frame_plain D view code name rest (cell_at D.low (thread_of (at name 0) D)) D.voc_link in let z = add-zero D.here in cc
meets (vocabulary view name) D = let e = frame_heads D view name (cell_at D.low (thread_of (at name 0) D)) D.voc_link in let z = add-zero D.here in cc
meets (append bytes) D = refl
meets (patch a x) D = refl
meets semicolon D = refl
meets immediate D = refl
meets (does x) D = refl
meets (allot h) D = refl
meets (seek v) D = refl
meets definitions D = refl
meets (forget w) D = unfold forgotten in refl
meets give_up D = refl

-- what is allowed is allowed there
counted : (name : List ℕ) → length name ≤ 31 → Prim.Native.Nat.◌%◌ (count_byte 0 name) 32 ≡ length name
counted name h = omega arith

begins_plain : (view code : ℕ) (name rest : List ℕ) (D : Dict) → Begins view name code rest D → ((code ≡ 202) ⊎ (code ≡ 205) → 2 ≤ length rest) → moves.Begins (entry_of D view (count_byte 0 name) name code rest false) D
begins_plain view code name rest D b x =
    let e = frame_plain D view code name rest (cell_at D.low (thread_of (at name 0) D)) D.voc_link in
    record {
      shut = b.shut;
      counted = counted name b.short;
      named = b.named;
      room = subst (λ (s : List ℕ). length (D.low ++ s) ≤ 32768) (sym e) b.room;
      whole = subst Bytes (sym e) b.bytes;
      extra = λ k. (x k, refl);
    }

begins_heads : (view : ℕ) (name : List ℕ) (D : Dict) → Begins view name 204 (zeros 8 ++ cell D.voc_link) D → moves.Begins (entry_of D view (count_byte 0 name) name 204 [] true) D
begins_heads view name D b =
    let e = frame_heads D view name (cell_at D.low (thread_of (at name 0) D)) D.voc_link in
    record {
      shut = b.shut;
      counted = counted name b.short;
      named = b.named;
      room = subst (λ (s : List ℕ). length (D.low ++ s) ≤ 32768) (sym e) b.room;
      whole = subst Bytes (sym e) b.bytes;
      extra = λ k. absurd (elim k [ inl z ↦ omega arith | inr z ↦ omega arith ]);
    }

on_chain_lem : (v : ℕ) (vs : List ℕ) → OnChain v vs → Mem v vs
on_chain_lem v [] h = h
on_chain_lem v (x ∷ xs) (inl e) = inl e
on_chain_lem v (x ∷ xs) (inr h) = inr (on_chain_lem v xs h)

allowed : (F : ℕ) (c : Change) (D : Dict) → Allowed F c D → moves.Allowed F (move_of c) D
allowed F (colon view name) D a = begins_plain view 201 name [] D a (λ k. absurd (elim k [ inl z ↦ omega arith | inr z ↦ omega arith ]))
allowed F (define view name code rest) D a = begins_plain view code name rest D a.0 a.1
allowed F (vocabulary view name) D a = begins_heads view name D a
allowed F (append bytes) D a = record { is_open = a.is_open; room = a.room; whole = a.whole }
allowed F (patch i x) D a = record { is_open = a.is_open; above = a.above; below = a.below; value = a.value }
allowed F semicolon D a = a
allowed F immediate D a = a
allowed F (does x) D a = record { shut = a.shut; code = a.code; value = a.value }
allowed F (allot h) D a = a
allowed F (seek v) D a = on_chain_lem v (chain_of D) a
allowed F definitions D a = a
allowed F (forget w) D a = record { shut = a.shut; thread = a.thread; thread_lt = a.thread_lt; walk = a.walk; high = a.high }
allowed F give_up D a = a

begin : (c : Change) → Begin c → stacked.Begin (move_of c)
begin (colon view name) b = tt
begin (define view name code rest) b = tt
begin (vocabulary view name) b = tt
begin (append bytes) b = absurd b
begin (patch a x) b = absurd b
begin semicolon b = absurd b
begin immediate b = absurd b
begin (does x) b = absurd b
begin (allot h) b = absurd b
begin (seek v) b = absurd b
begin definitions b = absurd b
begin (forget w) b = absurd b
begin give_up b = absurd b

ends : (c : Change) (w : ℕ) (D : Dict) → moves.Ends (move_of c) w D → Ends c w D
ends (colon view name) w D e = e
ends (define view name code rest) w D e = e
ends (vocabulary view name) w D e = e
ends (append bytes) w D e = e
ends (patch a x) w D e = e
ends semicolon w D e = e
ends immediate w D e = e
ends (does x) w D e = e
ends (allot h) w D e = e
ends (seek v) w D e = e
ends definitions w D e = e
ends (forget y) w D e = e
ends give_up w D e = e

pub run : (D E : Dict) → Run D E → stacked.Run fence D E
run D E start = stacked.start
run D E (and_then {A = A} c r a) = subst (stacked.Run fence D) (meets c A) (stacked.and_then (move_of c) (run D A r) (allowed fence c A a))

keeps : (w : ℕ) (D E : Dict) → Keeps w D E → stacked.Keeps fence w D E
keeps w D E still = stacked.still
keeps w D E (and_still {A = A} c k a n) = subst (stacked.Keeps fence w D) (meets c A) (stacked.and_still (move_of c) (keeps w D A k) (allowed fence c A a) (λ e. n (ends c w A e)))

pub forgets : Forgets
forgets D E s =
    let c = s.beginning in
    let k = subst (λ B. stacked.Keeps fence (next_entry D) B E) (sym (meets c D)) (keeps (next_entry D) (changed c D) E s.standing) in
    let r = whole.forgotten boot_dict D E (move_of c) boots (run boot_dict D s.before) (begin c s.begins) (allowed fence c D s.allowed) k (allowed fence (forget (next_entry D)) E s.found) in
    renamed (subst (λ F. stacked.Same F D) (drop_meets (next_entry D) E) r)
  where
    renamed : {A B : Dict} → stacked.Same A B → Same A B
    renamed r = record { ends = r.dp; here = r.here; voc_link = r.voc_link; chain = r.chain; bytes = r.bytes }

    drop_meets : (w : ℕ) (A : Dict) → apply (moves.forget w) A ≡ forgotten w A
    drop_meets w A = unfold apply in unfold forgotten in refl

-- one story after the other
keeps_then : {w : ℕ} {A B C : Dict} → Keeps w A B → Keeps w B C → Keeps w A C
keeps_then k still = k
keeps_then k (and_still c l a n) = and_still c (keeps_then k l) a n

same_back : {A B C : Dict} → Same A C → Same B C → Same A B
same_back p q = record { ends = p.ends ∙ sym q.ends; here = p.here ∙ sym q.here; voc_link = p.voc_link ∙ sym q.voc_link; chain = p.chain ∙ sym q.chain; bytes = p.bytes ∙ sym q.bytes }

pub absorbs : Absorbs
absorbs D E F s k a = same_back
    (forgets D F (record { before = s.before; beginning = s.beginning; begins = s.begins; allowed = s.allowed; standing = keeps_then s.standing k; found = a }))
    (forgets D E s)

pub composes : Composes
unfolding changed
composes D E y s l a b = absorbs D E (forgotten y E) s (and_still (forget y) still a (λ e. omega arith)) b
