-- Laws of entries that begin and join.
use Rattle.std.proofs.Common.{◌≡◌, ℕ, ◌+◌, ◌-◌, ◌/◌, ◌%◌, ◌<◌, ◌≤◌, Bool, true, false, cond, eqb, leb, List, [], ◌∷◌, ◌++◌, length, take, set, Ok, Err, Result, sym, refl, ap, ◌∙◌, subst, arith}
use Rattle.std.proofs.lemmas.List.{append_assoc, length-set}
use Rattle.std.proofs.lemmas.Bool.{leb-true, ne_eqb, cond-true, cond-false, false≢true}
use Rattle.std.proofs.lemmas.Bool.Decides.{nat_tests}
use Rattle.fault.specs.declared.Fault.{Fault}
use Rattle.fault.specs.declared.Place.{Place}
use Rattle.fault.specs.declared.Reason.TheVariants.{DictionaryFull}
use Rattle.fault.specs.Numbers.{fault_of}
use Rattle.image.specs.Cells.{at, cell_at, cell, set_cell, zeros}
use Rattle.entries.specs.Entries.{count_byte, entry_bytes}
use Rattle.dictionary.specs.Dict.{Dict, appended, begun, defined, colon_begun, vocabulary_defined, given_up, thread_of, next_entry, with_low, with_voc_link, with_context, with_opened}
use Rattle.dictionary.specs.Kept.{kept_end}
use Rattle.image.specs.Views.{low_of}
use Rattle.dictionary.proofs.Changing.{low_cut}
use Rattle.dictionary.specs.Begins.{headed_by, head_joined}
use Rattle.dictionary.specs.Lent.{with_room, Did}
use Rattle.dictionary.proofs.Growing.{appended_two}

-- an entry up to its code cell, part by part
pub header_made : (D A B C E F : Dict) (view flags : ℕ) (name : List ℕ) (code link count : ℕ)
    → A ≡ appended (cell view) D → B ≡ appended (cell link) A → C ≡ appended (count ∷ []) B → E ≡ appended name C → F ≡ appended (cell code) E
    → link ≡ cell_at D.low (thread_of (at name 0) D) → count ≡ count_byte flags name → F ≡ headed_by view flags name code D
header_made D A B C E F view flags name code link count a b c e f p q =
    appended_two D A F (cell view) _ _ a
    (appended_two A B F (cell link) _ _ b
    (appended_two B C F (count ∷ []) _ _ c
    (appended_two C E F name (cell code) _ e f refl) refl) refl)
    (ap (λ l. cell view ++ (cell l ++ (count ∷ (name ++ cell code)))) p ∙ ap (λ n. cell view ++ (cell (cell_at D.low (thread_of (at name 0) D)) ++ (n ∷ (name ++ cell code)))) q)

-- and with its parameter cells
pub begun_made : (D G H K : Dict) (view flags : ℕ) (name : List ℕ) (code : ℕ) (rest : List ℕ)
    → G ≡ headed_by view flags name code D → H ≡ appended (cell D.here) G → K ≡ appended rest H → K ≡ begun view flags name code rest D
unfolding entry_bytes cell
begun_made D G H K view flags name code rest g h k =
    appended_two D G K _ (cell D.here ++ rest) _ g (appended_two G H K (cell D.here) rest _ h k refl) (whole (cell_at D.low (thread_of (at name 0) D)))
  where
    whole : (link : ℕ) → (cell view ++ (cell link ++ (count_byte flags name ∷ (name ++ cell code)))) ++ (cell D.here ++ rest) ≡ entry_bytes view link (count_byte flags name) name code D.here rest
    whole link = ap (λ (s : List ℕ). cell view ++ (cell link ++ (count_byte flags name ∷ s))) (append_assoc name (cell code) (cell D.here ++ rest))

-- WHAT A CALL SAID OF SPACE
pub room_ok : (n : ℕ) (told : Place) (D X G : Dict) → with_room n told D X ≡ Ok G → (G ≡ X) × (length D.low + n ≤ 32768)
room_ok n told D X G h = go (leb (length D.low + n) 32768) refl h
  where
    go : (b : Bool) → leb (length D.low + n) 32768 ≡ b → cond b (Ok X) (Err (fault_of DictionaryFull told)) ≡ Ok G → (G ≡ X) × (length D.low + n ≤ 32768)
    go true e k = (cc, leb-true _ _ e)
    go false e k = absurd (false≢true (cc))

-- another change is refused alike
pub room_err : (n m : ℕ) (told : Place) (D X Y : Dict) (f : Fault) → n ≡ m → with_room n told D X ≡ Err f → with_room m told D Y ≡ Err f
room_err n m told D X Y f q h = go (leb (length D.low + n) 32768) refl h
  where
    go : (b : Bool) → leb (length D.low + n) 32768 ≡ b → cond b (Ok X) (Err (fault_of DictionaryFull told)) ≡ Err f → with_room m told D Y ≡ Err f
    go true e k = absurd (false≢true (cc))
    go false e k = ap (λ c. cond c (Ok Y) (Err (fault_of DictionaryFull told))) (ap (λ i. leb (length D.low + i) 32768) (sym q) ∙ e) ∙ k

pub still_refused : (n m : ℕ) (told : Place) (D X Y E : Dict) (r : Result (Unit {0}) Fault) (y f : Fault) → n ≡ m → (with_room n told D X ≡ Err f) × (E ≡ D) → r ≡ Err y → y ≡ f → Did (with_room m told D Y) D r E
still_refused n m told D X Y E r y f q h e p = rw (e, p) (room_err n m told D X Y f q h.0, h.1)

-- JOINING
pub defined_made : (D G E : Dict) (view flags : ℕ) (name : List ℕ) (code : ℕ) (rest : List ℕ) (thread e : ℕ)
    → G ≡ begun view flags name code rest D → E ≡ head_joined thread e G → thread ≡ at name 0 % 4 → e ≡ next_entry D → E ≡ defined view flags name code rest D
defined_made D G E view flags name code rest thread e g h t n = cc

-- the open entry of `:`
pub colon_made : (D G : Dict) (view : ℕ) (name : List ℕ) (e : ℕ) → G ≡ begun view 0 name 201 [] D → e ≡ next_entry D → with_opened e (with_context G.current G) ≡ colon_begun view name D
colon_made D G view name e g n = cc

pub kept_open : (end dp e : ℕ) → e ≡ dp + 2 → kept_end end e ≡ dp
kept_open end dp e h = let q : e - 2 ≡ dp = omega arith in cond-false (eqb e 0) _ _ (ne_eqb e 0 (λ z. omega arith)) ∙ q

-- a vocabulary: an entry with heads, whose link VOC-LINK then names
length-set-cell : (low : List ℕ) (a x : ℕ) → length (set_cell low a x) ≡ length low
unfolding set_cell
length-set-cell low a x = length-set (set low a (x % 256)) (a + 1) (x / 256) ∙ length-set low a (x % 256)

pub vocabulary_made : (D E : Dict) (view : ℕ) (name : List ℕ) (k m : ℕ) → E ≡ defined view 0 name 204 (zeros 8 ++ cell D.voc_link) D → length E.low ≡ k → m ≡ k - 2
    → with_voc_link m E ≡ vocabulary_defined view name D
vocabulary_made D E view name k m e l q =
    let B = begun view 0 name 204 (zeros 8 ++ cell D.voc_link) D in
    let n : length E.low ≡ length B.low = ap (λ (d : Dict). length d.low) e ∙ length-set-cell B.low (thread_of (at name 0) B) (next_entry D) in
    ap (λ i. with_voc_link i E) q ∙ ap (λ i. with_voc_link (i - 2) E) (sym l ∙ n) ∙ ap (λ d. with_voc_link (length B.low - 2) d) e

-- its heads and its link, as they are put
pub heads_put : (n : ℕ) (told : Place) (D E : Dict) (view : ℕ) (name heads : List ℕ) (r : Result (Unit {0}) Fault) → heads ≡ set_cell (zeros 10) 8 D.voc_link
    → Did (with_room (9 + n + length heads) told D (defined view 0 name 204 heads D)) D r E
    → Did (with_room (9 + n + 10) told D (defined view 0 name 204 (zeros 8 ++ cell D.voc_link) D)) D r E
unfolding cell set_cell
heads_put n told D E view name heads r e h = subst (λ s. Did (with_room (9 + n + length s) told D (defined view 0 name 204 s D)) D r E) e h

-- the open entry given up
pub kept_below : (dp opened : ℕ) → opened + 3 < dp → kept_end dp opened ≤ dp
kept_below dp opened h = grind (arith, nat_tests)

pub given_up_lem : (D : Dict) (low : List ℕ) (image : List ℕ) (dp end : ℕ) → length image ≡ 65536 → dp ≤ 65536 → 280 ≤ end → end ≤ dp → D.low ≡ low_of dp image → end ≡ kept_end dp D.opened → low ≡ low_of end image
    → with_opened 0 (with_low low D) ≡ given_up D
given_up_lem D low image dp end l h b s d e f = ap (λ x. with_opened 0 (with_low x D)) (f ∙ go (eqb D.opened 0) refl)
  where
    go : (t : Bool) → eqb D.opened 0 ≡ t → low_of end image ≡ cond t D.low (take (D.opened - 2) D.low)
    go true q = let r : end ≡ dp = e ∙ cond-true (eqb D.opened 0) _ _ q in ap (λ n. low_of n image) r ∙ sym d
    go false q = let r : end ≡ D.opened - 2 = e ∙ cond-false (eqb D.opened 0) _ _ q in
        low_cut end dp image (omega arith) s (omega arith) ∙ (ap (λ n. take n (low_of dp image)) r ∙ ap (take (D.opened - 2)) (sym d))
