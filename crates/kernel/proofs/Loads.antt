-- Laws of the kernel's table.
use Rattle.std.proofs.Common.{◌≡◌, ℕ, zero, suc, ◌+◌, ◌-◌, ◌*◌, ◌<◌, ◌≤◌, Bool, true, false, cond, ltb, leb, List, [], ◌∷◌, ◌++◌, length, get_or, take, drop, is_ok, Ok, Err, Result, sym, refl, ap, ◌∙◌, arith, MatchResult}
use Rattle.std.proofs.lemmas.List.{drop_more, drop_all, length-take, append-nil}
use Rattle.std.proofs.lemmas.Bool.{and_parts, leb-true, ltb-true, le-leb, cond-true, false≢true}
use Rattle.fault.specs.declared.Fault.{Fault}
use Rattle.fault.specs.declared.Place.{Place}
use Rattle.dictionary.specs.Lent.{with_room, Did}
use Rattle.dictionary.proofs.Beginning.{room_ok}
use Rattle.image.specs.Cells.{cell, set_cell, zeros}
use Rattle.image.specs.Views.{low_of}
use Rattle.entries.specs.Entries.{spelled, entry_bytes}
use Rattle.entries.specs.Threads.{Ascii}
use Rattle.dictionary.specs.Dict.{Dict, defined}
use Rattle.kernel.specs.Table.{Row, kernel}
use Rattle.kernel.specs.Boot.{with_kernel, forth_alone, boot_dict}
use denote.Ref.{Bor}
use Rattle.kernel.specs.Rows.{rows_of, all_below128, are_rows}

-- what stands where no row is
abbrev pub no_row : Bor (List ℕ) × Bool
no_row = (record { ref_ptr = (0, 0); now = [] }, false)

-- where the loading has come: to row i, with the number k next
pub record Loading (table : List (Bor (List ℕ) × Bool)) (i k start dp : ℕ) (D final : Dict) : Type 0 where
  pub counts : k ≡ i + 1
  pub room : dp + 40 * (length table - i) ≤ start + 40 * length table
  pub sound : are_rows (drop i table) ≡ true
  pub goes : final ≡ with_kernel k (rows_of (drop i table)) D

pub loading_start : (table : List (Bor (List ℕ) × Bool)) (dp : ℕ) (D : Dict) → are_rows table ≡ true → Loading table 0 1 dp dp D (with_kernel 1 (rows_of table) D)
loading_start table dp D h = record { counts = refl; room = omega arith; sound = h; goes = refl }

ascii : (name : List ℕ) → all_below128 name ≡ true → Ascii name
unfolding all_below128
ascii [] h i = omega arith
ascii (b ∷ bs) h zero = ltb-true b 128 (and_parts (ltb b 128) (all_below128 bs) h).0
ascii (b ∷ bs) h (suc i) = ascii bs (and_parts (ltb b 128) (all_below128 bs) h).1 i

-- what a table says of a word
pub record Word (r : Bor (List ℕ) × Bool) : Type 0 where
  pub some : 1 ≤ length r.0.now
  pub short : length r.0.now ≤ 31
  pub text : Ascii r.0.now

first : (r : Bor (List ℕ) × Bool) (rs : List (Bor (List ℕ) × Bool)) → are_rows (r ∷ rs) ≡ true → Word r × (are_rows rs ≡ true)
unfolding are_rows
first r rs h =
    let p = and_parts _ (are_rows rs) h in
    let q = and_parts (leb 1 (length r.0.now)) _ p.0 in
    let s = and_parts (leb (length r.0.now) 31) (all_below128 r.0.now) q.1 in
    (record { some = leb-true 1 (length r.0.now) q.0; short = leb-true (length r.0.now) 31 s.0; text = ascii r.0.now s.1 }, p.1)

kernel_cons : (k : ℕ) (r : Bor (List ℕ) × Bool) (rs : List (Bor (List ℕ) × Bool)) (D : Dict)
    → with_kernel k (rows_of (r ∷ rs)) D ≡ with_kernel (k + 1) (rows_of rs) (defined 0 (cond r.1 64 0) (spelled r.0.now) k [] D)
unfolding with_kernel rows_of
kernel_cons k r rs D = refl

kernel_nil : (k : ℕ) (D : Dict) → with_kernel k (rows_of []) D ≡ D
unfolding with_kernel rows_of
kernel_nil k D = refl

module _ (table : List (Bor (List ℕ) × Bool)) (i k start dp : ℕ) (D final : Dict) (l : Loading table i k start dp D final) where
  pub loading_word : i < length table → Word (get_or table i no_row)
  loading_word h = (first (get_or table i no_row) (drop (i + 1) table) (ap are_rows (sym (drop_more table i no_row h)) ∙ l.sound)).0

  pub loading_more : (flags dp' : ℕ) (E : Dict) → i < length table → flags ≡ cond (get_or table i no_row).1 64 0
      → E ≡ defined 0 flags (spelled (get_or table i no_row).0.now) k [] D → dp' ≡ dp + 9 + length (get_or table i no_row).0.now → Loading table (i + 1) (k + 1) start dp' E final
  loading_more flags dp' E h f e d =
      let w = loading_word h in
      record {
        counts = omega (arith, l.counts);
        room = omega (arith, l.room, w.short);
        sound = (first (get_or table i no_row) (drop (i + 1) table) (ap are_rows (sym (drop_more table i no_row h)) ∙ l.sound)).1;
        goes = l.goes ∙ (ap (λ t. with_kernel k (rows_of t) D) (drop_more table i no_row h) ∙ (kernel_cons k (get_or table i no_row) (drop (i + 1) table) D
            ∙ ap (with_kernel (k + 1) (rows_of (drop (i + 1) table))) (ap (λ n. defined 0 n (spelled (get_or table i no_row).0.now) k [] D) (sym f) ∙ sym e)));
      }

  pub loading_end : length table ≤ i → D ≡ final
  loading_end h = sym (l.goes ∙ (ap (λ t. with_kernel k (rows_of t) D) (drop_all i table h) ∙ kernel_nil k D))

-- FORTH's entry written
low_none : (image : List ℕ) → low_of 256 image ≡ zeros 256
unfolding low_of
low_none image = ap (λ (s : List ℕ). zeros 256 ++ s) (drop_all 256 (take 256 image) (simp length-take (omega arith))) ∙ append-nil (zeros 256)

pub forth_low : (image bytes : List ℕ) → bytes ≡ 0 ∷ 0 ∷ 0 ∷ 0 ∷ 133 ∷ 70 ∷ 79 ∷ 82 ∷ 84 ∷ 200 ∷ 204 ∷ 0 ∷ 0 ∷ 133 ∷ 0 ∷ 0 ∷ 0 ∷ 0 ∷ 2 ∷ 1 ∷ 0 ∷ 0 ∷ 0 ∷ 0 ∷ [] → low_of 256 image ++ bytes ≡ forth_alone.low
unfolding forth_alone entry_bytes cell set_cell
forth_low image bytes e = ap (λ (s : List ℕ). s ++ bytes) (low_none image) ∙ ap (λ (s : List ℕ). zeros 256 ++ s) e

-- an entry that has space is made
pub fits : (n : ℕ) (told : Place) (D X E : Dict) (r : Result (Unit {0}) Fault) → Did (with_room n told D X) D r E → length D.low + n ≤ 32768 → (is_ok r ≡ true) × (E ≡ X)
fits n told D X E (Ok u) h l = (refl, (room_ok n told D X E h).0)
fits n told D X E (Err f) h l =
    let k : with_room n told D X ≡ Ok X = cond-true (leb (length D.low + n) 32768) _ _ (le-leb (length D.low + n) 32768 l) in
    let q = h.0 in
    absurd (false≢true (cc))

pub ended : (P : Type 0) (Q : Fault → Type 0) (r : Result (Unit {0}) Fault) → MatchResult r (λ _. P) Q → is_ok r ≡ true → P
ended P Q (Ok u) h e = h
ended P Q (Err f) h e = absurd (false≢true e)

-- the table's rows are the kernel's
pub booted : (rows : List Row) (D : Dict) → rows ≡ kernel → D ≡ forth_alone → with_kernel 1 rows D ≡ boot_dict
unfolding boot_dict
booted rows D p q = ap (λ x. with_kernel 1 x D) p ∙ ap (with_kernel 1 kernel) q
