-- Laws of a dictionary that grows at DP.
use Rattle.std.proofs.Common.{◌≡◌, ℕ, ◌+◌, ◌-◌, ◌/◌, ◌%◌, ◌<◌, ◌≤◌, leb, List, [], ◌∷◌, ◌++◌, length, take, drop, Ok, Err, Result, sym, refl, ap, ◌∙◌, arith}
use Rattle.std.proofs.lemmas.List.{append_assoc, append-nil, drop-take}
use Rattle.std.proofs.lemmas.Bool.{le-leb, lt-leb, cond-true, cond-false}
use Rattle.std.specs.Int.{w16, to_le_bytes}
use Rattle.fault.specs.declared.Fault.{Fault}
use Rattle.fault.specs.declared.Place.{Place}
use Rattle.fault.specs.declared.Reason.TheVariants.{DictionaryFull}
use Rattle.fault.specs.Numbers.{fault_of}
use Rattle.image.specs.Cells.{cell}
use Rattle.image.specs.Writes.{overwritten}
use Rattle.image.specs.Views.{line_of, high_of}
use Rattle.image.proofs.Overwriting.{take-before, drop_behind}
use Rattle.dictionary.specs.Dict.{Dict, appended, with_low}
use Rattle.dictionary.specs.Lent.{Outside, with_room, Did}

-- OUTSIDE
pub outside_none : (xs : List ℕ) → Outside xs xs
outside_none xs = record { below = refl; above = refl }

pub outside_then : {xs ys zs : List ℕ} → Outside xs ys → Outside ys zs → Outside xs zs
outside_then p q = record { below = q.below ∙ p.below; above = q.above ∙ p.above }

pub outside_written : (a : ℕ) (new xs ys : List ℕ) → 256 ≤ a → a + length new ≤ 32768 → 32768 ≤ length xs → ys ≡ overwritten a new xs → Outside xs ys
outside_written a new xs ys b h l e = record {
  below = ap (take 256) e ∙ take-before 256 a new xs b (omega arith);
  above = ap (drop 32768) e ∙ drop_behind 32768 a new xs h (omega arith);
}

-- the line and data space are outside
pub outside_line : (xs ys : List ℕ) → Outside xs ys → line_of ys ≡ line_of xs
unfolding line_of
outside_line xs ys o = sym (drop-take 128 128 ys) ∙ (ap (drop 128) o.below ∙ drop-take 128 128 xs)

pub outside_high : (here : ℕ) (xs ys : List ℕ) → Outside xs ys → high_of here ys ≡ high_of here xs
unfolding high_of
outside_high here xs ys o = ap (take (here - 32768)) o.above

-- a cell as its two bytes
pub le_bytes_are_cell : (x : ℕ) → x < 65536 → to_le_bytes w16 x ≡ cell x
unfolding cell
le_bytes_are_cell x h = let e : x / 256 % 256 ≡ x / 256 = omega arith in ap (λ b. x % 256 ∷ b ∷ []) e

-- APPENDING, one after the other
pub appended_two : (A B C : Dict) (xs ys zs : List ℕ) → B ≡ appended xs A → C ≡ appended ys B → xs ++ ys ≡ zs → C ≡ appended zs A
appended_two A B C xs ys zs p q r = let e = append_assoc A.low xs ys in cc

pub appended_none : (D : Dict) → D ≡ appended [] D
appended_none D = ap (λ l. with_low l D) (sym (append-nil D.low))

-- SPACE, given or refused
pub refused : (n : ℕ) (told : Place) (dp : ℕ) (D E : Dict) (r : Result (Unit {0}) Fault) (y : Fault) → length D.low ≡ dp → r ≡ Err y → y ≡ fault_of DictionaryFull told → 32768 < dp + n → Did (with_room n told D E) D r D
refused n told dp D E r y l e f h = rw (e, f) (cond-false (leb (length D.low + n) 32768) _ _ (lt-leb (length D.low + n) 32768 (omega arith)), refl)

pub accepted : (n : ℕ) (told : Place) (dp : ℕ) (D E new : Dict) → length D.low ≡ dp → dp + n ≤ 32768 → new ≡ E → with_room n told D E ≡ Ok new
accepted n told dp D E new l h e = cond-true (leb (length D.low + n) 32768) _ _ (le-leb (length D.low + n) 32768 (omega arith)) ∙ ap Ok (sym e)
