-- Laws of names.
use Rattle.std.proofs.Common.{◌≡◌, ℕ, zero, suc, ◌+◌, ◌<◌, ◌≤◌, true, false, List, [], ◌∷◌, length, get_or, drop, refl, ap, ◌∙◌, arith}
use Rattle.std.proofs.lemmas.List.{at_drop_more, at_drop_all}
use Rattle.std.proofs.lemmas.Bool.{eq-eqb, ne_eqb}
use Rattle.std.proofs.lemmas.Bool.Decides.{nat_tests}
use Rattle.std.specs.Char.{to_ascii_uppercase}
use Rattle.entries.specs.Entries.{capital, spelled, bytes_are, is_named, name_length}

pub upper_is_capital : (b : ℕ) → to_ascii_uppercase b ≡ capital b
upper_is_capital b = grind (arith, nat_tests)

pub length-spelled : (name : List ℕ) → length (spelled name) ≡ length name
length-spelled [] = refl
length-spelled (b ∷ []) = refl
length-spelled (b ∷ c ∷ bs) = ap suc (length-spelled (c ∷ bs))

pub spelled_last : (name : List ℕ) (i : ℕ) → i + 1 ≡ length name → get_or (spelled name) i 0 ≡ capital (get_or name i 0) + 128
spelled_last [] i h = let z : ⊥ = omega arith in absurd z
spelled_last (b ∷ []) zero h = refl
spelled_last (b ∷ []) (suc i) h = let z : ⊥ = omega arith in absurd z
spelled_last (b ∷ c ∷ bs) zero h = let z : ⊥ = omega arith in absurd z
spelled_last (b ∷ c ∷ bs) (suc i) h = spelled_last (c ∷ bs) i (omega arith)

pub spelled_inner : (name : List ℕ) (i : ℕ) → i + 1 < length name → get_or (spelled name) i 0 ≡ capital (get_or name i 0)
spelled_inner [] i h = let z : ⊥ = omega arith in absurd z
spelled_inner (b ∷ []) i h = let z : ⊥ = omega arith in absurd z
spelled_inner (b ∷ c ∷ bs) zero h = refl
spelled_inner (b ∷ c ∷ bs) (suc i) h = spelled_inner (c ∷ bs) i (omega arith)

-- the first of two bytes agrees, or does not
pub bytes_same : (low : List ℕ) (a b : ℕ) (bs : List ℕ) → get_or low a 0 ≡ b → bytes_are low a (b ∷ bs) ≡ bytes_are low (a + 1) bs
bytes_same low a b bs e = rw (eq-eqb (get_or low a 0) b e, bytes_are) refl

pub bytes_other : (low : List ℕ) (a b : ℕ) (bs : List ℕ) → (get_or low a 0 ≡ b → ⊥) → bytes_are low a (b ∷ bs) ≡ false
bytes_other low a b bs e = rw (ne_eqb (get_or low a 0) b e, bytes_are) refl

-- one byte on
pub bytes_more : (low : List ℕ) (a : ℕ) (s : List ℕ) (i : ℕ) → i < length s → get_or low (a + i) 0 ≡ get_or s i 0 → bytes_are low (a + i) (drop i s) ≡ bytes_are low (a + (i + 1)) (drop (i + 1) s)
bytes_more low a s i h e =
    let p : a + i + 1 ≡ a + (i + 1) = omega arith in
    at_drop_more (bytes_are low (a + i)) s i 0 h ∙ bytes_same low (a + i) (get_or s i 0) (drop (i + 1) s) e ∙ ap (λ k. bytes_are low k (drop (i + 1) s)) p

pub bytes_not : (low : List ℕ) (a : ℕ) (s : List ℕ) (i : ℕ) → i < length s → (get_or low (a + i) 0 ≡ get_or s i 0 → ⊥) → bytes_are low (a + i) (drop i s) ≡ false
bytes_not low a s i h e = at_drop_more (bytes_are low (a + i)) s i 0 h ∙ bytes_other low (a + i) (get_or s i 0) (drop (i + 1) s) e

pub bytes_all : (low : List ℕ) (a : ℕ) (s : List ℕ) (i : ℕ) → length s ≤ i → bytes_are low a (drop i s) ≡ true
bytes_all low a s i h = at_drop_all (bytes_are low a) s i h

-- a name of another length, and of the same
pub named_other : (low : List ℕ) (e : ℕ) (name : List ℕ) → (name_length low e ≡ length name → ⊥) → is_named low e name ≡ false
named_other low e name h = rw (ne_eqb (name_length low e) (length name) h, is_named) refl

pub named_bytes : (low : List ℕ) (e : ℕ) (name : List ℕ) → name_length low e ≡ length name → is_named low e name ≡ bytes_are low (e + 3) name
named_bytes low e name h = rw (eq-eqb (name_length low e) (length name) h, is_named) refl

-- the byte at a place
pub ruleset spelling = (upper_is_capital, spelled_last, spelled_inner)
