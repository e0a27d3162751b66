-- What copying a card to another leaves, and when it is refused.
use Rattle.std.specs.Prelude.{◌≡◌, ℕ, ◌<◌, ◌≤◌, min, Bool, false, ◌⊎◌, MatchBool, Option, Result, MatchOption, MatchResult, ◌≢◌}
use Rattle.fault.specs.declared.Fault.{Fault}
use Rattle.fault.specs.declared.Reason.TheVariants.{NoBlock, NotWritable}
use Rattle.fault.specs.Numbers.{fault_of, place_of}
use Rattle.store.specs.Meaning.{Meaning, block, written}

-- the first n blocks of the target are the source's, and all else of it is as before
pub record CopiedUpTo (n : ℕ) (source before after : Meaning) : Type 0 where
  pub same_count : after.count ≡ before.count
  pub same_switch : after.writable ≡ before.writable
  pub copied : (k : ℕ) → k < n → block after k ≡ block source k
  pub kept : (k : ℕ) → n ≤ k → block after k ≡ block before k

-- block n is copied, and there is no other answer
abbrev pub CopiesBlock : ℕ → Meaning → Meaning → Result (Unit {0}) Fault → Meaning → Type 0
CopiesBlock n source before r after = MatchResult r (λ _. after ≡ written before n (block source n)) (λ _. ⊥)

-- every block is copied; or the target is too small, or not writable, and is left as it was
abbrev pub Copies : Meaning → Meaning → Result ℕ Fault → Meaning → Type 0
Copies source before r after =
    MatchResult r (λ n. (n ≡ source.count) × CopiedUpTo n source before after)
    (λ f. (after ≡ before) × (((before.count < source.count) × (f ≡ fault_of NoBlock (place_of 0 0 0)))
    ⊎ ((source.count ≤ before.count) × (before.writable ≡ false) × (f ≡ fault_of NotWritable (place_of 0 0 0)))))

-- are the blocks n the same? There is no other answer.
abbrev pub Compares : ℕ → Meaning → Meaning → Result Bool Fault → Type 0
Compares n a b r = MatchResult r (λ same. MatchBool same (block a n ≡ block b n) (block a n ≢ block b n)) (λ _. ⊥)

-- two cards agree in their first n blocks
abbrev pub AgreeUpTo : ℕ → Meaning → Meaning → Type 0
AgreeUpTo n a b = (k : ℕ) → k < n → block a k ≡ block b k

-- the first block in which two cards differ, or nothing where all that both have agree; there is no other answer
abbrev pub FindsDifference : Meaning → Meaning → Result (Option ℕ) Fault → Type 0
FindsDifference a b r =
    MatchResult r
    (λ d. MatchOption d (AgreeUpTo (min a.count b.count) a b)
    (λ n. (n < min a.count b.count) × (block a n ≢ block b n) × AgreeUpTo n a b))
    (λ _. ⊥)
