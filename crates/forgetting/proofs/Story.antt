-- Moves one after the other.
use Rattle.std.proofs.Common.{◌≡◌, ℕ, ◌+◌, [], ◌∷◌, length, drop}
use Rattle.forgetting.proofs.Raw.{youngest}
use Rattle.forgetting.proofs.Stack.{Booted}
use Rattle.forgetting.proofs.Moves.{Dict, Move, colon, make, append, patch, semi, immediate, does, allot, seek, definitions, forget, give_up, apply, Allowed, Ends, chain_of}

-- the dictionary that boot leaves
pub record Boots (D : Dict) : Type 0 where
  pub booted : Booted (record { low = D.low; vocs = 270 ∷ [] })
  pub link_is : D.voc_link ≡ 278
  pub newest_is : D.newest ≡ youngest (270 ∷ []) D.low
  pub context_is : D.context ≡ 270
  pub current_is : D.current ≡ 270
  pub open_is : D.opened ≡ 0

-- moves, one after the other
pub data Run (fence : ℕ) (D : Dict) : Dict → Type 0 where
  start : Run fence D D
  and_then : {A : Dict} (v : Move) → Run fence D A → Allowed fence v A → Run fence D (apply v A)

-- moves, none of which ends the word at w
pub data Keeps (fence w : ℕ) (D : Dict) : Dict → Type 0 where
  still : Keeps fence w D D
  and_still : {A : Dict} (v : Move) → Keeps fence w D A → Allowed fence v A → ¬ Ends v w A → Keeps fence w D (apply v A)

abbrev pub Begin : Move → Type 0
Begin (colon view count name) = Unit {0}
Begin (make view count name code rest is_voc more) = Unit {0}
Begin (append bs) = ⊥
Begin (patch a x) = ⊥
Begin semi = ⊥
Begin immediate = ⊥
Begin (does x) = ⊥
Begin (allot h) = ⊥
Begin (seek v) = ⊥
Begin definitions = ⊥
Begin (forget w) = ⊥
Begin give_up = ⊥

-- DP, HERE, the vocabulary chain and the bytes below DP are equal
pub record Same (D E : Dict) : Type 0 where
  pub dp : length D.low ≡ length E.low
  pub here : D.here ≡ E.here
  pub voc_link : D.voc_link ≡ E.voc_link
  pub chain : chain_of D ≡ chain_of E
  pub bytes : drop 256 D.low ≡ drop 256 E.low

-- a word begun after boot and found by FORGET while it stands leaves nothing behind
abbrev pub Forgotten : Type 0
Forgotten = (Z D E : Dict) (v : Move) → Boots Z → Run (length Z.low) Z D → Begin v → Allowed (length Z.low) v D
    → Keeps (length Z.low) (length D.low + 2) (apply v D) E → Allowed (length Z.low) (forget (length D.low + 2)) E
    → Same (apply (forget (length D.low + 2)) E) D
