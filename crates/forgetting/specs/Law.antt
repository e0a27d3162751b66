-- The law of forgetting: a word begun after boot that FORGET finds while it stands leaves nothing behind.
use Rattle.std.specs.Prelude.{◌≡◌, ℕ, ◌<◌, ◌≤◌, drop}
use Rattle.dictionary.specs.Dict.{Dict, dp, next_entry}
use Rattle.dictionary.specs.Trim.{chain_of, forgotten}
use Rattle.kernel.specs.Boot.{boot_dict}
use Rattle.forgetting.specs.Changes.{Change, colon, define, vocabulary, append, patch, semicolon, immediate, does, allot, seek, definitions, forget, give_up, changed, Allowed}

-- FENCE is DP when the machine boots
abbrev pub fence : ℕ
fence = dp boot_dict

-- allowed changes, one after the other
pub data Run (D : Dict) : Dict → Type 0 where
  start : Run D D
  and_then : {A : Dict} (c : Change) → Run D A → Allowed fence c A → Run D (changed c A)

-- a change begins a word
abbrev pub Begin : Change → Type 0
Begin (colon view name) = Unit {0}
Begin (define view name code rest) = Unit {0}
Begin (vocabulary view name) = Unit {0}
Begin (append bytes) = ⊥
Begin (patch a x) = ⊥
Begin semicolon = ⊥
Begin immediate = ⊥
Begin (does x) = ⊥
Begin (allot h) = ⊥
Begin (seek v) = ⊥
Begin definitions = ⊥
Begin (forget w) = ⊥
Begin give_up = ⊥

-- the word w no longer stands after a change: it or an older one was forgotten, or it was open and given up
abbrev pub Ends : Change → ℕ → Dict → Type 0
Ends (forget y) w D = y ≤ w
Ends give_up w D = D.opened ≡ w
Ends (colon view name) w D = ⊥
Ends (define view name code rest) w D = ⊥
Ends (vocabulary view name) w D = ⊥
Ends (append bytes) w D = ⊥
Ends (patch a x) w D = ⊥
Ends semicolon w D = ⊥
Ends immediate w D = ⊥
Ends (does x) w D = ⊥
Ends (allot h) w D = ⊥
Ends (seek v) w D = ⊥
Ends definitions w D = ⊥

-- changes that w outlives
pub data Keeps (w : ℕ) (D : Dict) : Dict → Type 0 where
  still : Keeps w D D
  and_still : {A : Dict} (c : Change) → Keeps w D A → Allowed fence c A → ¬ Ends c w A → Keeps w D (changed c A)

-- DP, HERE, the vocabulary chain and every byte from 256 below DP are equal
pub record Same (D E : Dict) : Type 0 where
  pub ends : dp D ≡ dp E
  pub here : D.here ≡ E.here
  pub voc_link : D.voc_link ≡ E.voc_link
  pub chain : chain_of D ≡ chain_of E
  pub bytes : drop 256 D.low ≡ drop 256 E.low

-- From boot to D; there a word begins; from then on it stands, up to E; there FORGET finds it.
pub record Story (D E : Dict) : Type 0 where
  pub before : Run boot_dict D
  pub beginning : Change
  pub begins : Begin beginning
  pub allowed : Allowed fence beginning D
  pub standing : Keeps (next_entry D) (changed beginning D) E
  pub found : Allowed fence (forget (next_entry D)) E

abbrev pub Forgets : Type 0
Forgets = (D E : Dict) → Story D E → Same (forgotten (next_entry D) E) D

-- Trims absorb growth: what happens to E while the word stands does not show once it is forgotten.
abbrev pub Absorbs : Type 0
Absorbs = (D E F : Dict) → Story D E → Keeps (next_entry D) E F → Allowed fence (forget (next_entry D)) F → Same (forgotten (next_entry D) F) (forgotten (next_entry D) E)

-- Trims compose: forgetting a younger word first makes no difference.
abbrev pub Composes : Type 0
Composes = (D E : Dict) (y : ℕ) → Story D E → next_entry D < y → Allowed fence (forget y) E → Allowed fence (forget (next_entry D)) (forgotten y E)
    → Same (forgotten (next_entry D) (forgotten y E)) (forgotten (next_entry D) E)
