-- Laws of the search order.
use Rattle.std.proofs.Common.{◌≡◌, ℕ, true, false, ◌||◌, eqb, is_some, Some, None, Ok, Err, Option, Result, List, sym, refl, ap, ◌∙◌, inl, inr}
use Rattle.std.proofs.lemmas.Bool.{false≢true, or_cases, eqb-true}
use Rattle.fault.specs.declared.Fault.{Fault}
use Rattle.fault.specs.declared.Place.{Place}
use Rattle.entries.specs.Entries.{forth}
use Rattle.entries.specs.Search.{Found, missing, broken, hit, search_in}
use Rattle.entries.specs.Threads.{answered}
use Rattle.dictionary.specs.Dict.{Dict}
use Rattle.dictionary.specs.Search.{or_else, searched}

-- what an answer says of what was found
pub answer_some : (told : Place) (f : Found) (e : ℕ) → Ok (Some e) ≡ answered told f → f ≡ hit e
answer_some told missing e h = absurd (false≢true (cc))
answer_some told broken e h = absurd (false≢true (cc))
answer_some told (hit x) e h = cc

pub answer_none : (told : Place) (f : Found) → Ok None ≡ answered told f → f ≡ missing
answer_none told missing h = refl
answer_none told broken h = absurd (false≢true (cc))
answer_none told (hit x) h = absurd (false≢true (cc))

pub answer_broken : (told : Place) (f : Found) (x : Fault) → Err x ≡ answered told f → f ≡ broken
answer_broken told missing x h = absurd (false≢true (cc))
answer_broken told broken x h = refl
answer_broken told (hit e) x h = absurd (false≢true (cc))

-- an answer that ends the search, and one that goes on
pub else_some : (told : Place) (f : Found) (next : Unit {0} → Found) (e : ℕ) (r : Result (Option ℕ) Fault) → Ok (Some e) ≡ answered told f → r ≡ Ok (Some e) → r ≡ answered told (or_else f next)
else_some told f next e r h k = k ∙ ap (λ g. answered told (or_else g next)) (sym (answer_some told f e h))

pub else_broken : (told : Place) (f : Found) (next : Unit {0} → Found) (x : Fault) (r : Result (Option ℕ) Fault) → Err x ≡ answered told f → r ≡ Err x → r ≡ answered told (or_else f next)
else_broken told f next x r h k = k ∙ (h ∙ (ap (answered told) (answer_broken told f x h) ∙ ap (λ g. answered told (or_else g next)) (sym (answer_broken told f x h))))

pub else_next : (told : Place) (f : Found) (next : Unit {0} → Found) (r : Result (Option ℕ) Fault) → f ≡ missing → r ≡ answered told (next tt) → r ≡ answered told (or_else f next)
else_next told f next r h k = k ∙ ap (λ g. answered told (or_else g next)) (sym h)

-- VOCABULARIES ONE AFTER THE OTHER, each asked where those before it have not the name
pub says_next : (told : Place) (f g : Found) (o : Option ℕ) (r : Result (Option ℕ) Fault) → Ok o ≡ answered told f → is_some o ≡ false → r ≡ answered told g → r ≡ answered told (or_else f (λ _. g))
says_next told f g None r h n k = else_next told f (λ _. g) r (answer_none told f h) k
says_next told f g (Some e) r h n k = absurd (false≢true (sym n))

-- one that is not asked has not the name either
pub says_same : (told : Place) (f g : Found) (o : Option ℕ) → Ok o ≡ answered told f → (f ≡ missing → g ≡ missing) → Ok o ≡ answered told (or_else f (λ _. g))
says_same told f g None h k = let m = answer_none told f h in else_next told f (λ _. g) (Ok None) m (ap (answered told) (sym (k m)))
says_same told f g (Some e) h k = else_some told f (λ _. g) e (Ok (Some e)) h refl

pub says_hit : (told : Place) (f g : Found) (o : Option ℕ) → Ok o ≡ answered told f → is_some o ≡ true → Ok o ≡ answered told (or_else f (λ _. g))
says_hit told f g None h n = absurd (false≢true n)
says_hit told f g (Some e) h n = else_some told f (λ _. g) e (Ok (Some e)) h refl

pub or_else_assoc : (f g h : Found) → or_else (or_else f (λ _. g)) (λ _. h) ≡ or_else f (λ _. or_else g (λ _. h))
or_else_assoc missing g h = refl
or_else_assoc broken g h = refl
or_else_assoc (hit e) g h = refl

pub both_missing : (f g : Found) → or_else f (λ _. g) ≡ missing → (f ≡ missing) × (g ≡ missing)
both_missing missing g e = (refl, e)
both_missing broken g e = absurd (false≢true (cc))
both_missing (hit x) g e = absurd (false≢true (cc))

-- FORTH, where it is one of the two
pub forth_missing : (f : ℕ → Found) (context current : ℕ) → (eqb forth context || eqb forth current) ≡ true → (f context ≡ missing) × (f current ≡ missing) → f forth ≡ missing
forth_missing f context current h m = elim (or_cases (eqb forth context) (eqb forth current) h) [
  | inl a ↦ ap f (eqb-true forth context a) ∙ m.0
  | inr b ↦ ap f (eqb-true forth current b) ∙ m.1
]

-- all three
pub searched_in : (told : Place) (D : Dict) (low name : List ℕ) (r : Result (Option ℕ) Fault) → low ≡ D.low
    → r ≡ answered told (or_else (search_in low D.context name) (λ _. or_else (search_in low D.current name) (λ _. search_in low forth name))) → r ≡ answered told (searched D name)
unfolding searched
searched_in told D low name r e h = h ∙ ap (λ s. answered told (or_else (search_in s D.context name) (λ _. or_else (search_in s D.current name) (λ _. search_in s forth name)))) e
