-- What each group of words promises, as what executing by code promises.
use Rattle.std.proofs.Common.{◌≡◌, ℕ, ◌-◌, true, false, ◌&&◌, leb, List, [], length, Ok, Err, Result, sym, subst}
use Rattle.fault.specs.declared.Fault.{Fault}
use Rattle.store.specs.Meaning.{Meaning}
use Rattle.definition.specs.declared.registers.Mark.{Mark}
use Rattle.definition.specs.declared.ranged.Registers.{Registers}
use Rattle.definition.specs.Machine.{Machine}
use Rattle.definition.specs.Asked.{Asked, After}
use Rattle.definition.specs.Words.{row_of, do_kernel, other_word}
use Rattle.steps.specs.declared.progress.Progress.{Progress}
use Rattle.steps.specs.Does.{seen, acts, does, Does, Did, OnCells, OnSpace, OnBlocks, FromText, FromState, DidType, Grows}
use Rattle.codes.specs.Performs.{coded, went_by, Memory, memory, Performs, FullKeeps}
use Rattle.steps.proofs.Words.{did_by}
use Rattle.steps.proofs.States.{Asking, bare}
use Rattle.codes.proofs.Lifting.{quiet, plain_did, kernel_does, if_false}

-- a word that types nothing leaves no full output
pub never_full : (o : Result (Unit {0}) Fault) (p : Result Progress Fault) (c c' : List ℕ) → p ≡ went_by o → FullKeeps p c c'
never_full o p c c' q = subst (λ y. FullKeeps y c c') (sym q) (at o)
  where
    at : (o : Result (Unit {0}) Fault) → FullKeeps (went_by o) c c'
    at (Ok u) = tt
    at (Err e) = tt

at_code : (num code t : ℕ) (r r' : Registers) (l l' : Memory) (o : Result (Unit {0}) Fault) (p : Result Progress Fault) → code ≡ num → p ≡ went_by o → Performs num t r l (went_by o) r' l' → Performs code t r l p r' l'
at_code num code t r r' l l' o p q f h = subst (λ y. Performs y t r l p r' l') (sym q) (subst (λ y. Performs num t r l y r' l') (sym f) h)

module _ (num code t : ℕ) (r r' : Registers) (o : Result (Unit {0}) Fault) (p : Result Progress Fault) (q : code ≡ num) (f : p ≡ went_by o) (i c e i' c' e' : List ℕ) (k k' : List Mark) (out : List ℕ) (n : ℕ) (s s' : Meaning) where
  -- by what the word of that code comes to
  pub coded_performs : ((again : ℕ → Machine → Asked After) → Did (coded again num t (seen r i c e k s)) o (seen r' i' c' e' k' s')) → Performs code t r (memory i c e k out n s) p r' (memory i' c' e' k' out n s')
  coded_performs h = at_code num code t r r' (memory i c e k out n s) (memory i' c' e' k' out n s') o p q f (λ again. quiet (coded again num t) r r' i c e i' c' e' k k' s s' out n o (h again))

  -- by its row of the kernel table, where it asks nothing of the state
  pub acts_performs : Asking num [] → ((again : ℕ → Machine → Asked After) → Did (acts num again (bare (seen r i c e k s)) (seen r i c e k s)) o (seen r' i' c' e' k' s')) → Performs code t r (memory i c e k out n s) p r' (memory i' c' e' k' out n s')
  acts_performs a h = coded_performs (λ again. plain_did num t a again (seen r i c e k s) (seen r' i' c' e' k' s') o (h again))

  pub does_performs : (leb 1 num && leb num 105) ≡ true → ((again : ℕ → Machine → Asked After) → Did (do_kernel again (row_of num) (seen r i c e k s)) o (seen r' i' c' e' k' s')) → Performs code t r (memory i c e k out n s) p r' (memory i' c' e' k' out n s')
  does_performs a h = coded_performs (λ again. subst (λ y. Did y o (seen r' i' c' e' k' s')) (sym (kernel_does again num t (seen r i c e k s) a)) (h again))

  pub other_performs : (leb 1 num && leb num 105) ≡ false → Does (other_word num t) (seen r i c e k s) o (seen r' i' c' e' k' s') → Performs code t r (memory i c e k out n s) p r' (memory i' c' e' k' out n s')
  other_performs a h =
      coded_performs
      (λ again. subst (λ y. Did y o (seen r' i' c' e' k' s')) (sym (if_false (leb 1 num && leb num 105) (do_kernel again (row_of num) (seen r i c e k s)) (other_word num t (seen r i c e k s)) a))
      (did_by (other_word num t) (seen r i c e k s) (seen r' i' c' e' k' s') o h))

  pub blocks_performs : Asking num [] → OnBlocks num r i c s o r' i' c' s' → e' ≡ e → k' ≡ k → Performs code t r (memory i c e k out n s) p r' (memory i' c' e' k' out n s')
  blocks_performs a h u v = acts_performs a (λ again. subst (λ y. Did (acts num again (bare (seen r i c e k s)) (seen r i c e k s)) o (seen r' i' c' y k' s')) (sym u) (subst (λ (y : List Mark). Did (acts num again (bare (seen r i c e k s)) (seen r i c e k s)) o (seen r' i' c' e y s')) (sym v) (h again (bare (seen r i c e k s)) e k)))

module _ (num code t : ℕ) (r r' : Registers) (o : Result (Unit {0}) Fault) (p : Result Progress Fault) (q : code ≡ num) (f : p ≡ went_by o) (i c e : List ℕ) (k : List Mark) (out : List ℕ) (n : ℕ) (s : Meaning) where
  pub cells_performs : (c' : List ℕ) → Asking num [] → length i ≡ 65536 → OnCells num r c o r' c' → Performs code t r (memory i c e k out n s) p r' (memory i c' e k out n s)
  cells_performs c' a l h =
      acts_performs num code t r r' o p q f i c e i c' e k k out n s s a
      (λ again. did_by (acts num again (bare (seen r i c e k s))) (seen r i c e k s) (seen r' i c' e k s) o (h again (bare (seen r i c e k s)) i e k s l))

  pub space_performs : (i' c' : List ℕ) → Asking num [] → OnSpace num r i c o r' i' c' → Performs code t r (memory i c e k out n s) p r' (memory i' c' e k out n s)
  space_performs i' c' a h =
      acts_performs num code t r r' o p q f i c e i' c' e k k out n s s a
      (λ again. did_by (acts num again (bare (seen r i c e k s))) (seen r i c e k s) (seen r' i' c' e k s) o (h again (bare (seen r i c e k s)) e k s))

  -- from its state questions on, and from its text on
  pub state_performs : (i' c' e' : List ℕ) → (leb 1 num && leb num 105) ≡ true → length k ≡ 32 → FromState num r i c e o r' i' c' e' → Performs code t r (memory i c e k out n s) p r' (memory i' c' e' k out n s)
  state_performs i' c' e' a l h = does_performs num code t r r' o p q f i c e i' c' e' k k out n s s a (λ again. h again k s l)

  pub text_performs : (i' c' : List ℕ) → (leb 1 num && leb num 105) ≡ true → FromText num r i c o r' i' c' → Performs code t r (memory i c e k out n s) p r' (memory i' c' e k out n s)
  text_performs i' c' a h = does_performs num code t r r' o p q f i c e i' c' e k k out n s s a (λ again. h again e k s)

  pub marks_performs : (i' : List ℕ) (k' : List Mark) → (leb 1 num && leb num 105) ≡ true → ((again : ℕ → Machine → Asked After) (c e : List ℕ) (s : Meaning) → Did (does num again (seen r i c e k s)) o (seen r' i' c e k' s)) → Performs code t r (memory i c e k out n s) p r' (memory i' c e k' out n s)
  marks_performs i' k' a h = does_performs num code t r r' o p q f i c e i' c e k k' out n s s a (λ again. h again c e s)

-- a word that types
pub typing_performs : (num code t : ℕ) (r r' : Registers) (p : Result Progress Fault) → code ≡ num → (leb 1 num && leb num 105) ≡ true → (i c e : List ℕ) (k : List Mark) (out out' new : List ℕ) (n n' : ℕ) (s : Meaning) → Grows out n new out' n'
    → ((again : ℕ → Machine → Asked After) → DidType (does num again (seen r i c e k s)) (seen r i c e k s) (length out - n) p (seen r' i c e k s) new) → Performs code t r (memory i c e k out n s) p r' (memory i c e k out' n' s)
typing_performs num code t r r' p q a i c e k out out' new n n' s g h =
    subst (λ y. Performs y t r (memory i c e k out n s) p r' (memory i c e k out' n' s)) (sym q)
    (λ again. record { new = new; output = g; did = subst (λ (y : Asked After). DidType y (seen r i c e k s) (length out - n) p (seen r' i c e k s) new) (sym (kernel_does again num t (seen r i c e k s) a)) (h again) })
