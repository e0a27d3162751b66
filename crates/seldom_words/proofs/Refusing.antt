-- What is refused at once.
use Rattle.std.proofs.Common.{◌≡◌, ℕ, Bool, true, false, ◌&&◌, ◌||◌, eqb, leb, ◌⊎◌, Err, sym, refl, ◌∙◌, subst, inl, inr, arith}
use Rattle.std.proofs.lemmas.Bool.Decides.{nat_tests}
use Rattle.std.proofs.lemmas.Bool.{true≢false}
use Rattle.fault.specs.declared.Fault.{Fault}
use Rattle.fault.specs.declared.Reason.TheVariants.{Aborted, BadToken}
use Rattle.fault.specs.Numbers.{fault_of}
use Rattle.definition.specs.Machine.{Machine, told}
use Rattle.definition.specs.Asked.{Asked, refused, After}
use Rattle.definition.specs.Words.{row_of, perform, do_kernel, other_word}
use Rattle.steps.specs.Does.{acts, Did}
use Rattle.codes.specs.declared.code.SeldomWord.{SeldomWord}
use Rattle.codes.specs.Codes.{is_known, SeldomCoded}
use Rattle.codes.specs.Performs.{coded}
use Rattle.codes.proofs.Lifting.{if_false}
use Rattle.steps.proofs.States.{bare}
use Rattle.defining_words.specs.declared.words.DefiningWord.{DefiningWord}
use Rattle.defining_words.specs.Numbers.{defining_number}
use Rattle.naming_words.specs.declared.words.NamingWord.{NamingWord}
use Rattle.naming_words.specs.Numbers.{naming_number}

defining_kernel : (w : DefiningWord) → (leb 1 (defining_number w) && leb (defining_number w) 105) ≡ true
defining_kernel DefiningWord.Colon = refl
defining_kernel DefiningWord.Create = refl
defining_kernel DefiningWord.Variable = refl
defining_kernel DefiningWord.Constant = refl
defining_kernel DefiningWord.Vocabulary = refl

pub naming_kernel : (w : NamingWord) → (leb 1 (naming_number w) && leb (naming_number w) 105) ≡ true
naming_kernel NamingWord.Tick = refl
naming_kernel NamingWord.Paren = refl
naming_kernel (NamingWord.Defining w) = defining_kernel w
naming_kernel NamingWord.Forget = refl
naming_kernel NamingWord.BracketTick = refl
naming_kernel NamingWord.BracketCompile = refl
naming_kernel NamingWord.DotQuote = refl

pub abort_refuses : (again : ℕ → Machine → Asked After) (e : Fault) (m : Machine) → e ≡ fault_of Aborted (told m) → Did (acts 63 again (bare m) m) (Err e) m
unfolding perform
abort_refuses again e m p = (p, refl)

-- a code that is no word's
pub not_known : (n : ℕ) (w : SeldomWord) → SeldomCoded n w → (n ≡ 59 → ⊥) → (w ≡ SeldomWord.Execute) ⊎ (w ≡ SeldomWord.Unknown) → is_known n ≡ false
not_known n w c o (inl e) = absurd (o (subst (SeldomCoded n) e c))
not_known n w c o (inr e) = subst (SeldomCoded n) e c

no_kernel : (n : ℕ) → is_known n ≡ false → (leb 1 n && leb n 105) ≡ false
no_kernel n h = first (leb 1 n && leb n 105) (leb 201 n && leb n 205) h
  where
    first : (a b : Bool) → (a || b) ≡ false → a ≡ false
    first true b h = h
    first false b h = refl

no_other : (n : ℕ) → is_known n ≡ false → (leb 201 n && leb n 205) ≡ false
no_other n h = second (leb 1 n && leb n 105) (leb 201 n && leb n 205) h
  where
    second : (a b : Bool) → (a || b) ≡ false → b ≡ false
    second true b h = absurd (true≢false h)
    second false b h = h

other_refused : (n t : ℕ) (m : Machine) → eqb n 201 ≡ false → eqb n 202 ≡ false → eqb n 203 ≡ false → eqb n 204 ≡ false → eqb n 205 ≡ false → other_word n t m ≡ refused BadToken m
other_refused n t m a b c d e = rw (a, b, c, d, e) refl

pub unknown_refuses : (again : ℕ → Machine → Asked After) (n t : ℕ) (e : Fault) (m : Machine) → is_known n ≡ false → e ≡ fault_of BadToken (told m) → Did (coded again n t m) (Err e) m
unknown_refuses again n t e m h p =
    let g = no_other n h in
    let x = if_false (leb 1 n && leb n 105) (do_kernel again (row_of n) m) (other_word n t m) (no_kernel n h)
    ∙ other_refused n t m (grind (arith, nat_tests, g)) (grind (arith, nat_tests, g)) (grind (arith, nat_tests, g)) (grind (arith, nat_tests, g)) (grind (arith, nat_tests, g)) in
    subst (λ (y : Asked After). Did y (Err e) m) (sym x) (p, refl)
