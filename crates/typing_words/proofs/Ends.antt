-- The ends of a word that types, from what the code knows there.
use Rattle.std.proofs.Common.{◌≡◌, ℕ, ◌-◌, ◌<◌, Bool, true, false, List, [], length, take, Ok, Err, sym, refl, ap, ◌∙◌, arith}
use Rattle.std.proofs.lemmas.List.{append-nil}
use Rattle.fault.specs.declared.Fault.{Fault}
use Rattle.fault.specs.declared.Reason.{Reason}
use Rattle.fault.specs.Numbers.{fault_of}
use Rattle.store.specs.Meaning.{Meaning}
use Rattle.definition.specs.declared.registers.Mark.{Mark}
use Rattle.definition.specs.declared.ranged.Registers.{Registers}
use Rattle.definition.specs.Machine.{Machine}
use Rattle.definition.specs.Asked.{Asked, refused, After, typing, no_news}
use Rattle.definition.specs.Words.{Argument}
use Rattle.definition.specs.Stacks.{popped}
use Rattle.steps.specs.declared.progress.Progress.{Progress}
use Rattle.steps.specs.declared.progress.Progress.TheVariants.{Went, Full, Finished}
use Rattle.steps.specs.Seats.{told_by}
use Rattle.steps.specs.Does.{seen, acts, Grows, OnOutput}
use Rattle.steps.proofs.Exits.{cells_view}
use Rattle.typing_words.specs.Output.{Types, Releases}

nothing_new : (out : List ℕ) (n : ℕ) (out' : List ℕ) (n' : ℕ) → out' ≡ out → n' ≡ n → Grows out n [] out' n'
nothing_new out n out' n' p q = (omega (arith, q), ap (λ y. take y out') q ∙ ap (take n) p ∙ sym (append-nil (take n out)))

after : List ℕ → Machine → After
after new m = record { machine = m; typed = new; news = no_news }

-- the word of number v comes to `f` of the machine
abbrev pub Comes : ℕ → Registers → List ℕ → List ℕ → (Machine → Asked After) → Type 0
Comes v r i c f = (again : ℕ → Machine → Asked After) (a : Argument) (t : List ℕ) (k : List Mark) (s : Meaning) → acts v again a (seen r i c t k s) ≡ f (seen r i c t k s)

module _ (v : ℕ) (r : Registers) (i c out : List ℕ) (n : ℕ) where
  pub refuses : (e : Fault) (why : Reason) → Comes v r i c (refused why) → e ≡ fault_of why (told_by r.seat) → OnOutput v r i c out n (Err e) r out n
  refuses e why h p = ([], nothing_new out n out n refl refl, λ again a t k s. (rw (h again a t k s) (p, refl), refl))

  pub went : (r' : Registers) (out' : List ℕ) (n' : ℕ) (new want : List ℕ) (f : Machine → Machine) → new ≡ want → Types out n new true out' n' → ((t : List ℕ) (k : List Mark) (s : Meaning) → seen r' i c t k s ≡ f (seen r i c t k s)) → Comes v r i c (λ m. typing want (f m)) → OnOutput v r i c out n (Ok Went) r' out' n'
  unfolding after
  went r' out' n' new want f e g u h =
      (new, g.0, λ again a t k s. (after want (f (seen r i c t k s)), h again a t k s, sym (u t k s), sym e, g.1))

  pub full : (r' : Registers) (out' : List ℕ) (n' : ℕ) (new want : List ℕ) (f : Machine → Machine) → new ≡ want → Types out n new false out' n' → r' ≡ r → Comes v r i c (λ m. typing want (f m)) → OnOutput v r i c out n (Ok Full) r' out' n'
  unfolding after
  full r' out' n' new want f e g u h =
      let l : length out - n < length want = rw e at g.0 in
      ([], nothing_new out n out' n' g.1 g.2, λ again a t k s. (after want (f (seen r i c t k s)), h again a t k s, l, ap (λ (y : Registers). seen y i c t k s) u, refl))

  -- k cells go if the bytes fitted
  pub ends : (r' : Registers) (out' : List ℕ) (n' k : ℕ) (new want : List ℕ) (b : Bool) (p : Progress) → new ≡ want → Types out n new b out' n' → Releases b k r c p r' → Comes v r i c (λ m. typing want (popped k m)) → OnOutput v r i c out n (Ok p) r' out' n'
  ends r' out' n' k new want true Went e g u h = went r' out' n' new want (popped k) e g (λ t ms s. cells_view r r' i c c t ms s _ _ u.0 u.1 u.2) h
  ends r' out' n' k new want true Full e g u h = absurd u
  ends r' out' n' k new want true Finished e g u h = absurd u
  ends r' out' n' k new want false Went e g u h = absurd u
  ends r' out' n' k new want false Full e g u h = full r' out' n' new want (popped k) e g u h
  ends r' out' n' k new want false Finished e g u h = absurd u
