-- Questions: a no refuses the step for a reason, with the machine as the question found it; a yes goes on.
use Rattle.std.specs.Prelude.{ℕ, Bool, true, false, List, []}
use Rattle.fault.specs.declared.Reason.{Reason}
use Rattle.definition.specs.Machine.{Machine}

infixl 1 ◌>>=◌ ◌>>◌
pub data Asked (A : Type 0) : Type 0 where
  refused : Reason → Machine → Asked A
  given : A → Asked A

abbrev pub ◌>>=◌ : {A B : Type 0} → Asked A → (A → Asked B) → Asked B
refused why m >>= f = refused why m
given a >>= f = f a

abbrev pub ◌>>◌ : {A B : Type 0} → Asked A → Asked B → Asked B
a >> b = a >>= λ _. b

abbrev pub ask : Machine → Reason → Bool → Asked (Unit {0})
ask m why true = given tt
ask m why false = refused why m

-- What a step says of words: it began the word of this entry, FORGET found the word of this entry, or neither.
pub data News : Type 0 where
  no_news : News
  began forgot : ℕ → News

-- what a faultless step leaves: the machine, the bytes typed, and its news
pub record After : Type 0 where
  pub machine : Machine
  pub typed : List ℕ
  pub news : News

abbrev pub typing : List ℕ → Machine → Asked After
typing t m = given (record { machine = m; typed = t; news = no_news })

abbrev pub quietly : Machine → Asked After
quietly m = typing [] m

abbrev pub telling : News → Machine → Asked After
telling n m = given (record { machine = m; typed = []; news = n })
