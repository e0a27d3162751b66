-- The name of a word that is to be defined.
use Rattle.std.proofs.Common.{ℕ, List, Ok, Err, ap}
use Rattle.fault.specs.declared.Fault.{Fault}
use Rattle.definition.specs.declared.ranged.Registers.{Registers}
use Rattle.definition.specs.Asked.{Asked, given, ◌>>=◌}
use Rattle.definition.specs.Kernel
use Rattle.definition.specs.Kernel.{Asks}
use Rattle.definition.specs.Text.{Taken, take_name}
use Rattle.definition.specs.Words.{Argument, argument, taken, all_asked}
use Rattle.steps.specs.Does.{seen}
use Rattle.texts.specs.declared.name.Name.{Name}
use Rattle.texts.specs.Names.{name_of, TookName}
use Rattle.steps.specs.Asking.{Took, StateAnswers}
use Rattle.steps.proofs.Words.{refuses_on}
use Rattle.defining_words.specs.Defining.{NamedFor}

module _ (qs : List Asks) (r r' : Registers) (i : List ℕ) where
  abbrev asked : Argument → Asked (Unit {0})
  asked a = all_asked qs a.machine

  pub no_name : (e : Fault) → TookName r i (Err e) r' → NamedFor qs r i (Err e) r'
  unfolding taken
  no_name e h = λ c t k s. refuses_on (taken Kernel.a_name (seen r i c t k s)) asked e (seen r' i c t k s) (refuses_on (take_name (seen r i c t k s)) (λ y. given (argument y 0)) e (seen r' i c t k s) (h c t k s))

  module _ (n : Name) (h : TookName r i (Ok n) r') where
    took : Took Kernel.a_name r i (name_of n) 0 r'
    unfolding taken
    took = λ c t k s. ap (λ (x : Asked Taken). x >>= λ y. given (argument y 0)) (h c t k s)

    pub not_asked : (e : Fault) → StateAnswers qs r' (Err e) → NamedFor qs r i (Err e) r'
    not_asked e g = λ c t k s. rw (ap (λ (x : Asked Argument). x >>= asked) (took c t k s)) (g i c t k s)

    pub named : StateAnswers qs r' (Ok tt) → NamedFor qs r i (Ok n) r'
    named g = (took, g)
