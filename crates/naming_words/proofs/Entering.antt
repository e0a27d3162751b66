-- The entry of a name that follows in the text.
use Rattle.std.proofs.Common.{◌≡◌, ℕ, ◌+◌, ◌≤◌, List, Some, None, Ok, Err, Option, Result, sym, refl, ap, ◌∙◌, subst}
use Rattle.fault.specs.declared.Fault.{Fault}
use Rattle.fault.specs.declared.Reason.TheVariants.{NotFound}
use Rattle.fault.specs.Numbers.{fault_of}
use Rattle.store.specs.Meaning.{Meaning}
use Rattle.dictionary.specs.Dict.{Dict}
use Rattle.dictionary.specs.Search.{searched}
use Rattle.definition.specs.declared.registers.Mark.{Mark}
use Rattle.definition.specs.declared.registers.Shared.{Shared}
use Rattle.definition.specs.declared.ranged.Registers.{Registers}
use Rattle.definition.specs.Machine.{dict_of}
use Rattle.definition.specs.Asked.{Asked, given, ◌>>=◌}
use Rattle.definition.specs.Kernel
use Rattle.definition.specs.Text.{Taken, take_name, ask_found, ask_there}
use Rattle.definition.specs.Words.{Argument, argument, taken}
use Rattle.steps.specs.Seats.{told_by, IsAnswered}
use Rattle.steps.specs.Does.{seen}
use Rattle.texts.specs.declared.name.Name.{Name}
use Rattle.texts.specs.Names.{name_of, TookName}
use Rattle.texts.specs.Finding.{Answers, EntryInside}
use Rattle.steps.proofs.Names.{same_dict}
use Rattle.steps.proofs.Words.{refuses_on}
use Rattle.naming_words.specs.Entries.{TookEntry}

-- the rest once the name was taken
abbrev there : Taken → Option ℕ → Asked Argument
there t o = ask_there t.machine o >>= λ e. given (argument t e)

abbrev found : Dict → Taken → Asked Argument
found D t = ask_found t.machine (searched D t.bytes) >>= there t

module _ (r r' : Registers) (i : List ℕ) where
  pub no_name : (e : Fault) → TookName r i (Err e) r' → TookEntry r i (Err e) r'
  unfolding taken
  no_name e h = λ c t k s. refuses_on (take_name (seen r i c t k s)) (found (dict_of (seen r i c t k s))) e (seen r' i c t k s) (h c t k s)

  module _ (n : Name) (w : List ℕ) (h : TookName r i (Ok n) r') (q : w ≡ name_of n) where
    abbrev Searched : Result (Option ℕ) Fault → Type 0
    Searched o = (c t : List ℕ) (k : List Mark) (s : Meaning) → Answers (ask_found (seen r' i c t k s) (searched (dict_of (seen r' i c t k s)) w)) o (seen r' i c t k s)

    abbrev was : List ℕ → List ℕ → List Mark → Meaning → Taken
    was c t k s = record { machine = seen r' i c t k s; bytes = w }

    named : (c t : List ℕ) (k : List Mark) (s : Meaning) → taken Kernel.a_word (seen r i c t k s) ≡ found (dict_of (seen r' i c t k s)) (was c t k s)
    unfolding taken
    named c t k s =
        ap (λ y. y >>= found (dict_of (seen r i c t k s))) (h c t k s)
        ∙ ap (λ (y : List ℕ). found (dict_of (seen r i c t k s)) (record { machine = seen r' i c t k s; bytes = y })) (sym q)
        ∙ ap (λ (D : Dict). found D (was c t k s)) (sym (same_dict (seen r i c t k s) _ (h c t k s)))

    pub broken : (e : Fault) → Searched (Err e) → TookEntry r i (Err e) r'
    broken e f = λ c t k s. rw (named c t k s) (refuses_on (ask_found (seen r' i c t k s) (searched (dict_of (seen r' i c t k s)) w)) (there (was c t k s)) e (seen r' i c t k s) (f c t k s))

    searched_is : (o : Option ℕ) → Searched (Ok o) → (c t : List ℕ) (k : List Mark) (s : Meaning) → taken Kernel.a_word (seen r i c t k s) ≡ there (was c t k s) o
    searched_is o f c t k s = named c t k s ∙ ap (λ (y : Asked (Option ℕ)). y >>= there (was c t k s)) (f c t k s)

    not_found : (o : Option ℕ) (e : Fault) → o ≡ None → Searched (Ok o) → e ≡ fault_of NotFound (told_by r'.seat) → TookEntry r i (Err e) r'
    not_found o e z f p = λ c t k s. rw (searched_is o f c t k s ∙ ap (there (was c t k s)) z) (p, refl)

    at_entry : (o : Option ℕ) (x : ℕ) → o ≡ Some x → Searched (Ok o) → r'.shared ≡ r.shared → EntryInside r'.shared.ends.dp (Ok o) → TookEntry r i (Ok x) r'
    at_entry o x z f p g =
        let P : Option ℕ → Type 0 = λ y. EntryInside r'.shared.ends.dp (Ok y) in
        let Q : ℕ → Type 0 = λ y. x + 7 ≤ y in
        let l = subst P z g in
        (l.0, subst Q (ap (λ (y : Shared). y.ends.dp) p) l.1, (w, λ c t k s. searched_is o f c t k s ∙ ap (there (was c t k s)) z))

    pub answered_there : (o : Option ℕ) (v : Result ℕ Fault) → Searched (Ok o) → r'.shared ≡ r.shared → EntryInside r'.shared.ends.dp (Ok o) → IsAnswered v (λ x. o ≡ Some x) (o ≡ None) NotFound r'.seat → TookEntry r i v r'
    answered_there o (Ok x) f p g a = at_entry o x a f p g
    answered_there o (Err e) f p g a = not_found o e a.0 f a.1
