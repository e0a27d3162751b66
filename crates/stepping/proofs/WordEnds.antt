-- The ends of interpreting a word.
use Rattle.std.proofs.Common.{◌≡◌, ℕ, true, false, List, [], ◌∷◌, length, Ok, Err, sym, refl, ap, ◌∙◌, subst}
use Rattle.fault.specs.declared.Fault.{Fault}
use Rattle.store.specs.Meaning.{Meaning}
use Rattle.image.specs.Cells.{cell}
use Rattle.dictionary.specs.Dict.{appended}
use Rattle.definition.specs.declared.registers.Mark.{Mark}
use Rattle.definition.specs.declared.ranged.Registers.{Registers}
use Rattle.definition.specs.Machine.{Machine}
use Rattle.definition.specs.Asked.{Asked, refused, given, ◌>>=◌, After, no_news, quietly}
use Rattle.definition.specs.Text.{Taken}
use Rattle.definition.specs.Stacks.{replaced}
use Rattle.definition.specs.Compile.{appends, literal_of}
use Rattle.definition.specs.Step
use Rattle.definition.specs.Step.{Outcome, outcome, acted, interpreted}
use Rattle.steps.specs.Does.{seen, IsRefused, Does}
use Rattle.texts.specs.Texts.{word_in}
use Rattle.texts.specs.declared.word.Word.{Word}
use Rattle.texts.specs.declared.word.Word.TheVariants.{Plain, Number}
use Rattle.texts.specs.Finding.{classified, Interpreting, meant, KindIs}
use Rattle.texts.proofs.Answering.{refuses_on}
use Rattle.steps.specs.Spaces.{in_space}
use Rattle.stepping.specs.declared.next.Next.TheVariants as next
use Rattle.stepping.specs.Steps.{Leads, Interprets}

-- a refusal, as a step that faults
pub refused_leads : (x : Asked After) (m m' : Machine) (e : Fault) → IsRefused x e m' → Leads (outcome x) m (Err e) m'
refused_leads (refused why n) m m' e h = (why, n, refl, h.0, sym h.1)
refused_leads (given a) m m' e h = absurd h

went_leads : (x : Asked After) (m m' : Machine) → x ≡ quietly m' → Leads (outcome x) m (Ok next.Went) m'
went_leads x m m' e = (record { machine = m'; typed = []; news = no_news }, ap outcome e, refl, refl)

module _ (r : Registers) (i c : List ℕ) (whole : Interpreting) where
  abbrev taken : List ℕ → List Mark → Meaning → Taken
  taken t k s = record { machine = seen r i c t k s; bytes = word_in r.seat i }

  pub word_refused : (e : Fault) → KindIs r i (Err e) → Interprets r i c (Err e) r i c
  word_refused e h t k s =
      let m = seen r i c t k s in
      refused_leads (interpreted (taken t k s)) m m e
      (subst (λ (y : Asked After). IsRefused y e m) (sym (whole (taken t k s))) (refuses_on (classified (taken t k s)) (λ w. acted m.flow.compiling w m) e m (h c t k s)))

  module _ (w : Word) (h : KindIs r i (Ok w)) where
    meant_so : (t : List ℕ) (k : List Mark) (s : Meaning) → interpreted (taken t k s) ≡ acted r.seat.flow.compiling (meant w) (seen r i c t k s)
    meant_so t k s = let m = seen r i c t k s in whole (taken t k s) ∙ ap (λ (y : Asked Step.Word). y >>= λ w. acted m.flow.compiling w m) (h c t k s)

    abbrev Acts : (Machine → Asked After) → Type 0
    Acts f = (t : List ℕ) (k : List Mark) (s : Meaning) → interpreted (taken t k s) ≡ f (seen r i c t k s)

    pub pushes : (x : ℕ) → w ≡ Number x → r.seat.flow.compiling ≡ false → Acts (replaced 0 (x ∷ []))
    pushes x e b t k s = meant_so t k s ∙ ap (λ y. acted r.seat.flow.compiling (meant y) (seen r i c t k s)) e ∙ ap (λ y. acted y (Step.number x) (seen r i c t k s)) b

    pub compiles_token : (x : ℕ) (bs : List ℕ) → w ≡ Plain x → r.seat.flow.compiling ≡ true → bs ≡ cell x → Acts (in_space (length bs) (appended bs))
    compiles_token x bs e b p t k s =
        meant_so t k s ∙ ap (λ y. acted r.seat.flow.compiling (meant y) (seen r i c t k s)) e ∙ ap (λ y. acted y (Step.plain x) (seen r i c t k s)) b
        ∙ ap (λ y. appends y (seen r i c t k s)) (sym p)

    pub compiles_number : (x : ℕ) (bs : List ℕ) → w ≡ Number x → r.seat.flow.compiling ≡ true → bs ≡ literal_of x → Acts (in_space (length bs) (appended bs))
    compiles_number x bs e b p t k s =
        meant_so t k s ∙ ap (λ y. acted r.seat.flow.compiling (meant y) (seen r i c t k s)) e ∙ ap (λ y. acted y (Step.number x) (seen r i c t k s)) b
        ∙ ap (λ y. appends y (seen r i c t k s)) (sym p)

  -- what f does, a word does that acts so
  module _ (f : Machine → Asked After) (a : (t : List ℕ) (k : List Mark) (s : Meaning) → interpreted (taken t k s) ≡ f (seen r i c t k s)) (r' : Registers) (i' c' : List ℕ) where
    pub acts_refused : (e : Fault) → ((t : List ℕ) (k : List Mark) (s : Meaning) → Does f (seen r i c t k s) (Err e) (seen r' i' c' t k s)) → Interprets r i c (Err e) r' i' c'
    acts_refused e d t k s =
        let m = seen r i c t k s in
        let m' = seen r' i' c' t k s in
        refused_leads (interpreted (taken t k s)) m m' e
        (subst (λ (y : Asked After). IsRefused y e m') (sym (a t k s)) (subst (λ y. IsRefused (f m) e y) (sym (d t k s).1) (d t k s).0))

    pub acts_done : ((t : List ℕ) (k : List Mark) (s : Meaning) → Does f (seen r i c t k s) (Ok tt) (seen r' i' c' t k s)) → Interprets r i c (Ok next.Went) r' i' c'
    acts_done d t k s = went_leads (interpreted (taken t k s)) (seen r i c t k s) (seen r' i' c' t k s) (a t k s ∙ d t k s)
