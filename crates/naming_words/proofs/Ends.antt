-- The ends of the words.
use Rattle.std.proofs.Common.{◌≡◌, ℕ, List, [], ◌∷◌, ◌++◌, length, Ok, Err, Result, refl, ap, ◌∙◌, subst}
use Rattle.fault.specs.declared.Fault.{Fault}
use Rattle.store.specs.Meaning.{Meaning}
use Rattle.image.specs.Cells.{cell}
use Rattle.image.specs.Views.{low_of}
use Rattle.entries.specs.Entries.{token_of}
use Rattle.dictionary.specs.Dict.{appended}
use Rattle.definition.specs.declared.registers.Mark.{Mark}
use Rattle.definition.specs.declared.ranged.Registers.{Registers}
use Rattle.definition.specs.Asked.{Asked, given, ◌>>=◌, quietly}
use Rattle.definition.specs.Kernel
use Rattle.definition.specs.Kernel.{Takes}
use Rattle.definition.specs.Stacks.{replaced}
use Rattle.definition.specs.Text.{Taken, take_to}
use Rattle.definition.specs.Compile.{appends, literal_of, token}
use Rattle.definition.specs.Words.{argument, taken, perform}
use Rattle.steps.specs.Does.{seen, Does, Did, FromText}
use Rattle.texts.specs.Strings.{between, TookTo}
use Rattle.steps.specs.Asking.{Took, NotTaken, StateAnswers}
use Rattle.steps.proofs.Words.{refuses_on, did_by, acted}
use Rattle.steps.specs.Spaces.{InSpace}

-- a text up to a byte
module _ (r r' : Registers) (i : List ℕ) where
  pub no_paren : (e : Fault) → TookTo 41 1024 r i (Err e) r' → NotTaken Kernel.to_paren r i e r'
  unfolding taken
  no_paren e h = λ c t k s. refuses_on (take_to 41 1024 (seen r i c t k s)) (λ x. given (argument x 0)) e (seen r' i c t k s) (h c t k s)

  pub paren : (p : ℕ × ℕ) → TookTo 41 1024 r i (Ok p) r' → Took Kernel.to_paren r i (between p.0 p.1 i) 0 r'
  unfolding taken
  paren p h = λ c t k s. ap (λ (x : Asked Taken). x >>= λ y. given (argument y 0)) (h.3 c t k s)

  pub no_quote : (e : Fault) → TookTo 34 255 r i (Err e) r' → NotTaken Kernel.to_quote r i e r'
  unfolding taken
  no_quote e h = λ c t k s. refuses_on (take_to 34 255 (seen r i c t k s)) (λ x. given (argument x 0)) e (seen r' i c t k s) (h c t k s)

  pub quote : (p : ℕ × ℕ) → TookTo 34 255 r i (Ok p) r' → Took Kernel.to_quote r i (between p.0 p.1 i) 0 r'
  unfolding taken
  quote p h = λ c t k s. ap (λ (x : Asked Taken). x >>= λ y. given (argument y 0)) (h.3 c t k s)

  pub commented : (p : ℕ × ℕ) → TookTo 41 1024 r i (Ok p) r' → (c : List ℕ) → FromText 62 r i c (Ok tt) r' i c
  unfolding perform
  commented p h c = acted 62 r i c r' (between p.0 p.1 i) 0 (paren p h) (Ok tt) r' i c (λ j d t k s. refl) (λ again t k s. did_by quietly (seen r' i c t k s) (seen r' i c t k s) (Ok tt) refl)

-- bytes appended
appended_by : (b b' : List ℕ) (r r' : Registers) (i i' : List ℕ) (o : Result (Unit {0}) Fault) → b ≡ b' → InSpace (length b) (appended b) r i o r' i' → (c t : List ℕ) (k : List Mark) (s : Meaning) → Did (appends b' (seen r i c t k s)) o (seen r' i' c t k s)
appended_by b b' r r' i i' o p h c t k s =
    let P : List ℕ → Type 0 = λ y. InSpace (length y) (appended y) r i o r' i' in
    did_by (appends b') (seen r i c t k s) (seen r' i' c t k s) o (subst P p h c t k s)

module _ (r r1 : Registers) (i bs : List ℕ) (x : ℕ) (h : Took Kernel.a_word r i bs x r1) (n : ℕ) (p : n ≡ token_of (low_of r1.shared.ends.dp i) x) (o : Result (Unit {0}) Fault) (r2 : Registers) where
  pub ticked : (c c' : List ℕ) → ((j t : List ℕ) (k : List Mark) (s : Meaning) → Does (replaced 0 (n ∷ [])) (seen r1 j c t k s) o (seen r2 j c' t k s)) → FromText 60 r i c o r2 i c'
  unfolding perform
  ticked c c' d =
      let P : ℕ → Type 0 = λ y. (j t : List ℕ) (k : List Mark) (s : Meaning) → Does (replaced 0 (y ∷ [])) (seen r1 j c t k s) o (seen r2 j c' t k s) in
      acted 60 r i c r1 bs x h o r2 i c' (λ j e t k s. refl) (λ again t k s. did_by (replaced 0 (token_of (low_of r1.shared.ends.dp i) x ∷ [])) (seen r1 i c t k s) (seen r2 i c' t k s) o (subst P p d i t k s))

  module _ (a : StateAnswers (Kernel.has_open ∷ []) r1 (Ok tt)) (b : List ℕ) (i' : List ℕ) (d : InSpace (length b) (appended b) r1 i o r2 i') where
    pub literal_done : b ≡ literal_of n → (c : List ℕ) → FromText 76 r i c o r2 i' c
    unfolding perform
    literal_done q c = acted 76 r i c r1 bs x h o r2 i' c a (λ again. appended_by b (literal_of (token_of (low_of r1.shared.ends.dp i) x)) r1 r2 i i' o (q ∙ ap literal_of p) d c)

    pub compiled_done : b ≡ cell n → (c : List ℕ) → FromText 77 r i c o r2 i' c
    unfolding perform
    compiled_done q c = acted 77 r i c r1 bs x h o r2 i' c a (λ again. appended_by b (cell (token_of (low_of r1.shared.ends.dp i) x)) r1 r2 i i' o (q ∙ ap cell p) d c)

pub quoted_done : (r r1 r2 : Registers) (i i' text b : List ℕ) (o : Result (Unit {0}) Fault) → Took Kernel.to_quote r i text 0 r1 → StateAnswers (Kernel.has_open ∷ []) r1 (Ok tt) → b ≡ token 105 ++ (length text ∷ text) → InSpace (length b) (appended b) r1 i o r2 i' → (c : List ℕ) → FromText 90 r i c o r2 i' c
unfolding perform
quoted_done r r1 r2 i i' text b o h a q d c = acted 90 r i c r1 text 0 h o r2 i' c a (λ again. appended_by b (token 105 ++ (length text ∷ text)) r1 r2 i i' o q d c)
