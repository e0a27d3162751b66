-- Entries made, by what the dictionary's calls promise.
use Rattle.std.proofs.Common.{◌≡◌, ℕ, ◌+◌, List, length, Result, subst, arith}
use Rattle.fault.specs.declared.Fault.{Fault}
use Rattle.fault.specs.declared.Place.{Place}
use Rattle.image.specs.Cells.{cell}
use Rattle.entries.specs.Entries.{spelled}
use Rattle.dictionary.specs.Dict.{Dict, defined, colon_begun, vocabulary_defined}
use Rattle.dictionary.specs.Lent.{Did, with_room}
use Rattle.definition.specs.Define.{entry_size}
use Rattle.defining_words.specs.declared.making.Made.{Made}
use Rattle.defining_words.specs.Made.{code_of, value_of}

module _ (told : Place) (D E : Dict) (o : Result (Unit {0}) Fault) (now view : ℕ) (e : now ≡ view) (w v : List ℕ) (p : w ≡ v) where
  pub entry_made : (m : Made) (code : ℕ) (rest : List ℕ) → code ≡ code_of m → rest ≡ cell (value_of m) → Did (with_room (9 + length w + length rest) told D (defined now 0 (spelled w) code rest D)) D o E → Did (with_room (entry_size v + 2) told D (defined view 0 (spelled v) (code_of m) (cell (value_of m)) D)) D o E
  unfolding cell
  entry_made m code rest c q h =
      let P : List ℕ → Type 0 = λ y. Did (with_room (9 + length y + length rest) told D (defined now 0 (spelled y) code rest D)) D o E in
      let Q : List ℕ → Type 0 = λ y. Did (with_room (9 + length v + length y) told D (defined now 0 (spelled v) code y D)) D o E in
      let R : ℕ → Type 0 = λ y. Did (with_room (entry_size v + 2) told D (defined y 0 (spelled v) code (cell (value_of m)) D)) D o E in
      let C : ℕ → Type 0 = λ y. Did (with_room (entry_size v + 2) told D (defined view 0 (spelled v) y (cell (value_of m)) D)) D o E in
      subst C c (subst R e (subst Q q (subst P p h)))

  pub vocabulary_made : Did (with_room (19 + length w) told D (vocabulary_defined now (spelled w) D)) D o E → Did (with_room (entry_size v + 10) told D (vocabulary_defined view (spelled v) D)) D o E
  vocabulary_made h =
      let P : List ℕ → Type 0 = λ y. Did (with_room (19 + length y) told D (vocabulary_defined now (spelled y) D)) D o E in
      let Q : ℕ → Type 0 = λ y. Did (with_room y told D (vocabulary_defined now (spelled v) D)) D o E in
      let R : ℕ → Type 0 = λ y. Did (with_room (entry_size v + 10) told D (vocabulary_defined y (spelled v) D)) D o E in
      let n : 19 + length v ≡ entry_size v + 10 = omega arith in
      subst R e (subst Q n (subst P p h))

  pub colon_made : Did (with_room (9 + length w) told D (colon_begun now (spelled w) D)) D o E → Did (with_room (entry_size v) told D (colon_begun view (spelled v) D)) D o E
  colon_made h =
      let P : List ℕ → Type 0 = λ y. Did (with_room (9 + length y) told D (colon_begun now (spelled y) D)) D o E in
      let R : ℕ → Type 0 = λ y. Did (with_room (entry_size v) told D (colon_begun y (spelled v) D)) D o E in
      subst R e (subst P p h)
