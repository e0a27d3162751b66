-- The structure of each word is what the definition builds.
use Rattle.std.proofs.Common.{◌≡◌, ℕ, ◌+◌, ◌%◌, ◌≤◌, Bool, true, false, ◌&&◌, leb, [], ◌∷◌, ◌++◌, Some, None, refl, ap, ◌∙◌, arith}
use Rattle.std.proofs.lemmas.Bool.{leb-true, and_parts}
use Rattle.image.specs.Cells.{cell}
use Rattle.steps.specs.declared.tokens.CompiledWord.TheVariants.{Branch, BranchIfZero, Do, Loop, PlusLoop}
use Rattle.definition.specs.declared.registers.Kind.TheVariants as kinds
use Rattle.definition.specs.Machine.{Machine, dp}
use Rattle.definition.specs.Words.{perform}
use Rattle.definition.specs.Compile.{token, mark, mark_at, are_cells, structured}
use Rattle.control_words.specs.declared.words.ControlWord.{ControlWord}
use Rattle.control_words.specs.declared.structures.Takes.{Takes}
use Rattle.control_words.specs.declared.structures.Leaves.{Leaves}
use Rattle.control_words.specs.Structures.{IsFor}

module _ (d top under : ℕ) where
  pub for_if : IsFor ControlWord.If d top under (record { takes = Takes.Nothing; appends = Some (record { word = BranchIfZero; cell = 0 }); learns = None; leaves = Leaves.One (mark kinds.If (d + 2)) })
  unfolding perform
  for_if again a m p q r = ap (λ y. structured [] (token 100 ++ cell 0) [] (mark kinds.If (y + 2) ∷ []) m) p

  pub for_else : IsFor ControlWord.Else d top under (record { takes = Takes.One kinds.If; appends = Some (record { word = Branch; cell = 0 }); learns = Some top; leaves = Leaves.One (mark kinds.If (d + 2)) })
  unfolding perform
  for_else again a m p q r =
      ap (λ y. structured (kinds.If ∷ []) (token 99 ++ cell 0) (mark_at 0 m ∷ []) (mark kinds.If (y + 2) ∷ []) m) p
      ∙ ap (λ y. structured (kinds.If ∷ []) (token 99 ++ cell 0) (y ∷ []) (mark kinds.If (d + 2) ∷ []) m) q

  pub for_then : IsFor ControlWord.Then d top under (record { takes = Takes.One kinds.If; appends = None; learns = Some top; leaves = Leaves.Nothing })
  unfolding perform
  for_then again a m p q r = ap (λ y. structured (kinds.If ∷ []) [] (y ∷ []) [] m) q

  pub for_begin : IsFor ControlWord.Begin d top under (record { takes = Takes.Nothing; appends = None; learns = None; leaves = Leaves.One (mark kinds.Begin d) })
  unfolding perform
  for_begin again a m p q r = ap (λ y. structured [] [] [] (mark kinds.Begin y ∷ []) m) p

  pub for_while : IsFor ControlWord.While d top under (record { takes = Takes.One kinds.Begin; appends = Some (record { word = BranchIfZero; cell = 0 }); learns = None; leaves = Leaves.Two (mark kinds.While (d + 2)) (mark kinds.Begin top) })
  unfolding perform
  for_while again a m p q r =
      ap (λ y. structured (kinds.Begin ∷ []) (token 100 ++ cell 0) [] (mark kinds.While (y + 2) ∷ mark kinds.Begin (mark_at 0 m) ∷ []) m) p
      ∙ ap (λ y. structured (kinds.Begin ∷ []) (token 100 ++ cell 0) [] (mark kinds.While (d + 2) ∷ mark kinds.Begin y ∷ []) m) q

  pub for_repeat : IsFor ControlWord.Repeat d top under (record { takes = Takes.Two kinds.While kinds.Begin; appends = Some (record { word = Branch; cell = under }); learns = Some top; leaves = Leaves.Nothing })
  unfolding perform
  for_repeat again a m p q r =
      ap (λ y. structured (kinds.While ∷ kinds.Begin ∷ []) (token 99 ++ cell (mark_at 1 m)) (y ∷ []) [] m) q
      ∙ ap (λ y. structured (kinds.While ∷ kinds.Begin ∷ []) (token 99 ++ cell y) (top ∷ []) [] m) r

  pub for_until : IsFor ControlWord.Until d top under (record { takes = Takes.One kinds.Begin; appends = Some (record { word = BranchIfZero; cell = top }); learns = None; leaves = Leaves.Nothing })
  unfolding perform
  for_until again a m p q r = ap (λ y. structured (kinds.Begin ∷ []) (token 100 ++ cell y) [] [] m) q

  pub for_do : IsFor ControlWord.Do d top under (record { takes = Takes.Nothing; appends = Some (record { word = Do; cell = 0 }); learns = None; leaves = Leaves.One (mark kinds.Do (d + 2)) })
  unfolding perform
  for_do again a m p q r = ap (λ y. structured [] (token 101 ++ cell 0) [] (mark kinds.Do (y + 2) ∷ []) m) p

-- a sum that is no cell's address is refused before it is used
wrapped : (n top : ℕ) (m : Machine) → dp m ≤ 32768 → structured (kinds.Do ∷ []) (token n ++ cell (top + 2)) (top ∷ []) [] m ≡ structured (kinds.Do ∷ []) (token n ++ cell ((top + 2) % 65536)) (top ∷ []) [] m
wrapped n top m l = go (are_cells (top ∷ []) m) refl
  where
    go : (b : Bool) → are_cells (top ∷ []) m ≡ b → structured (kinds.Do ∷ []) (token n ++ cell (top + 2)) (top ∷ []) [] m ≡ structured (kinds.Do ∷ []) (token n ++ cell ((top + 2) % 65536)) (top ∷ []) [] m
    go true h =
        let b = (and_parts (leb 256 top) (leb (top + 2) (dp m)) (and_parts (leb 256 top && leb (top + 2) (dp m)) true h).0).1 in
        ap (λ y. structured (kinds.Do ∷ []) (token n ++ cell y) (top ∷ []) [] m) (omega (arith, l, leb-true (top + 2) (dp m) b))
    go false h = rw h refl

module _ (d top under : ℕ) (l : d ≤ 32768) where
  pub for_loop : IsFor ControlWord.Loop d top under (record { takes = Takes.One kinds.Do; appends = Some (record { word = Loop; cell = (top + 2) % 65536 }); learns = Some top; leaves = Leaves.Nothing })
  unfolding perform
  for_loop again a m p q r = ap (λ y. structured (kinds.Do ∷ []) (token 102 ++ cell (y + 2)) (y ∷ []) [] m) q ∙ wrapped 102 top m (omega (arith, l, p))

  pub for_plus_loop : IsFor ControlWord.PlusLoop d top under (record { takes = Takes.One kinds.Do; appends = Some (record { word = PlusLoop; cell = (top + 2) % 65536 }); learns = Some top; leaves = Leaves.Nothing })
  unfolding perform
  for_plus_loop again a m p q r = ap (λ y. structured (kinds.Do ∷ []) (token 103 ++ cell (y + 2)) (y ∷ []) [] m) q ∙ wrapped 103 top m (omega (arith, l, p))
