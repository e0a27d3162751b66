use Rattle.std.proofs.Common.{◌≡◌, ℕ, ◌+◌, Bool, true, false, ◌&&◌, refl, ap, ◌∙◌, rules, tests}
use Rattle.std.specs.List.{list_all}
use Rattle.std.proofs.lemmas.Iterator.{YieldsList-from_slice}
use Rattle.std.proofs.lemmas.Iterator.Search.{all_from_yields_List}
use Rattle.image.specs.Cells.{cell_at}
use Rattle.dictionary.specs.Trim.{fell, lands, falls_at, threads}
use Rattle.trimming.proofs.heads.Falling.threads_fall.Goals as goal

and_true : (b : Bool) → (b && true) ≡ b
and_true true = refl
and_true false = refl

pub returns : goal.returns
unfolding threads falls_at
returns c =
    let test : ℕ → Bool = λ head. lands c.args.self.now.entries (fell c.args.self.now.entries c.args.self.now.w head) in
    let all = all_from_yields_List test _ _ c.all.result c.all.ensures.ran (YieldsList-from_slice c.heads-heads.result cc) (λ x b q k. search (rules, tests)) in
    let head : ℕ → ℕ = λ k. cell_at c.args.self.now.entries (c.args.vocabulary + k) in
    all ∙ ap (list_all test) c.heads-heads.ensures
    ∙ ap (λ b. test (cell_at c.args.self.now.entries c.args.vocabulary) && (test (head 2) && (test (head 4) && b))) (and_true (test (head 6)))
