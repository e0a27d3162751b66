use Rattle.std.proofs.Common.{◌≡◌, ℕ, Ok, Err, sym, ap, ◌∙◌, rules}
use Rattle.std.proofs.lemmas.Result.{err_from_is_err_and}
use Rattle.entries.specs.Entries.{forth}
use Rattle.entries.specs.Threads.{answered}
use Rattle.entries.specs.Search.{Found, search_in}
use Rattle.dictionary.specs.Search.{or_else, searched}
use Rattle.dictionary.specs.Lent.{dict_of}
use Rattle.dictionary.proofs.Orders.{else_broken, says_next, says_same, says_hit, or_else_assoc, both_missing, forth_missing, searched_in}
use Rattle.dictionary.proofs.registers.Dictionary.search.Goals as goal
use Rattle.dictionary.proofs.registers.Dictionary.search.Goals.{After-is_none-2, then-is_none+then-current-context+in_ok-found-2, else-is_none, else-is_none-via-then-is_none+else-current-context, else-is_none-via-else-is_none}
use Rattle.dictionary.proofs.registers.Dictionary.search.Goals.{else-is_none-2-via-then-is_none-2+else-not-has, else-is_none-2-via-else-is_none-2}

pub returns-in_err-found : goal.returns-in_err-found
unfolding searched
returns-in_err-found c = search rules

pub returns-in_err-found-2 : goal.returns-in_err-found-2
returns-in_err-found-2 c =
    let low = c.entries-entries.result in
    let D = dict_of c.args.self.now c.args.image.now in
    let p = err_from_is_err_and c.from_residual-in_err-found-2.result c.from_residual-in_err-found-2.ensures.1 in
    let f : ℕ → Found = λ v. search_in low v c.args.name.now in
    searched_in c.args.told D low c.args.name.now _ c.entries-entries.ensures.bytes
    (says_next c.args.told (f D.context) (or_else (f D.current) (λ _. f forth)) c.in_ok-found.found _ c.in_ok-found.ensures.found c.if-is_none.ensures
    (else_broken c.args.told (f D.current) (λ _. f forth) c.in_err-found-2.field-0.0 _ c.in_err-found-2.ensures.found (p.1 ∙ ap Err p.2)))

-- what is found after CURRENT
joined : (c : After-is_none-2)
    → Ok c.if-is_none.found ≡ answered c.args.told (or_else (search_in c.entries-entries.result c.args.self.now.order.context c.args.name.now) (λ _. search_in c.entries-entries.result c.args.self.now.order.current c.args.name.now))
joined c =
    let f : ℕ → Found = λ v. search_in c.entries-entries.result v c.args.name.now in
    let first = f c.args.self.now.order.context in
    let second = f c.args.self.now.order.current in
    elim c.if-is_none.branch [
      | then-is_none+then-current-context+in_ok-found-2 w ↦
          says_next c.args.told first second c.in_ok-found.found _ c.in_ok-found.ensures.found w.if-is_none.ensures (ap Ok w.found-is ∙ w.in_ok-found-2.ensures.found)
      | else-is_none w ↦ ap Ok w.found-is ∙ elim w.else-is_none.branch [
        | else-is_none-via-then-is_none+else-current-context x ↦ says_same c.args.told first second c.in_ok-found.found c.in_ok-found.ensures.found (λ m. ap f x.if-current-context.false ∙ m)
        | else-is_none-via-else-is_none x ↦ says_hit c.args.told first second c.in_ok-found.found c.in_ok-found.ensures.found x.if-is_none.ensures
      ]
    ]

pub returns-in_err-found-3 : goal.returns-in_err-found-3
returns-in_err-found-3 c =
    let low = c.entries-entries.result in
    let D = dict_of c.args.self.now c.args.image.now in
    let f : ℕ → Found = λ v. search_in low v c.args.name.now in
    let p = err_from_is_err_and c.from_residual-in_err-found-3.result c.from_residual-in_err-found-3.ensures.1 in
    searched_in c.args.told D low c.args.name.now _ c.entries-entries.ensures.bytes
    (says_next c.args.told (or_else (f D.context) (λ _. f D.current)) (f forth) c.if-is_none.found _ (joined (goal.at.returns-in_err-found-3 c).After-is_none-2) c.if-is_none-2.ensures (p.1 ∙ ap Err p.2 ∙ c.in_err-found-3.ensures.found)
    ∙ ap (answered c.args.told) (or_else_assoc (f D.context) (f D.current) (f forth)))

pub returns-in_ok-found-3 : goal.returns-in_ok-found-3
returns-in_ok-found-3 c =
    let low = c.entries-entries.result in
    let D = dict_of c.args.self.now c.args.image.now in
    let f : ℕ → Found = λ v. search_in low v c.args.name.now in
    searched_in c.args.told D low c.args.name.now _ c.entries-entries.ensures.bytes
    (says_next c.args.told (or_else (f D.context) (λ _. f D.current)) (f forth) c.if-is_none.found _ (joined (goal.at.returns-in_ok-found-3 c).After-is_none-2) c.if-is_none-2.ensures c.in_ok-found-3.ensures.found
    ∙ ap (answered c.args.told) (or_else_assoc (f D.context) (f D.current) (f forth)))

pub returns-else-is_none-2 : goal.returns-else-is_none-2
returns-else-is_none-2 c =
    let low = c.entries-entries.result in
    let D = dict_of c.args.self.now c.args.image.now in
    let f : ℕ → Found = λ v. search_in low v c.args.name.now in
    let j = joined (goal.at.returns-else-is_none-2 c).After-is_none-2 in
    let fg = or_else (f D.context) (λ _. f D.current) in
    let found : Ok c.if-is_none.found ≡ answered c.args.told (or_else fg (λ _. f forth)) = elim c.else-is_none-2.branch [
      | else-is_none-2-via-then-is_none-2+else-not-has w ↦
          let h = sym w.has.ensures ∙ w.if-not-has.false in
          says_same c.args.told fg (f forth) c.if-is_none.found j (λ m. forth_missing f D.context D.current h (both_missing (f D.context) (f D.current) m))
      | else-is_none-2-via-else-is_none-2 w ↦ says_hit c.args.told fg (f forth) c.if-is_none.found j w.if-is_none-2.ensures
    ] in
    searched_in c.args.told D low c.args.name.now _ c.entries-entries.ensures.bytes (found ∙ ap (answered c.args.told) (or_else_assoc (f D.context) (f D.current) (f forth)))
