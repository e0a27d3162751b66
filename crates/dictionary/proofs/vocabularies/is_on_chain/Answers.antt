use Rattle.std.proofs.Common.{◌||◌, eqb, ap, ◌∙◌, arith}
use Rattle.std.proofs.lemmas.Result.{err_from_is_err_and}
use Rattle.image.proofs.Laws.{length_low}
use Rattle.image.specs.Cells.{cell_at}
use Rattle.dictionary.specs.Lent.{dict_of}
use Rattle.dictionary.proofs.Links.{walking_start, walking_more, walking_end, walking_broken, link_parts, link_some, link_none, link_broken, asked_broken, asked_found}
use Rattle.dictionary.proofs.vocabularies.is_on_chain.Goals as goal

pub chain-init : goal.chain-init
chain-init c = (omega arith, walking_start (dict_of c.args.d.now c.args.image.now) c.args.d.now.ends.dp c.args.vocabulary (length_low c.args.d.now.ends.dp c.args.image.now (omega arith) (omega arith)))

pub returns-in_err-k : goal.returns-in_err-k
returns-in_err-k c =
    let b = link_broken c.args.told c.args.d.now.ends.dp c.chain.before c.chain.link c.in_err-k.field-0.0 c.in_err-k.ensures.answer in
    let p = err_from_is_err_and c.from_residual.result c.from_residual.ensures.1 in
    asked_broken c.args.vocabulary c.args.told (dict_of c.args.d.now c.args.image.now) _ p.0 c.in_err-k.field-0.0 (walking_broken _ _ _ _ _ _ _ _ c.chain.invariant.1 b.1 b.2) b.0 p.1 p.2

pub chain-preserved : goal.chain-preserved
chain-preserved c =
    let w = c.in_ok-k.was in
    let s = link_some c.args.told c.args.d.now.ends.dp c.chain.before c.chain.link c.in-Some.k (cc) in
    let p = link_parts c.args.d.now.ends.dp c.chain.before c.chain.link s.2 in
    (omega arith, walking_more _ _ _ _ c.chain.link c.in-Some.k _ _ _ _ _ c.chain.invariant.1 s.0 s.1 s.2 (ap (λ v. c.chain.found || eqb c.args.vocabulary v) c.vocabulary_of.ensures) (c.cell-link.ensures ∙ ap (λ s. cell_at s c.in-Some.k) c.entries-entries.ensures.bytes))

pub returns : goal.returns
returns c =
    let w = c.in_ok-k.was in
    let z = link_none c.args.told c.args.d.now.ends.dp c.chain.before c.chain.link (cc) in
    asked_found c.args.vocabulary c.args.told (dict_of c.args.d.now c.args.image.now) c.chain.found (walking_end _ _ _ _ _ _ _ _ c.chain.invariant.1 z)
