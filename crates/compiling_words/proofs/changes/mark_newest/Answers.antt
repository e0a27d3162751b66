use Rattle.std.proofs.Common.{refl, sym, ap, ◌∙◌, arith}
use Rattle.dictionary.specs.declared.registers.Ends.{Ends}
use Rattle.dictionary.specs.declared.registers.Names.{Names}
use Rattle.dictionary.specs.Dict.{immediate_marked}
use Rattle.steps.proofs.Dictionary.{low_long}
use Rattle.compiling_words.proofs.Changed.{same_view, immediate_done, immediate_none}
use Rattle.compiling_words.proofs.changes.mark_newest.Goals as goal

pub mark_immediate-requires : goal.mark_immediate-requires
mark_immediate-requires c =
    let w = c.has_newest.ensures.whole c.if-has_newest.true in
    let l = low_long c.args.registers.now c.args.image.now c.told-image in
    let e = ap (λ (y : Ends). y.dp) c.dictionary_of.ensures.ends in
    let n = ap (λ (y : Names). y.newest) c.dictionary_of.ensures.names in
    (omega (arith, n, w.above), omega (arith, n, e, l, w.header))

pub returns-then-has_newest-clause-did : goal.returns-then-has_newest-clause-did
returns-then-has_newest-clause-did c =
    let d = c.dictionary_of.ensures in
    immediate_done c.args.registers.now c.args.image.now c.mark_immediate.new.image (λ x t k s. sym c.has_newest.ensures.value ∙ c.if-has_newest.true)
    (same_view immediate_marked (λ D. refl) c.args.registers.now c.dictionary_of.result c.args.image.now c.told-image (record { ends = d.ends; names = d.names; order = d.order }) c.mark_immediate.new.image c.mark_immediate.ensures.made c.mark_immediate.ensures.rest)

pub returns-else-has_newest-clause-did : goal.returns-else-has_newest-clause-did
returns-else-has_newest-clause-did c = immediate_none c.args.registers.now c.args.image.now (λ x t k s. sym c.has_newest.ensures.value ∙ c.if-has_newest.false)
