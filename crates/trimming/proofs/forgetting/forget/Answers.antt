use Rattle.std.proofs.Common.{ap, ◌∙◌, arith}
use Rattle.image.proofs.Laws.{length_low}
use Rattle.image.specs.Views.{low_of}
use Rattle.entries.specs.Entries.{first_at}
use Rattle.dictionary.specs.Lent.{dict_of}
use Rattle.trimming.proofs.TrimLaws.{facts, trim_makes, still, kept_now, cut_to, shut_end}
use Rattle.trimming.proofs.forgetting.forget.Goals as goal

pub ends_before-ends-requires : goal.ends_before-ends-requires
unfolding first_at
ends_before-ends-requires c = let t = facts c.args.d.now c.args.image.now c.args.w (omega arith) c.requires.0 in (omega (arith, t.current), omega (arith, t.whole))

pub first_kept-first-requires : goal.first_kept-first-requires
first_kept-first-requires c = let t = facts c.args.d.now c.args.image.now c.args.w (omega arith) c.requires.0 in
    rw (c.new.ensures.size, c.new.ensures.entries, c.new.ensures.w) (omega (arith, t.whole), t.chain)

pub lower_vocabularies-newest-requires : goal.lower_vocabularies-newest-requires
lower_vocabularies-newest-requires c =
    let t = facts c.args.d.now c.args.image.now c.args.w (omega arith) c.requires.0 in
    let k = rw (c.new.ensures.size, c.new.ensures.entries, c.new.ensures.w) at c.first_kept-first.ensures.kept in
    (omega (arith, t.whole), (omega (arith, t.current), kept_now _ _ _ _ _ k))

pub invariant_of-d : goal.invariant_of-d
invariant_of-d c =
    let t = facts c.args.d.now c.args.image.now c.args.w (omega arith) c.requires.0 in
    let s = still c.args.w c.args.d.now.order.context c.context_below-d.result c.context_below-d.ensures (omega (arith, t.current)) (omega arith) t.context in
    let dp = c.ends_before-ends.ensures.dp in
    let here = c.ends_before-ends.ensures.here in
    let whole = shut_end c.ends_before-ends.result.dp c.trim_names.new.names.opened c.trim_names.ensures.shut in
    record {
      dp_low = omega (arith, t.current);
      dp_high = omega (arith, t.whole);
      here_low = omega (arith, c.requires.1);
      context_low = s.0;
      context_high = omega (arith, s.1);
      current_low = omega arith;
      current_high = omega (arith, t.current);
      opened_high = omega (arith, t.current);
      dp_kept = omega (arith, whole, dp, t.current);
      context_kept = omega (arith, whole, dp, s.1);
      current_kept = omega (arith, whole, dp, t.current);
    }

pub returns-clause-trimmed : goal.returns-clause-trimmed
returns-clause-trimmed c =
    let t = facts c.args.d.now c.args.image.now c.args.w (omega arith) c.requires.0 in
    let kept = rw (c.new.ensures.size, c.new.ensures.entries, c.new.ensures.w) at c.first_kept-first.ensures.kept in
    let link = rw (c.new.ensures.size, c.new.ensures.entries, c.new.ensures.w) at c.first_kept-first.ensures.link in
    let cut = cut_to _ c.args.d.now.ends.dp _ _ (omega (arith, t.current)) (omega (arith, t.whole)) (omega arith) c.lower_vocabularies-newest.ensures.bytes in
    trim_makes c.args.w c.args.d.now.ends.dp (dict_of c.args.d.now c.args.image.now) _ _ _ _ _ _ _
    (length_low c.args.d.now.ends.dp c.args.image.now (omega arith) (omega arith)) kept
    (ap (λ n. low_of n c.lower_vocabularies-newest.new.image) c.ends_before-ends.ensures.dp ∙ cut)
    c.ends_before-ends.ensures.here link c.trim_names.ensures.voclink (c.trim_names.ensures.newest ∙ c.lower_vocabularies-newest.ensures.newest)
    c.context_below-d.ensures c.trim_names.ensures.shut
