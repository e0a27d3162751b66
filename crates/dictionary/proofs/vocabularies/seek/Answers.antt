use Rattle.std.proofs.Common.{◌≡◌, ◌+◌, false, ◌&&◌, nat_le, ap, ◌∙◌, sym, arith}
use Rattle.image.proofs.Laws.{length_low}
use Rattle.dictionary.specs.Kept.{kept_end}
use Rattle.dictionary.specs.Lent.{dict_of}
use Rattle.dictionary.specs.Trim.{on_chain}
use Rattle.dictionary.specs.Seeks.{stays}
use Rattle.dictionary.proofs.Links.{chain_says, seek_no, seek_yes, both}
use Rattle.dictionary.proofs.vocabularies.seek.Goals as goal
use Rattle.dictionary.proofs.vocabularies.seek.Goals.{then-not-branch-via-then-not-branch, then-not-branch-via-else-not-branch+then-not-stays}

pub returns-then-not-branch : goal.returns-then-not-branch
returns-then-not-branch c =
    let D = dict_of c.args.d.now c.args.image.now in
    let v = c.args.vocabulary in
    let l = length_low c.args.d.now.ends.dp c.args.image.now (omega arith) (omega arith) in
    let h = chain_says v c.args.told D _ c.in_ok-is_on_chain.ensures in
    let no : (on_chain v D && stays v D) ≡ false = elim c.then-not-branch.branch [
      | then-not-branch-via-then-not-branch w ↦ ap (λ b. b && stays v D) (h.1 ∙ w.if-not-branch.true)
      | then-not-branch-via-else-not-branch+then-not-stays w ↦
          let s = ap (λ n. nat_le 270 v && nat_le (v + 10) (kept_end n c.args.d.now.names.opened)) l ∙ sym w.stays.ensures in
          both v D _ _ h.1 w.if-not-branch.false (s ∙ w.if-not-stays.true)
    ] in
    seek_no v c.args.told D _ h.0 no c.new.ensures

pub returns : goal.returns
returns c =
    let D = dict_of c.args.d.now c.args.image.now in
    let v = c.args.vocabulary in
    let l = length_low c.args.d.now.ends.dp c.args.image.now (omega arith) (omega arith) in
    let h = chain_says v c.args.told D _ c.in_ok-is_on_chain.ensures in
    let s = ap (λ n. nat_le 270 v && nat_le (v + 10) (kept_end n c.args.d.now.names.opened)) l ∙ sym c.stays.ensures in
    let b = both v D _ _ h.1 c.if-not-branch.false (s ∙ c.if-not-stays.false) in
    seek_yes v c.args.told D _ h.0 b (c.seek.ensures c.args.image.now (omega arith))
