use Rattle.std.proofs.Common.{length, ap, ◌∙◌}
use Rattle.image.specs.Cells.{cell_at, set_cell}
use Rattle.dictionary.specs.Dict.{Dict}
use Rattle.dictionary.specs.Trim.{fall}
use Rattle.image.specs.Views.{low_of}
use Rattle.trimming.proofs.heads.lower.Goals as goal

pub returns-clause-bytes : goal.returns-clause-bytes
returns-clause-bytes c =
    let low = low_of c.args.d.now.ends.dp c.args.image.now in
    let h = c.cell.ensures ∙ ap (λ s. cell_at s c.args.a) c.new-falling.ensures.entries in
    let x = rw (c.new-falling.ensures.entries, c.new-falling.ensures.w) at c.fallen-x.ensures in
    ap (λ (D : Dict). D.low) c.patch.ensures.made ∙ ap (set_cell low c.args.a) (x ∙ ap (fall (length low) low c.args.w) h)
