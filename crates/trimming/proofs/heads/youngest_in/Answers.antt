use Rattle.std.proofs.Common.{◌≡◌, ◌+◌, get_or, ap, arith}
use Rattle.image.specs.Cells.{cell_at}
use Rattle.dictionary.specs.Trim.{youngest_in}
use Rattle.trimming.proofs.heads.youngest_in.Goals as goal

pub returns : goal.returns
unfolding youngest_in
returns c =
    let first = ap (λ s. get_or s 0 0) c.heads.ensures in
    let second = ap (λ s. get_or s 1 0) c.heads.ensures in
    let third = ap (λ s. get_or s 2 0) c.heads.ensures in
    let fourth = ap (λ s. get_or s 3 0) c.heads.ensures in
    let z : c.args.vocabulary ≡ c.args.vocabulary + 0 = omega arith in
    let at_zero = ap (cell_at c.args.entries.now) z in
    omega (arith, first, second, third, fourth, at_zero, c.max.ensures, c.max-2.ensures, c.max-3.ensures)
