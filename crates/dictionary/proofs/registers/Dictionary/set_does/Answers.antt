use Rattle.std.proofs.Common.{ap, ◌∙◌, arith}
use Rattle.entries.proofs.Walks.{first_above}
use Rattle.entries.specs.Entries.{first_at}
use Rattle.image.specs.Views.{low_of}
use Rattle.dictionary.proofs.registers.Dictionary.set_does.Goals as goal

pub first_parameter-first-requires : goal.first_parameter-first-requires
first_parameter-first-requires c =
    let f = first_above (low_of c.args.self.now.ends.dp c.args.image.now) c.args.self.now.names.newest in
    let s = c.entries.ensures.size in
    (omega arith, (omega arith, omega arith))

pub patch-requires : goal.patch-requires
patch-requires c =
    let f = c.first_parameter-first.ensures.first ∙ ap (λ s. first_at s c.args.self.now.names.newest) c.entries.ensures.bytes in
    (omega arith, omega arith)

pub patch-requires-2 : goal.patch-requires-2
patch-requires-2 c =
    let f = c.first_parameter-first.ensures.first ∙ ap (λ s. first_at s c.args.self.now.names.newest) c.entries.ensures.bytes in
    (omega arith, omega arith)
