use Rattle.std.proofs.Common.{refl}
use Rattle.dictionary.specs.Dict.{with_current}
use Rattle.compiling_words.proofs.Changed.{put_view, definitions_done}
use Rattle.compiling_words.proofs.changes.choose_current.Goals as goal

pub returns : goal.returns
returns c =
    let d = c.dictionary_of-d.ensures in
    λ i x t l. definitions_done c.args.registers.now c.keep.new.registers i x t
    (put_view (λ D. with_current D.context D) (λ D. refl) c.args.registers.now c.dictionary_of-d.result i l (record { ends = d.ends; names = d.names; order = d.order }) c.keep.new.registers c.definitions.new.self i
    (record { shared = c.keep.ensures.shared; seat = c.keep.ensures.seat }) (c.definitions.ensures i l) (record { below = refl; above = refl }) x t)
