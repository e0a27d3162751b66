use Rattle.std.proofs.Common.{refl}
use Rattle.dictionary.specs.Dict.{open_joined}
use Rattle.compiling_words.proofs.Changed.{put_view}
use Rattle.compiling_words.proofs.changes.join.Goals as goal

pub returns-clause-did : goal.returns-clause-did
returns-clause-did c =
    let d = c.dictionary_of-d.ensures in
    put_view open_joined (λ D. refl) c.args.registers.now c.dictionary_of-d.result c.args.image.now c.told-image (record { ends = d.ends; names = d.names; order = d.order }) c.keep.new.registers c.join_open.new.self c.join_open.new.image
    (record { shared = c.keep.ensures.shared; seat = c.keep.ensures.seat }) c.join_open.ensures.made c.join_open.ensures.rest
