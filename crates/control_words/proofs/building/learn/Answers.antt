use Rattle.std.proofs.Common.{sym, subst}
use Rattle.control_words.specs.Structures.{Learns}
use Rattle.control_words.proofs.Built.{cell_learns}
use Rattle.control_words.proofs.building.learn.Goals as goal

pub returns-in-Some-clause-did : goal.returns-in-Some-clause-did
returns-in-Some-clause-did c =
    let d = c.dictionary_of.ensures in
    subst (λ y. Learns y c.args.registers.now c.args.image.now c.patch.new.image) (sym c.in-Some.is)
    (cell_learns c.args.registers.now c.dictionary_of.result c.args.image.now c.patch.new.image c.told-image (record { ends = d.ends; names = d.names; order = d.order }) c.in-Some.a c.patch.ensures.made c.patch.ensures.rest)
