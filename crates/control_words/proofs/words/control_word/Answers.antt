use Rattle.std.proofs.Common.{sym}
use Rattle.definition.specs.Compile.{structured}
use Rattle.steps.specs.Does.{seen, acts}
use Rattle.steps.proofs.Exits.{does_like}
use Rattle.steps.proofs.Dictionary.{low_long}
use Rattle.control_words.specs.Numbers.{control_number}
use Rattle.control_words.specs.Structures.{kinds_of, bytes_of, cells_of, marks_of}
use Rattle.control_words.proofs.words.control_word.Goals as goal

pub returns-clause-did : goal.returns-clause-did
returns-clause-did c = λ again a x t s.
    let m = seen c.args.registers.now c.args.image.now x t c.args.marks.now s in
    let y = c.structure_of-structure.result in
    does_like (acts (control_number c.args.word) again a) (structured (kinds_of y.takes) (bytes_of y.appends) (cells_of y.learns) (marks_of y.leaves)) m (seen c.build.new.registers c.build.new.image x t c.build.new.marks s) c.build.result
    (c.structure_of-structure.ensures again a m (low_long c.args.registers.now c.args.image.now c.told-image) (sym c.mark_address-top.ensures) (sym c.mark_address-under.ensures))
    (c.build.ensures.did x t s)
