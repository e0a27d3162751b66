use Rattle.std.proofs.Common.{◌+◌, ◌*◌, ◌%◌, ap, ◌∙◌, arith}
use Rattle.image.specs.Cells.{at, cell_at}
use Rattle.entries.specs.Entries.{spelled}
use Rattle.entries.proofs.Names.{length-spelled}
use Rattle.dictionary.specs.Lent.{dict_of}
use Rattle.dictionary.proofs.Beginning.{header_made}
use Rattle.dictionary.proofs.registers.Dictionary.put_header.Goals as goal

pub returns-clause-made : goal.returns-clause-made
returns-clause-made c =
    let l = c.cell-link.ensures ∙ ap (cell_at c.entries.result) c.head_of-head.ensures ∙ ap (λ t. cell_at c.entries.result (c.args.self.now.order.current + 2 * t)) c.thread_of.ensures
    ∙ ap (λ s. cell_at s (c.args.self.now.order.current + 2 * (at (spelled c.args.header.now.name.now) 0 % 4))) c.entries.ensures.bytes in
    let n = length-spelled c.args.header.now.name.now in
    header_made (dict_of c.args.self.now c.args.image.now) (dict_of c.put_cell.new.self c.put_cell.new.image) (dict_of c.put_cell-2.new.self c.put_cell-2.new.image)
    (dict_of c.put.new.self c.put.new.image) (dict_of c.put_name.new.self c.put_name.new.image) (dict_of c.put_cell-3.new.self c.put_cell-3.new.image)
    c.args.header.now.view c.args.header.now.flags (spelled c.args.header.now.name.now) c.args.header.now.code c.cell-link.result _
    c.put_cell.ensures.made c.put_cell-2.ensures.made c.put.ensures.made c.put_name.ensures.made c.put_cell-3.ensures.made l (omega (arith, n, c.count_byte.ensures))
