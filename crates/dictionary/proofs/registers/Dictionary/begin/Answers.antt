use Rattle.std.proofs.Common.{◌+◌, length, ◌∙◌, arith}
use Rattle.std.proofs.lemmas.Result.{err_from_is_err_and}
use Rattle.image.proofs.Laws.{length_low}
use Rattle.entries.specs.Entries.{spelled}
use Rattle.dictionary.specs.Lent.{dict_of}
use Rattle.dictionary.proofs.Growing.{refused, accepted, outside_none, outside_then}
use Rattle.dictionary.proofs.Beginning.{begun_made}
use Rattle.dictionary.proofs.registers.Dictionary.begin.Goals as goal

pub returns-in_err-room : goal.returns-in_err-room
returns-in_err-room c =
    let l = length_low c.args.self.now.ends.dp c.args.image.now (omega arith) (omega arith) in
    let p = err_from_is_err_and c.from_residual.result c.from_residual.ensures.1 in
    let h = c.in_err-room.ensures in
    record {
      did = refused (9 + length c.args.header.now.name.now + length c.args.rest.now) c.args.told c.args.self.now.ends.dp (dict_of c.args.self.now c.args.image.now) _ _ p.0 l p.1 (p.2 ∙ h.1) h.0;
      end = rw p.1 tt;
      rest = outside_none _;
    }

pub returns : goal.returns
returns c =
    let l = length_low c.args.self.now.ends.dp c.args.image.now (omega arith) (omega arith) in
    record {
      did = accepted (9 + length c.args.header.now.name.now + length c.args.rest.now) c.args.told c.args.self.now.ends.dp (dict_of c.args.self.now c.args.image.now) _ _ l c.in_ok-room.ensures
          (begun_made (dict_of c.args.self.now c.args.image.now) (dict_of c.put_header.new.self c.put_header.new.image) (dict_of c.put_cell.new.self c.put_cell.new.image) (dict_of c.put.new.self c.put.new.image)
          c.args.header.now.view c.args.header.now.flags (spelled c.args.header.now.name.now) c.args.header.now.code c.args.rest.now c.put_header.ensures.made c.put_cell.ensures.made c.put.ensures.made);
      end = omega (arith, c.put_header.ensures.dp, c.put_cell.ensures.dp, c.put.ensures.dp);
      rest = outside_then c.put_header.ensures.rest (outside_then c.put_cell.ensures.rest c.put.ensures.rest);
    }
