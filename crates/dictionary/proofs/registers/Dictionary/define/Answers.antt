use Rattle.std.proofs.Common.{◌+◌, length, refl, arith}
use Rattle.std.proofs.lemmas.Result.{err_from_is_err_and}
use Rattle.image.proofs.Laws.{length_low}
use Rattle.entries.specs.Entries.{spelled}
use Rattle.dictionary.specs.Lent.{dict_of}
use Rattle.dictionary.proofs.Growing.{accepted, outside_then}
use Rattle.dictionary.proofs.Beginning.{room_ok, still_refused, defined_made}
use Rattle.dictionary.proofs.registers.Dictionary.define.Goals as goal

pub returns-in_err-begin : goal.returns-in_err-begin
returns-in_err-begin c =
    let p = err_from_is_err_and c.from_residual.result c.from_residual.ensures.1 in
    let n = 9 + length c.args.header.now.name.now + length c.args.rest.now in
    record {
      did = still_refused n n c.args.told (dict_of c.args.self.now c.args.image.now) _ _ (dict_of c.begin.new.self c.begin.new.image) _ p.0 c.in_err-begin.field-0.0 refl c.in_err-begin.ensures.did p.1 p.2;
      end = rw p.1 tt;
      rest = c.begin.ensures.rest;
    }

pub returns : goal.returns
returns c =
    let l = length_low c.args.self.now.ends.dp c.args.image.now (omega arith) (omega arith) in
    let D = dict_of c.args.self.now c.args.image.now in
    let g = room_ok (9 + length c.args.header.now.name.now + length c.args.rest.now) c.args.told D _ (dict_of c.begin.new.self c.begin.new.image) c.in_ok-begin.ensures.did in
    record {
      did = accepted (9 + length c.args.header.now.name.now + length c.args.rest.now) c.args.told (length D.low) D _ _ refl g.1
          (defined_made D (dict_of c.begin.new.self c.begin.new.image) _ c.args.header.now.view c.args.header.now.flags (spelled c.args.header.now.name.now) c.args.header.now.code c.args.rest.now _ _ g.0 c.join.ensures.made c.thread_of.ensures (omega arith));
      end = omega (arith, c.in_ok-begin.ensures.end, c.join.ensures.dp);
      rest = outside_then c.begin.ensures.rest c.join.ensures.rest;
    }
