use Rattle.std.proofs.Common.{◌+◌, length, Ok, Err, refl, arith}
use Rattle.std.proofs.lemmas.Result.{err_from_is_err_and}
use Rattle.image.proofs.Laws.{length_low}
use Rattle.image.specs.Cells.{cell}
use Rattle.entries.specs.Entries.{spelled}
use Rattle.dictionary.specs.Lent.{dict_of}
use Rattle.dictionary.proofs.Growing.{accepted}
use Rattle.dictionary.proofs.Beginning.{heads_put, room_ok, still_refused, vocabulary_made}
use Rattle.dictionary.proofs.registers.Dictionary.define_vocabulary.Goals as goal

pub returns-in_err-define : goal.returns-in_err-define
returns-in_err-define c =
    let p = err_from_is_err_and c.from_residual.result c.from_residual.ensures.1 in
    record {
      did = still_refused (9 + length c.args.name.now + 10) (19 + length c.args.name.now) c.args.told (dict_of c.args.self.now c.args.image.now) _ _ (dict_of c.define.new.self c.define.new.image) _ p.0 c.in_err-define.field-0.0 (omega arith)
          (heads_put (length c.args.name.now) c.args.told (dict_of c.args.self.now c.args.image.now) (dict_of c.define.new.self c.define.new.image) c.args.view (spelled c.args.name.now) _ (Err c.in_err-define.field-0.0) c.store.ensures.after c.in_err-define.ensures.did) p.1 p.2;
      rest = c.define.ensures.rest;
    }

pub returns : goal.returns
unfolding cell
returns c =
    let l = length_low c.define.new.self.ends.dp c.define.new.image (omega arith) (omega arith) in
    let D = dict_of c.args.self.now c.args.image.now in
    let E = dict_of c.define.new.self c.define.new.image in
    let g = room_ok (9 + length c.args.name.now + 10) c.args.told D _ E
    (heads_put (length c.args.name.now) c.args.told D E c.args.view (spelled c.args.name.now) _ (Ok tt) c.store.ensures.after c.in_ok-define.ensures.did) in
    record {
      did = accepted (19 + length c.args.name.now) c.args.told (length D.low) D _ _ refl (omega arith)
          (vocabulary_made D E c.args.view (spelled c.args.name.now) c.define.new.self.ends.dp _ g.0 l c.last_cell-self.ensures);
      rest = c.define.ensures.rest;
    }
