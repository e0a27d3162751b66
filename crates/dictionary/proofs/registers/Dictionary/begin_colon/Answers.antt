use Rattle.std.proofs.Common.{◌≡◌, ◌+◌, ◌≤◌, length, sym, refl, ap, subst, arith}
use Rattle.std.proofs.lemmas.Result.{err_from_is_err_and}
use Rattle.image.proofs.Laws.{length_low}
use Rattle.entries.specs.Entries.{spelled}
use Rattle.dictionary.specs.Lent.{dict_of}
use Rattle.dictionary.proofs.Growing.{accepted}
use Rattle.dictionary.proofs.Beginning.{room_ok, still_refused, colon_made, kept_open}
use Rattle.dictionary.proofs.registers.Dictionary.begin_colon.Goals as goal

pub returns-in_err-begin : goal.returns-in_err-begin
returns-in_err-begin c =
    let p = err_from_is_err_and c.from_residual.result c.from_residual.ensures.1 in
    record {
      did = still_refused (9 + length c.args.name.now + 0) (9 + length c.args.name.now) c.args.told (dict_of c.args.self.now c.args.image.now) _ _ (dict_of c.begin.new.self c.begin.new.image) _ p.0 c.in_err-begin.field-0.0 (omega arith) c.in_err-begin.ensures.did p.1 p.2;
      rest = c.begin.ensures.rest;
    }

pub invariant_of-self : goal.invariant_of-self
invariant_of-self c =
    let e = c.in_ok-begin.ensures.end in
    let D = dict_of c.args.self.now c.args.image.now in
    let k = kept_open c.begin.new.self.ends.dp c.args.self.now.ends.dp _ c.next_entry-e.ensures in
    let g = room_ok (9 + length c.args.name.now + 0) c.args.told D _ (dict_of c.begin.new.self c.begin.new.image) c.in_ok-begin.ensures.did in
    let u : c.begin.new.self.order.current ≡ c.args.self.now.order.current = ap (λ d. d.current) g.0 in
    record {
      dp_low = omega arith;
      dp_high = omega arith;
      here_low = omega arith;
      context_low = omega arith;
      context_high = omega arith;
      current_low = omega arith;
      current_high = omega arith;
      opened_high = omega arith;
      dp_kept = subst (λ n. 280 ≤ n) (sym k) (omega arith);
      context_kept = subst (λ n. c.begin.new.self.order.current + 10 ≤ n) (sym k) (omega arith);
      current_kept = subst (λ n. c.begin.new.self.order.current + 10 ≤ n) (sym k) (omega arith);
    }

pub returns : goal.returns
returns c =
    let l = length_low c.args.self.now.ends.dp c.args.image.now (omega arith) (omega arith) in
    let D = dict_of c.args.self.now c.args.image.now in
    let g = room_ok (9 + length c.args.name.now + 0) c.args.told D _ (dict_of c.begin.new.self c.begin.new.image) c.in_ok-begin.ensures.did in
    record {
      did = accepted (9 + length c.args.name.now) c.args.told (length D.low) D _ _ refl (omega arith)
          (colon_made D (dict_of c.begin.new.self c.begin.new.image) c.args.view (spelled c.args.name.now) _ g.0 (omega arith));
      rest = c.begin.ensures.rest;
    }
