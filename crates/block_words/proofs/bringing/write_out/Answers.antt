use Rattle.std.proofs.Common.{◌≡◌, take, drop, refl, ◌∙◌, arith}
use Rattle.std.proofs.lemmas.List.{take-take}
use Rattle.std.proofs.lemmas.Result.{err_from_is_err_and}
use Rattle.block_words.proofs.Views.{wrote, write_refused}
use Rattle.block_words.proofs.bringing.write_out.Goals as goal

pub returns-in_err-write : goal.returns-in_err-write
returns-in_err-write g c =
    let p = err_from_is_err_and c.from_residual.result c.from_residual.ensures.1 in
    record {
      did = rw (p.1, p.2) (write_refused c.args.registers.now c.args.image.now (g.S.Store.means c.args.store.now) c.in-Some.n c.if-not-registers.false c.in-Some.is _ _ _ c.place.ensures c.in_err-write.ensures);
      seat = refl;
    }

pub returns : goal.returns
returns g c =
    let h = c.in_ok-write.ensures in
    let chunk = rw c.unwrap.ensures at c.first_chunk.ensures.cases in
    let same : c.unwrap.result.now ≡ take 1024 (drop 33024 c.args.image.now) = chunk.same ∙ take-take 1024 32512 (drop 33024 c.args.image.now) (omega arith) in
    record {
      did = wrote c.args.registers.now c.args.image.now (g.S.Store.means c.args.store.now) c.in-Some.n c.if-not-registers.false c.in-Some.is c.assign.new.registers c.fresh.result _ h.0 h.1 (rw (← same) h.2) c.fresh.ensures (record { shared = c.assign.ensures.shared; seat = c.assign.ensures.seat });
      seat = c.assign.ensures.seat;
    }
