use Rattle.std.proofs.Common.{◌≡◌, length, take, refl, ap, ◌∙◌, arith}
use Rattle.std.proofs.lemmas.Result.{err_from_is_err_and}
use Rattle.fault.specs.Numbers.{fault_of}
use Rattle.fault.specs.declared.Reason.TheVariants.{NoBlock}
use Rattle.block_words.proofs.Views.{read_refused, read_done, below_same, put_in, put_back}
use Rattle.block_words.proofs.bringing.read_in.Goals as goal

pub returns-in_err-read : goal.returns-in_err-read
returns-in_err-read g c =
    let p = err_from_is_err_and c.from_residual.result c.from_residual.ensures.1 in
    let h = c.in_err-read.ensures in
    let parts = c.split_at_mut-rest.ensures in
    let chunk = rw c.unwrap.ensures at c.first_chunk_mut.ensures.cases in
    let same = put_back 33024 1024 c.args.image.now _ c.split_at_mut-rest.result.1.now c.read.new.into (omega (arith, c.told-image)) parts.front parts.back (h.2 ∙ chunk.same) in
    record {
      did = rw (p.1, p.2) (read_refused c.args.registers.now c.args.image.now (g.S.Store.means c.args.store.now) c.args.n _ _ h.0 (h.1 ∙ ap (fault_of NoBlock) c.place-at.ensures) same);
      below = ap (take 256) same;
      seat = refl;
    }

pub returns : goal.returns
returns g c =
    let h = c.in_ok-read.ensures in
    let parts = c.split_at_mut-rest.ensures in
    let l : length c.read.new.into ≡ 1024 = ap length h.1 ∙ (g.S.Store.sound c.args.store.now).whole c.args.n h.0 in
    let e = put_in 33024 1024 c.args.image.now _ c.split_at_mut-rest.result.1.now c.read.new.into parts.front parts.back l in
    record {
      did = read_done c.args.registers.now c.args.image.now (g.S.Store.means c.args.store.now) c.args.n c.assign.new.registers c.fresh.result _ c.read.new.into c.told-image h.0 h.1 l e c.fresh.ensures (record { shared = c.assign.ensures.shared; seat = c.assign.ensures.seat });
      below = below_same c.args.registers.now c.args.image.now (g.S.Store.means c.args.store.now) c.args.n _ c.read.new.into c.told-image l e;
      seat = c.assign.ensures.seat;
    }
