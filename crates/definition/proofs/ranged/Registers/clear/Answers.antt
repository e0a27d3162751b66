use Rattle.std.proofs.Common.{arith}
use Rattle.definition.proofs.Faults.{fault_in_run}
use Rattle.definition.proofs.Keeping.{fault_keeps}
use Rattle.definition.proofs.Leaving.{cleared_view, settled_in}
use Rattle.definition.proofs.ranged.Registers.clear.Goals as goal

pub returns : goal.returns
returns c =
    let r = c.args.self.now in
    record { view = cleared_view r.shared r.seat c.kept_end-self.result c.at_rest-self.result c.kept_end-self.ensures c.at_rest-self.ensures (omega (arith, r.bottom)) (settled_in r.shared r.open); step = fault_keeps; run = fault_in_run }
