use Rattle.std.proofs.Common.{sym, ◌∙◌, arith}
use Rattle.dictionary.proofs.Growing.{outside_then}
use Rattle.trimming.proofs.FallLaws.{lower_at, trim_done}
use Rattle.trimming.proofs.heads.lower_threads.Goals as goal

pub loop-k-preserved : goal.loop-k-preserved
loop-k-preserved c = (lower_at _ _ _ _ _ _ _ c.head_of.ensures (omega arith) c.loop-k-test.true c.loop-k.invariant.0 c.lower.ensures.bytes, outside_then c.loop-k.invariant.1 c.lower.ensures.rest)

pub returns-clause-bytes : goal.returns-clause-bytes
returns-clause-bytes c = sym (c.loop-k.invariant.0.goes ∙ trim_done _ _ _ _ (omega arith))
