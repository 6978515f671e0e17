use Rattle.std.proofs.Common.{arith}
use Rattle.labels.proofs.MarkLaws.{index_step}
use Rattle.labels.proofs.chains.put_in_chains.Goals as goal

pub loop-k-preserved : goal.loop-k-preserved
loop-k-preserved c = λ ms h. index_step _ _ _ c.min-lines.ensures _ _ _ ms (omega arith) h (c.loop-k.invariant ms h)
