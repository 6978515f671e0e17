use mathlib.Core.Path.{◌∙◌}
use Rattle.closing.proofs.ClosingLaws.{unlink_step, unlink_end}
use Rattle.closing.proofs.closing.unlink_names.Goals as goal

pub loop-k-preserved : goal.loop-k-preserved
loop-k-preserved c = (unlink_step _ _ _ c.loop-k.k _ c.loop-k-test.true c.loop-k.invariant.0 c.unlink_at.ensures, c.unlink_at.auto.book ∙ c.loop-k.invariant.1)

pub returns : goal.returns
returns c = unlink_end _ _ _ _ c.loop-k-test.false c.loop-k.invariant.0
