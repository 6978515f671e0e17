use native.Mathlib.Omega.{arith}
use mathlib.Core.Path.{refl, ◌∙◌}
use Rattle.closing.proofs.OnePass.{rest_start, rest_step, rest_end}
use Rattle.closing.proofs.closing.close_loops.Goals as goal

pub loop-k-init : goal.loop-k-init
loop-k-init c = (rest_start c.args.list.now c.args.n, refl)

pub loop-k-preserved : goal.loop-k-preserved
loop-k-preserved c = (rest_step _ _ _ _ _ c.loop-k.k _ _ c.loop-k-test.true c.loop-k.invariant.0 c.loop_step-top.ensures, c.loop_step-top.auto.list ∙ c.loop-k.invariant.1)

pub returns : goal.returns
returns c = rest_end _ _ _ c.loop-k.k _ _ (omega (arith, c.loop-k-test.false)) c.loop-k.invariant.0
