use Rattle.std.proofs.Common.{arith}
use Rattle.std.proofs.Math.Nat.{sub-add-eq}
use Rattle.walk.proofs.Lines.{lines_step}
use Rattle.acceptance.proofs.stmt.lines_form.Goals as goal

pub loop-preserved : goal.loop-preserved
loop-preserved c =
    rw sub-add-eq (lines_step c.args.sheet.now c.args.text.now _ _ _ _ _ _ _ (omega (arith, c.loop-test.true)) c.line_form.ensures c.in_ok-q.was c.payload_at.ensures c.loop.invariant)
