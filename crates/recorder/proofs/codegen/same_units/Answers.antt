use Rattle.std.proofs.Common.{◌≡◌, ◌+◌, ◌-◌, arith}
use Rattle.recorder.proofs.Laws.{units_step, units_stop, units_end}
use Rattle.recorder.proofs.codegen.same_units.Goals as goal

pub returns-then-to_ascii_uppercase : goal.returns-then-to_ascii_uppercase
returns-then-to_ascii_uppercase c = units_stop _ _ _ _ _ _ _ _ _ (omega (arith, c.loop-test.true)) c.loop.invariant c.unit_at.ensures c.unit_at-in-loop.ensures c.to_ascii_uppercase.ensures c.to_ascii_uppercase-in-loop.ensures c.if-to_ascii_uppercase.true

pub loop-preserved : goal.loop-preserved
loop-preserved c =
    let e : c.args.n - (c.loop.counter + 1) ≡ c.args.n - c.loop.counter - 1 = omega arith in
    rw e (units_step _ _ _ _ _ _ _ _ _ _ _ (omega (arith, c.loop-test.true)) c.loop.invariant c.unit_at.ensures c.unit_at-in-loop.ensures c.to_ascii_uppercase.ensures c.to_ascii_uppercase-in-loop.ensures c.if-to_ascii_uppercase.false c.behind-p.ensures c.behind-q.ensures)

pub returns : goal.returns
returns c = units_end _ _ _ _ _ (omega (arith, c.loop-test.false)) c.loop.invariant
