use Rattle.std.proofs.Common.{◌≡◌, ◌+◌, ◌-◌, arith}
use Rattle.recorder.proofs.Laws.{hash_next, hash_end}
use Rattle.recorder.proofs.codegen.hash_of.Goals as goal

pub loop-preserved : goal.loop-preserved
loop-preserved c =
    let e : c.args.n - (c.loop.counter + 1) ≡ c.args.n - c.loop.counter - 1 = omega arith in
    rw e (hash_next _ _ _ _ _ _ _ _ _ (omega (arith, c.loop-test.true)) c.loop.invariant c.unit_at.ensures c.to_ascii_uppercase.ensures c.hash_step-h.ensures c.behind-p.ensures)

pub returns : goal.returns
returns c = hash_end _ _ _ _ _ (omega (arith, c.loop-test.false)) c.loop.invariant
