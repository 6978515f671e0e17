use borrow.Author.Rules.{rules}
use Rattle.std.proofs.Common.{ℕ, ap, ◌∙◌}
use Rattle.recorder.specs.Mem.{mem_r}
use Rattle.recorder.specs.CodeGen.{mem_of}
use Rattle.rules.specs.Program.{resolve}
use Rattle.resolution.proofs.ResolveLaws.{resolve_step, resolve_done}
use Rattle.resolution.proofs.resolve.resolve_waiting.Goals as goal

pub loop-k-preserved : goal.loop-k-preserved
loop-k-preserved g c = (search rules, λ t ms h. resolve_step t g.T.Target.waiting ms _ _ _ _ c.loop-k-test.true (c.settle_waiting.ensures.value t ms h) ∙ c.loop-k.invariant.1 t ms h)

pub returns-clause-value : goal.returns-clause-value
returns-clause-value g c = λ t ms h. resolve_done t g.T.Target.waiting ms _ _ _ _ c.loop-k-test.false (c.loop-k.invariant.1 t ms h) ∙ ap (λ (z : ℕ). resolve (mem_r t) g.T.Target.waiting ms 0 z (mem_of c.args.code.now)) c.current_addr-end.ensures
