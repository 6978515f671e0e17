use Rattle.loops.proofs.LoopLaws.{at_for}
use Rattle.loops.proofs.for_loop.compile_for.Goals as goal

pub returns-clause-value : goal.returns-clause-value
returns-clause-value c = λ k. at_for _ _ _ _ k _ _ c.opt_range_at-o.result _ _ _ _ _ _ _ _ _ _ _ _ c.opt_range_at-o.ensures c.opt_real_sym-y.ensures.value c.behind-p.ensures c.compile_typed-a.ensures.value c.compile_typed-b.ensures.value c.compile_step-c.ensures.value (λ e. c.for_node.ensures.value c.args.src.now.text.now c.args.src.now.base _ e c.opt_real_sym-y.ensures.told)
