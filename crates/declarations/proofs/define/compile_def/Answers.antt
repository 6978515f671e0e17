use Rattle.declarations.proofs.Laws.{at_def}
use Rattle.declarations.proofs.define.compile_def.Goals as goal

pub returns-clause-value : goal.returns-clause-value
returns-clause-value c = λ k. at_def _ _ _ _ k _ _ c.opt_range_at-o.result c.opt_range_at-a.result _ _ _ _ _ _ _ _ _ c.behind-p.ensures c.opt_range_at-o.ensures c.opt_range_at-a.ensures c.opt_real_sym-x.ensures.value c.opt_real_sym-y.ensures.value c.behind-q.ensures (c.def_node.ensures.value _ _ c.opt_real_sym-x.ensures.told c.opt_real_sym-y.ensures.told)
