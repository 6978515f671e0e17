use Rattle.inputs.proofs.InputLaws.{input_fn_of}
use Rattle.inputs.proofs.input.input_fn.Goals as goal

pub returns-clause-value : goal.returns-clause-value
returns-clause-value c = input_fn_of _ _ _ _ _ _ c.opt_range_at-o.result _ _ _ _ _ _ _ _ _ c.opt_range_at-o.ensures c.behind-q.ensures c.opt_real_sym-x.ensures.value c.is_ident-i.ensures c.node_range-ar.ensures c.input_arg-y.ensures.value (c.fn_place.ensures.value c.args.src.now.text.now c.args.src.now.base _ _ c.opt_real_sym-x.ensures.told c.input_arg-y.ensures.told)
