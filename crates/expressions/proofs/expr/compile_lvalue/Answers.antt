use Rattle.sheet.proofs.Cases.{expr_number, expr_other}
use Rattle.expressions.proofs.ExprLaws.{head, place_var, place_index, place_other}
use Rattle.expressions.proofs.expr.compile_lvalue.Goals as goal

pub returns-in-Ident-clause-value : goal.returns-in-Ident-clause-value
returns-in-Ident-clause-value c = place_var _ _ _ _ _ _ _ _ _ _ _ (head _ _ _ _ _ _ _ c.if-left-eq0.false c.payload_at-k.ensures c.node_range-r.ensures c.behind.ensures c.behind-p.ensures) (expr_number _ _ c.in-Ident.ensures) c.var_place-ty.ensures.value

pub returns-in-Index-clause-value : goal.returns-in-Index-clause-value
returns-in-Index-clause-value c = place_index _ _ _ _ _ _ _ _ c.opt_range_at-o.result _ _ _ _ _ _ _ _ (head _ _ _ _ _ _ _ c.if-left-eq0.false c.payload_at-k.ensures c.node_range-r.ensures c.behind.ensures c.behind-p.ensures) (expr_number _ _ c.in-Index.ensures) c.opt_range_at-o.ensures c.behind-in-Index.ensures c.read_payload-c.ensures c.compile_args-x.ensures.value c.index_place-ty.ensures.value

pub returns-in_default-clause-value : goal.returns-in_default-clause-value
returns-in_default-clause-value c = place_other _ _ _ _ _ _ _ _ _ _ (head _ _ _ _ _ _ _ c.if-left-eq0.false c.payload_at-k.ensures c.node_range-r.ensures c.behind.ensures c.behind-p.ensures) (expr_other _ _ _ c.of.ensures c.in_default.not-Ident) (expr_other _ _ _ c.of.ensures c.in_default.not-Index) c.skip_expr.ensures
