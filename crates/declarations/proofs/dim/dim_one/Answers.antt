use Rattle.sheet.proofs.Cases.{expr_number, expr_other}
use Rattle.declarations.proofs.PlaceLaws.{plain_head, dim_array, dim_other}
use Rattle.declarations.proofs.dim.dim_one.Goals as goal

pub returns-in-Index-clause-value : goal.returns-in-Index-clause-value
returns-in-Index-clause-value c = dim_array _ _ _ _ _ _ _ _ c.opt_range_at-o.result _ _ _ _ _ _ _ (plain_head _ _ _ _ _ _ c.if-left-eq0.false c.payload_at-k.ensures c.behind.ensures c.behind-p.ensures) (expr_number _ _ c.in-Index.ensures) c.opt_range_at-o.ensures c.behind-in-Index.ensures c.read_payload-c.ensures c.compile_args-x.ensures.value c.dim_node.ensures.value

pub returns-in_default-clause-value : goal.returns-in_default-clause-value
returns-in_default-clause-value c = dim_other _ _ _ _ _ _ _ _ _ _ (plain_head _ _ _ _ _ _ c.if-left-eq0.false c.payload_at-k.ensures c.behind.ensures c.behind-p.ensures) (expr_other _ _ _ c.of.ensures c.in_default.not-Index) c.skip_expr.ensures
