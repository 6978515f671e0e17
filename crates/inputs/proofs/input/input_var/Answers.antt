use Rattle.sheet.proofs.Cases.{expr_number, expr_other}
use Rattle.expressions.proofs.ExprLaws.{head}
use Rattle.inputs.proofs.InputLaws.{taken_zero, taken_fn, taken_place}
use Rattle.inputs.proofs.input.input_var.Goals as goal

pub returns-then-left-eq0-clause-value : goal.returns-then-left-eq0-clause-value
returns-then-left-eq0-clause-value c = taken_zero _ _ _ _ _ _ _ c.if-left-eq0.true

pub returns-in-UserFuncCall-clause-value : goal.returns-in-UserFuncCall-clause-value
returns-in-UserFuncCall-clause-value c = taken_fn _ _ _ _ _ _ _ _ _ _ _ _ (head _ _ _ _ _ _ _ c.if-left-eq0.false c.payload_at-k.ensures c.node_range-r.ensures c.behind.ensures c.behind-p.ensures) (expr_number _ _ c.in-UserFuncCall.ensures) c.fn_input.ensures.value c.skip_expr.ensures

pub returns-in_default-clause-value : goal.returns-in_default-clause-value
returns-in_default-clause-value c = taken_place _ _ _ _ _ _ _ _ _ _ _ _ _ (head _ _ _ _ _ _ _ c.if-left-eq0.false c.payload_at-k.ensures c.node_range-r.ensures c.behind.ensures c.behind-p.ensures) (expr_other _ _ _ c.of.ensures c.in_default.not-UserFuncCall) c.compile_lvalue-x.ensures.value
