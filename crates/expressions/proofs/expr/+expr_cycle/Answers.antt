use Rattle.sheet.proofs.Cases.{expr_number}
use Rattle.expressions.proofs.ExprLaws.{head, at_var, at_text, at_number, at_func, at_user, at_binary, at_unary, at_index, at_inkey, at_other}
use Rattle.expressions.proofs.expr.+expr_cycle.Goals as goal

pub compile_expr-returns-in-Ident-clause-value : goal.compile_expr-returns-in-Ident-clause-value
compile_expr-returns-in-Ident-clause-value t c = at_var _ _ _ _ _ _ _ _ _ _ _ (head _ _ _ _ _ _ _ c.if-left-eq0.false c.payload_at-k.ensures c.node_range-r.ensures c.behind.ensures c.behind-p.ensures) (expr_number _ _ c.in-Ident.ensures) c.var_node-ty.ensures.value

pub compile_expr-returns-in-StringLit-clause-value : goal.compile_expr-returns-in-StringLit-clause-value
compile_expr-returns-in-StringLit-clause-value t c = at_text _ _ _ _ _ _ _ _ _ _ (head _ _ _ _ _ _ _ c.if-left-eq0.false c.payload_at-k.ensures c.node_range-r.ensures c.behind.ensures c.behind-p.ensures) (expr_number _ _ c.in-StringLit.ensures) c.text_node.ensures.value

pub compile_expr-returns-in-NumberLit-clause-value : goal.compile_expr-returns-in-NumberLit-clause-value
compile_expr-returns-in-NumberLit-clause-value t c = at_number _ _ _ _ _ _ _ _ _ _ _ _ _ _ _ (head _ _ _ _ _ _ _ c.if-left-eq0.false c.payload_at-k.ensures c.node_range-r.ensures c.behind.ensures c.behind-p.ensures) (expr_number _ _ c.in-NumberLit.ensures) c.read_payload-e.ensures c.mantissa_at-m.ensures c.behind-in-NumberLit.ensures c.behind-q.ensures (c.number_node.ensures.value _ _)

pub compile_expr-returns-in-SysFuncCall-clause-value : goal.compile_expr-returns-in-SysFuncCall-clause-value
compile_expr-returns-in-SysFuncCall-clause-value t c = at_func _ _ _ _ _ _ _ _ _ _ _ _ _ _ _ _ _ _ _ (head _ _ _ _ _ _ _ c.if-left-eq0.false c.payload_at-k.ensures c.node_range-r.ensures c.behind.ensures c.behind-p.ensures) (expr_number _ _ c.in-SysFuncCall.ensures) c.op_at-f.ensures c.read_payload-c.ensures (c.func_notes.ensures.value _ _) c.compile_args-x.ensures.value (c.func_node-ty.ensures.value _ _)

pub compile_expr-returns-in-UserFuncCall-clause-value : goal.compile_expr-returns-in-UserFuncCall-clause-value
compile_expr-returns-in-UserFuncCall-clause-value t c = at_user _ _ _ _ _ _ _ _ c.opt_range_at-o.result _ _ _ _ _ _ _ _ _ _ (head _ _ _ _ _ _ _ c.if-left-eq0.false c.payload_at-k.ensures c.node_range-r.ensures c.behind.ensures c.behind-p.ensures) (expr_number _ _ c.in-UserFuncCall.ensures) c.opt_range_at-o.ensures c.behind-q-in-UserFuncCall.ensures c.opt_real_sym-y.ensures.value c.compile_expr-x.ensures.value c.node_range.ensures (c.check_type.ensures.value _ _) (c.user_call.ensures.value c.args.src.now.text.now c.args.src.now.base _ c.opt_real_sym-y.ensures.told)

pub compile_expr-returns-in-Binary-clause-value : goal.compile_expr-returns-in-Binary-clause-value
compile_expr-returns-in-Binary-clause-value t c = at_binary _ _ _ _ _ _ _ _ _ _ _ _ _ _ _ _ _ _ _ _ _ _ (head _ _ _ _ _ _ _ c.if-left-eq0.false c.payload_at-k.ensures c.node_range-r.ensures c.behind.ensures c.behind-p.ensures) (expr_number _ _ c.in-Binary.ensures) c.compile_expr-x-in-Binary.ensures.value c.op_at-o.ensures c.compile_expr-y.ensures.value c.node_range-ar.ensures c.node_range-br.ensures (c.binary_node-ty.ensures.value _ _)

pub compile_expr-returns-in-Unary-clause-value : goal.compile_expr-returns-in-Unary-clause-value
compile_expr-returns-in-Unary-clause-value t c = at_unary _ _ _ _ _ _ _ _ _ _ _ _ _ _ _ _ _ _ (head _ _ _ _ _ _ _ c.if-left-eq0.false c.payload_at-k.ensures c.node_range-r.ensures c.behind.ensures c.behind-p.ensures) (expr_number _ _ c.in-Unary.ensures) c.op_at-o-in-Unary.ensures c.compile_expr-x-in-Unary.ensures.value c.node_range-ar-in-Unary.ensures (c.unary_node-ty.ensures.value _ _)

pub compile_expr-returns-in-Index-clause-value : goal.compile_expr-returns-in-Index-clause-value
compile_expr-returns-in-Index-clause-value t c = at_index _ _ _ _ _ _ _ _ c.opt_range_at-o-in-Index.result _ _ _ _ _ _ _ _ (head _ _ _ _ _ _ _ c.if-left-eq0.false c.payload_at-k.ensures c.node_range-r.ensures c.behind.ensures c.behind-p.ensures) (expr_number _ _ c.in-Index.ensures) c.opt_range_at-o-in-Index.ensures c.behind-in-Index.ensures c.read_payload-c-in-Index.ensures c.compile_args-x-in-Index.ensures.value c.index_node-ty.ensures.value

pub compile_expr-returns-in-Inkey-clause-value : goal.compile_expr-returns-in-Inkey-clause-value
compile_expr-returns-in-Inkey-clause-value t c = at_inkey _ _ _ _ _ _ _ _ _ _ (head _ _ _ _ _ _ _ c.if-left-eq0.false c.payload_at-k.ensures c.node_range-r.ensures c.behind.ensures c.behind-p.ensures) (expr_number _ _ c.in-Inkey.ensures) c.emit.ensures.value

pub compile_expr-returns-in-Error-clause-value : goal.compile_expr-returns-in-Error-clause-value
compile_expr-returns-in-Error-clause-value t c = at_other _ _ _ _ _ _ _ _ _ (head _ _ _ _ _ _ _ c.if-left-eq0.false c.payload_at-k.ensures c.node_range-r.ensures c.behind.ensures c.behind-p.ensures) (expr_number _ _ c.in-Error.ensures)
