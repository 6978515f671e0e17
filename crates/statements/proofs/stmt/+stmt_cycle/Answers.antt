use Rattle.expressions.proofs.ExprLaws.{head}
use Rattle.statements.proofs.StmtLaws.{stmt_if, if_then_lem, if_else_lem}
use Rattle.statements.proofs.stmt.+stmt_cycle.Goals as goal

pub compile_if-returns-then-is_absent-clause-value : goal.compile_if-returns-then-is_absent-clause-value
compile_if-returns-then-is_absent-clause-value t c = if_then_lem _ _ _ _ _ _ _ _ _ _ _ _ _ _ _ c.if_head-h.ensures.value c.compile_stmts-p.ensures.value c.is_absent.ensures c.if-is_absent.true (c.end_here.ensures.value c.args.src.now.text.now c.args.src.now.base) c.behind.ensures

pub compile_if-returns-clause-value : goal.compile_if-returns-clause-value
compile_if-returns-clause-value t c = if_else_lem _ _ _ _ _ _ _ _ _ _ _ _ _ _ _ _ _ _ c.if_head-h.ensures.value c.compile_stmts-p.ensures.value c.is_absent.ensures c.if-is_absent.false c.current_addr-over.ensures (c.else_head.ensures.value c.args.src.now.text.now c.args.src.now.base) c.compile_stmts-y.ensures.value (c.end_here-2.ensures.value c.args.src.now.text.now c.args.src.now.base)

pub compile_stmt-returns-in-If-clause-value : goal.compile_stmt-returns-in-If-clause-value
compile_stmt-returns-in-If-clause-value t c = stmt_if _ _ _ _ _ _ _ _ _ _ _ _ (head _ _ _ _ _ _ _ c.if-left-eq0.false c.payload_at-k.ensures c.node_range-r.ensures c.behind.ensures c.behind-p.ensures) c.shape_of.ensures c.in-If.is c.compile_if.ensures.value
