use Rattle.std.proofs.Common.{◌≤◌, arith}
use Rattle.std.proofs.Math.Nat.{sub-add-eq}
use Rattle.sheet.specs.declared.form.Sort.TheVariants.{Expr, Stmt}
use Rattle.walk.proofs.Cycle.{later, head_moves, repeat_step}
use Rattle.walk.proofs.Steps.{word_ends, range_ends, node_ends, list_ends}
use Rattle.accept_exprs.specs.Read.{node_in}
use Rattle.acceptance.proofs.stmt.+form_cycle.Goals as goal

pub if_form-stmts_form-requires : goal.if_form-stmts_form-requires
if_form-stmts_form-requires t c = omega (arith, c.decreases, later c.args.form.now.sheet.now _ _ _ _ (node_ends c.args.form.now.sheet.now c.args.form.now.text.now c.args.form.now.line c.args.left Expr c.args.at) c.expr_form.ensures c.in_ok-p.was)

pub if_form-stmts_form-requires-else-is_absent : goal.if_form-stmts_form-requires-else-is_absent
if_form-stmts_form-requires-else-is_absent t c =
    let p = later c.args.form.now.sheet.now _ _ _ _ (node_ends c.args.form.now.sheet.now c.args.form.now.text.now c.args.form.now.line c.args.left Expr c.args.at) c.expr_form.ensures c.in_ok-p.was in
    let q = later c.args.form.now.sheet.now _ _ _ _ (list_ends c.args.form.now.sheet.now c.args.form.now.text.now c.args.form.now.line (node_in c.args.form.now c.args.left Stmt) (λ r. node_ends c.args.form.now.sheet.now c.args.form.now.text.now c.args.form.now.line c.args.left Stmt r) c.in_ok-p.p) c.stmts_form.ensures c.in_ok-q.was in
    omega (arith, c.decreases, p, q)

pub stmt_form-if_form-requires : goal.stmt_form-if_form-requires
stmt_form-if_form-requires t c =
    let h = head_moves c.args.form.now.sheet.now Stmt c.args.at _ _ c.head_form.ensures c.in_ok-h.was in
    let q = later c.args.form.now.sheet.now _ _ _ _ (range_ends c.args.form.now.sheet.now c.args.form.now.line c.in_ok-h.h) c.range_form.ensures c.in_ok-q.was in
    omega (arith, c.decreases, h.0, h.1, q)

pub stmts_form-stmt_form-requires : goal.stmts_form-stmt_form-requires
stmts_form-stmt_form-requires t c = omega (arith, c.decreases, c.loop.invariant.later, later c.args.form.now.sheet.now _ _ _ _ (word_ends c.args.form.now.sheet.now 4 16777216 c.args.at) c.take_word.ensures c.in_ok-p.was)

pub stmts_form-loop-preserved : goal.stmts_form-loop-preserved
stmts_form-loop-preserved t c =
    let h : c.loop.p ≤ c.in_ok-p-2.p = later c.args.form.now.sheet.now _ _ _ _ (node_ends c.args.form.now.sheet.now c.args.form.now.text.now c.args.form.now.line c.args.left Stmt c.loop.p) c.stmt_form.ensures c.in_ok-p-2.was in
    record {
      later = omega (arith, h, c.loop.invariant.later);
      same = rw sub-add-eq (repeat_step c.args.form.now.sheet.now c.args.form.now.text.now c.args.form.now.line (node_in c.args.form.now c.args.left Stmt) _ _ _ _ _ (omega (arith, c.loop-test.true)) c.stmt_form.ensures c.in_ok-p-2.was c.loop.invariant.same);
    }
