use Rattle.std.proofs.Common.{◌≡◌, ◌+◌, ◌-◌, ◌*◌, ◌≤◌, length}
use Rattle.sheet.specs.declared.form.Sort.TheVariants.{Stmt}
use Rattle.sheet.specs.Form.{repeat_form}
use Rattle.accept_exprs.specs.Read.{node_in}
use Rattle.acceptance.proofs.stmt.+form_cycle.Given as goal

abbrev pub decreases-if_form : goal.decreases-if_form
decreases-if_form l = 3 * (length l.form.now.sheet.now - l.at) + 2

abbrev pub decreases-stmt_form : goal.decreases-stmt_form
decreases-stmt_form l = 3 * (length l.form.now.sheet.now - l.at)

abbrev pub decreases-stmts_form : goal.decreases-stmts_form
decreases-stmts_form l = 3 * (length l.form.now.sheet.now - l.at) + 1

abbrev pub invariant-stmts_form-loop : goal.invariant-stmts_form-loop
invariant-stmts_form-loop l = record {
  later : l.initial.p ≤ l.p;
  same : repeat_form l.form.sheet.now l.form.text.now l.form.line (node_in l.form l.left Stmt) (l.end - l.counter) l.p
      ≡ repeat_form l.form.sheet.now l.form.text.now l.form.line (node_in l.form l.left Stmt) l.end l.initial.p;
}
