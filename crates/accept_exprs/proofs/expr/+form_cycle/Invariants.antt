use Rattle.std.proofs.Common.{◌≡◌, ◌+◌, ◌-◌, ◌*◌, ◌≤◌, length}
use Rattle.sheet.specs.declared.form.Item.TheVariants.{Nothing}
use Rattle.sheet.specs.declared.form.Sort.TheVariants.{Expr}
use Rattle.sheet.specs.Table.{expr}
use Rattle.sheet.specs.Form.{repeat_form}
use Rattle.accept_exprs.specs.Read.{node_in, pair_in}
use Rattle.accept_exprs.proofs.expr.+form_cycle.Given as goal

abbrev pub decreases-expr_form : goal.decreases-expr_form
decreases-expr_form l = 2 * (length l.form.now.sheet.now - l.at)

abbrev pub decreases-exprs_form : goal.decreases-exprs_form
decreases-exprs_form l = 2 * (length l.form.now.sheet.now - l.at) + 1

abbrev pub decreases-expr_form-loop-h : goal.decreases-expr_form-loop-h
decreases-expr_form-loop-h l = l.left

abbrev pub invariant-expr_form-loop-h : goal.invariant-expr_form-loop-h
invariant-expr_form-loop-h l = record {
  later : l.initial.at ≤ l.at;
  same : node_in l.form l.left Expr l.at ≡ node_in l.form l.initial.left Expr l.initial.at;
}

abbrev pub invariant-exprs_form-loop : goal.invariant-exprs_form-loop
invariant-exprs_form-loop l = record {
  later : l.initial.p ≤ l.p;
  same : repeat_form l.form.sheet.now l.form.text.now l.form.line (pair_in l.form l.left expr Nothing) (l.end - l.counter) l.p
      ≡ repeat_form l.form.sheet.now l.form.text.now l.form.line (pair_in l.form l.left expr Nothing) l.end l.initial.p;
}
