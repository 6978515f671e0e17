use Rattle.std.proofs.Common.{◌≡◌, ◌-◌, ◌≤◌, ◌∙◌, sym, arith, rules}
use Rattle.std.proofs.Math.Nat.{sub-add-eq}
use Rattle.sheet.specs.declared.form.Item.TheVariants.{Nothing}
use Rattle.sheet.specs.declared.form.Sort.TheVariants.{Expr}
use Rattle.sheet.specs.Table.{expr}
use Rattle.sheet.specs.Form.{name_form, item_form, fields_form}
use Rattle.sheet.proofs.Cases.{fields_rule}
use Rattle.walk.proofs.Cycle.{later, repeat_step, repeat_stop, repeat_end}
use Rattle.walk.proofs.Steps.{node_ends, non_empty_ends, name_ends, absent_or}
use Rattle.walk.proofs.Lines.{alone}
use Rattle.accept_exprs.specs.Read.{node_in, pair_in}
use Rattle.accept_exprs.proofs.Fields.{field_some, operator_ends, past_own, expr_is, one_is, last_is}
use Rattle.accept_exprs.proofs.expr.+form_cycle.Goals as goal
use Rattle.accept_exprs.proofs.expr.+form_cycle.Goals.{expr_form-in-UserFuncCall+in_ok-at-in-UserFuncCall, expr_form-in-Binary+in_ok-p-in-Binary+in_ok-at-in-Binary, expr_form-in-Unary+in_ok-at-in-Unary}

pub exprs_form-expr_form-requires : goal.exprs_form-expr_form-requires
exprs_form-expr_form-requires t c = omega (arith, c.decreases, c.loop.invariant.later, later c.args.form.now.sheet.now _ _ _ _ (non_empty_ends c.args.form.now.sheet.now c.args.at) c.non_empty_form.ensures c.in_ok-p.was)

pub exprs_form-loop-preserved : goal.exprs_form-loop-preserved
exprs_form-loop-preserved t c =
    let h : c.loop.p ≤ c.in_ok-p-2.p = later c.args.form.now.sheet.now _ _ _ _ (node_ends c.args.form.now.sheet.now c.args.form.now.text.now c.args.form.now.line c.args.left Expr c.loop.p) c.expr_form.ensures c.in_ok-p-2.was in
    record {
      later = omega (arith, h, c.loop.invariant.later);
      same = rw sub-add-eq (repeat_step c.args.form.now.sheet.now c.args.form.now.text.now c.args.form.now.line (pair_in c.args.form.now c.args.left expr Nothing) _ _ _ _ _ (omega (arith, c.loop-test.true)) (c.expr_form.ensures ∙ sym (alone c.args.form.now.sheet.now c.args.form.now.text.now c.args.form.now.line (node_in c.args.form.now c.args.left) Expr c.loop.p)) c.in_ok-p-2.was c.loop.invariant.same);
    }

pub exprs_form-returns-in_err-p-2 : goal.exprs_form-returns-in_err-p-2
exprs_form-returns-in_err-p-2 t c =
    let e : c.from_residual-in_err-p-2.result ≡ c.expr_form.result = search rules in
    e ∙ repeat_stop c.args.form.now.sheet.now c.args.form.now.text.now c.args.form.now.line (pair_in c.args.form.now c.args.left expr Nothing) _ _ _ _ _ _ _ (omega (arith, c.loop-test.true)) (c.expr_form.ensures ∙ sym (alone c.args.form.now.sheet.now c.args.form.now.text.now c.args.form.now.line (node_in c.args.form.now c.args.left) Expr c.loop.p)) c.in_err-p-2.was c.loop.invariant.same c.payload_at-end.ensures
    ∙ sym (field_some c.args.form.now.sheet.now c.args.form.now.text.now c.args.form.now.line (node_in c.args.form.now c.args.left) expr c.args.at c.in_ok-p.p (sym c.non_empty_form.ensures ∙ c.in_ok-p.was))

pub exprs_form-returns : goal.exprs_form-returns
exprs_form-returns t c =
    repeat_end c.args.form.now.sheet.now c.args.form.now.text.now c.args.form.now.line (pair_in c.args.form.now c.args.left expr Nothing) _ _ _ _ _ (omega (arith, c.loop-test.false)) c.loop.invariant.same c.payload_at-end.ensures
    ∙ sym (field_some c.args.form.now.sheet.now c.args.form.now.text.now c.args.form.now.line (node_in c.args.form.now c.args.left) expr c.args.at c.in_ok-p.p (sym c.non_empty_form.ensures ∙ c.in_ok-p.was))

pub expr_form-exprs_form-requires : goal.expr_form-exprs_form-requires
expr_form-exprs_form-requires t c =
    let past = past_own c.args.form.now.sheet.now c.args.form.now.text.now c.args.form.now.line c.loop-h.at _ _ _ (sym c.head_form.ensures ∙ c.in_ok-h.was) (sym c.own_form.ensures ∙ c.in_ok-q.was) in
    omega (arith, c.decreases, c.loop-h.invariant.later, past.0, past.1, later c.args.form.now.sheet.now _ _ _ _ (operator_ends c.args.form.now.sheet.now c.args.form.now.text.now c.args.form.now.line _ c.in_ok-q.q) c.operator_form.ensures c.in_ok-p-in-SysFuncCall.was)

pub expr_form-expr_form-requires : goal.expr_form-expr_form-requires
expr_form-expr_form-requires t c =
    let past = past_own c.args.form.now.sheet.now c.args.form.now.text.now c.args.form.now.line c.loop-h.at _ _ _ (sym c.head_form.ensures ∙ c.in_ok-h.was) (sym c.own_form.ensures ∙ c.in_ok-q.was) in
    omega (arith, c.decreases, c.loop-h.invariant.later, past.0, past.1)

pub expr_form-exprs_form-requires-in-Index : goal.expr_form-exprs_form-requires-in-Index
expr_form-exprs_form-requires-in-Index t c =
    let past = past_own c.args.form.now.sheet.now c.args.form.now.text.now c.args.form.now.line c.loop-h.at _ _ _ (sym c.head_form.ensures ∙ c.in_ok-h.was) (sym c.own_form.ensures ∙ c.in_ok-q.was) in
    omega (arith, c.decreases, c.loop-h.invariant.later, past.0, past.1, later c.args.form.now.sheet.now _ _ _ _ (absent_or c.args.form.now.sheet.now c.in_ok-q.q (name_form c.args.form.now.sheet.now c.args.form.now.text.now c.args.form.now.line) (name_ends c.args.form.now.sheet.now c.args.form.now.text.now c.args.form.now.line c.in_ok-q.q)) c.optional_name_form-in-Index.ensures c.in_ok-p-in-Index.was)

pub expr_form-loop-h-preserved : goal.expr_form-loop-h-preserved
unfolding fields_form item_form
expr_form-loop-h-preserved t c =
    let past = past_own c.args.form.now.sheet.now c.args.form.now.text.now c.args.form.now.line c.loop-h.at _ _ _ (sym c.head_form.ensures ∙ c.in_ok-h.was) (sym c.own_form.ensures ∙ c.in_ok-q.was) in
    elim c.match-of.branch [
      | expr_form-in-UserFuncCall+in_ok-at-in-UserFuncCall w ↦ record {
        later = omega (arith, c.loop-h.invariant.later, past.1, w.at-is, later c.args.form.now.sheet.now _ _ _ _ (absent_or c.args.form.now.sheet.now c.in_ok-q.q (name_form c.args.form.now.sheet.now c.args.form.now.text.now c.args.form.now.line) (name_ends c.args.form.now.sheet.now c.args.form.now.text.now c.args.form.now.line c.in_ok-q.q)) w.optional_name_form.ensures w.in_ok-at-in-UserFuncCall.was);
        same = grind (arith, fields_rule, expr_is, one_is, last_is);
      }
      | expr_form-in-Binary+in_ok-p-in-Binary+in_ok-at-in-Binary w ↦ record {
        later = let p = later c.args.form.now.sheet.now _ _ _ _ (node_ends c.args.form.now.sheet.now c.args.form.now.text.now c.args.form.now.line (c.loop-h.left - 1) Expr c.in_ok-q.q) w.expr_form.ensures w.in_ok-p-in-Binary.was in
            omega (arith, c.loop-h.invariant.later, past.1, w.at-is, p, later c.args.form.now.sheet.now _ _ _ _ (operator_ends c.args.form.now.sheet.now c.args.form.now.text.now c.args.form.now.line _ w.in_ok-p-in-Binary.p) w.operator_form-in-Binary.ensures w.in_ok-at-in-Binary.was);
        same = grind (arith, fields_rule, expr_is, one_is, last_is);
      }
      | expr_form-in-Unary+in_ok-at-in-Unary w ↦ record {
        later = omega (arith, c.loop-h.invariant.later, past.1, w.at-is, later c.args.form.now.sheet.now _ _ _ _ (operator_ends c.args.form.now.sheet.now c.args.form.now.text.now c.args.form.now.line _ c.in_ok-q.q) w.operator_form-in-Unary.ensures w.in_ok-at-in-Unary.was);
        same = grind (arith, fields_rule, expr_is, one_is, last_is);
      }
    ]
