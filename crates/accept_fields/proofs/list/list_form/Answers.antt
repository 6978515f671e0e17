use Rattle.std.proofs.Common.{◌≡◌, ◌∙◌, arith, rules}
use Rattle.std.proofs.Math.Nat.{sub-add-eq}
use Rattle.sheet.specs.Form.{list_form}
use Rattle.sheet.proofs.Walks.{then_go}
use Rattle.walk.proofs.Cycle.{repeat_step, repeat_stop}
use Rattle.accept_fields.proofs.list.list_form.Goals as goal

pub loop-preserved : goal.loop-preserved
loop-preserved g c f h =
    rw sub-add-eq (repeat_step c.args.form.now.sheet.now c.args.form.now.text.now c.args.form.now.line f _ _ _ _ _ (omega (arith, c.loop-test.true)) (h _ _ c.each.ensures) c.in_ok-p-2.was (c.loop.invariant f h))

pub returns-in_err-p-2 : goal.returns-in_err-p-2
unfolding list_form
returns-in_err-p-2 g c f h =
    let e : c.from_residual-in_err-p-2.result ≡ c.each.result = search rules in
    e ∙ then_go _ _ _ _ _ c.take_word.ensures c.in_ok-p.was
    (repeat_stop c.args.form.now.sheet.now c.args.form.now.text.now c.args.form.now.line f _ _ _ _ _ _ _ (omega (arith, c.loop-test.true)) (h _ _ c.each.ensures) c.in_err-p-2.was (c.loop.invariant f h) c.payload_at-end.ensures)
