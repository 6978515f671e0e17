use Rattle.std.proofs.Common.{◌≡◌, ℕ, ◌-◌}
use Rattle.sheet.specs.Walk.{Walk}
use Rattle.sheet.specs.Form.{repeat_form}
use Rattle.accept_fields.specs.Counted.{Reads}
use Rattle.accept_fields.proofs.list.list_form.Given as goal

abbrev pub invariant-loop : goal.invariant-loop
invariant-loop g l = (f : ℕ → Walk) → Reads (λ p w. g.F.Fn.post l.each (p, tt) w) f
    → repeat_form l.form.sheet.now l.form.text.now l.form.line f (l.end - l.counter) l.p ≡ repeat_form l.form.sheet.now l.form.text.now l.form.line f l.end l.initial.p
