use Rattle.std.proofs.Common.{◌≡◌, ◌-◌}
use Rattle.sheet.specs.Form.{lines_form}
use Rattle.acceptance.proofs.stmt.lines_form.Given as goal

abbrev pub invariant-loop : goal.invariant-loop
invariant-loop l = lines_form l.sheet l.text (l.n - l.counter) l.base l.p ≡ lines_form l.sheet l.text l.n 0 l.at
