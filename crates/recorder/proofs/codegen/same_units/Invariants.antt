use Rattle.std.proofs.Common.{◌≡◌, ◌-◌}
use Rattle.recorder.specs.Name.{same_units}
use Rattle.recorder.proofs.codegen.same_units.Given as goal

abbrev pub invariant-loop : goal.invariant-loop
invariant-loop l = same_units l.text l.p l.q (l.n - l.counter) ≡ same_units l.text l.a l.b l.n
