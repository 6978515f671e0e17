use Rattle.std.proofs.Common.{◌≡◌, ◌-◌}
use Rattle.rules.specs.Stmt.{fresh, byte_units}
use Rattle.transfers.specs.Parts.{read_of}
use Rattle.transfers.proofs.loads.byte_units.Given as goal

abbrev pub invariant-loop : goal.invariant-loop
invariant-loop l = byte_units l.text l.p (l.n - l.counter) (read_of l.b) ≡ byte_units l.text l.at l.n fresh
