use Rattle.std.proofs.Common.{◌≡◌, ◌-◌}
use Rattle.recorder.specs.Mem.{hash_of}
use Rattle.recorder.proofs.codegen.hash_of.Given as goal

abbrev pub invariant-loop : goal.invariant-loop
invariant-loop l = hash_of l.text l.p l.h (l.n - l.counter) ≡ hash_of l.text l.at l.first l.n
