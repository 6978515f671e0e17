use Rattle.std.proofs.Common.{◌≡◌, ◌-◌}
use Rattle.recorder.specs.Mem.{descent_from}
use Rattle.recorder.proofs.Laws.{descent}
use Rattle.recorder.proofs.codegen.CodeGen.descent_to.Given as goal

abbrev pub invariant-loop : goal.invariant-loop
invariant-loop l = descent_from l.text l.self.book.now l.end l.name.start l.name.len l.name.sigil (descent l.at l.bits) (l.end - l.counter) ≡ descent_from l.text l.self.book.now l.end l.name.start l.name.len l.name.sigil (descent l.initial.at l.initial.bits) l.end
