use Rattle.std.proofs.Common.{◌≡◌, ◌-◌}
use Rattle.recorder.specs.Mem.{lookup}
use Rattle.recorder.proofs.codegen.CodeGen.find.Given as goal

abbrev pub invariant-loop-k : goal.invariant-loop-k
invariant-loop-k l = lookup l.text l.self.book.now l.name.start l.name.len l.name.sigil l.k (l.end - l.k) ≡ lookup l.text l.self.book.now l.name.start l.name.len l.name.sigil l.from (l.end - l.from)
