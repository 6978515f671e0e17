use Rattle.std.proofs.Common.{◌∙◌, ap}
use Rattle.recorder.specs.Mem.{Mem, mem_r}
use Rattle.rules.specs.Stmt.{end_here}
use Rattle.statements.proofs.stmt.else_head.Goals as goal

pub returns-clause-value : goal.returns-clause-value
returns-clause-value c = λ t base. c.end_here.ensures.value t base ∙ ap (λ (m : Mem). end_here (mem_r t) t base c.args.jump.0 m) c.emit.ensures.value
