use Rattle.rules.specs.Stmt.{compile_go}
use Rattle.jumps.proofs.jump.compile_go.Goals as goal

pub returns-in_default-clause-value : goal.returns-in_default-clause-value
unfolding compile_go
returns-in_default-clause-value c = rw c.in_default.is c.pending_jump.ensures.value

pub returns-clause-value : goal.returns-clause-value
unfolding compile_go
returns-clause-value c = rw c.in-Some.is c.pending_jump-2.ensures.value
