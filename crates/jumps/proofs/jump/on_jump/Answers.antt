use Rattle.jumps.proofs.jump.on_jump.Goals as goal

pub returns-in_default-clause-value : goal.returns-in_default-clause-value
returns-in_default-clause-value c = rw c.in_default.is c.pending_jump.ensures.value

pub returns-clause-value : goal.returns-clause-value
returns-clause-value c = rw c.in-Some.is c.pending_jump-2.ensures.value
