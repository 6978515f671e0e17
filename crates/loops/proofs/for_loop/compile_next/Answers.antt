use Rattle.loops.proofs.LoopLaws.{at_no_next, at_next}
use Rattle.loops.proofs.for_loop.compile_next.Goals as goal

pub returns-then-c-eq0-clause-value : goal.returns-then-c-eq0-clause-value
returns-then-c-eq0-clause-value c = λ left k. at_no_next _ _ _ _ _ _ _ _ _ _ _ c.read_payload-c.ensures c.if-c-eq0.true c.emit.ensures.value

pub returns-else-c-eq0-clause-value : goal.returns-else-c-eq0-clause-value
returns-else-c-eq0-clause-value c = λ left k. at_next _ _ _ _ _ _ _ _ _ _ _ _ c.read_payload-c.ensures c.if-c-eq0.false c.next_each.ensures.value
