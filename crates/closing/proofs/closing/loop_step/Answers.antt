use Rattle.closing.proofs.OnePass.{loop_delay, loop_while, loop_other}
use Rattle.closing.proofs.closing.loop_step.Goals as goal

pub returns-in-3 : goal.returns-in-3
returns-in-3 c = loop_delay _ _ _ _ _ c.call_of.ensures c.in-3.is c.delay_step.ensures

pub returns-in-2 : goal.returns-in-2
returns-in-2 c = loop_while _ _ _ _ _ _ c.call_of.ensures c.in-2.is c.while_step.ensures

pub returns-in_default : goal.returns-in_default
returns-in_default c = let q = c.in_default.in_default-own.rest in loop_other _ _ _ _ c.call_of.ensures q.0.1 q.1
