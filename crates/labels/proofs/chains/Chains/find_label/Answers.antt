use Rattle.std.proofs.Common.{ap}
use Rattle.recorder.specs.Optional.{plus_one}
use Rattle.labels.proofs.MarkLaws.{target_start, target_link, target_here, target_none}
use Rattle.labels.proofs.chains.Chains.find_label.Goals as goal

pub loop-next-init : goal.loop-next-init
loop-next-init c = λ ms h. target_start _ _ _ _ ms h _ (c.head_of-next.ensures ms h)

pub returns-then-has_label : goal.returns-then-has_label
returns-then-has_label c = λ ms h. target_here _ _ _ _ ms h _ _ _ (ap plus_one c.in-Some.is) (c.has_label.ensures ms h) (c.loop-next.invariant ms h) _ c.if-has_label.true c.word.ensures

pub loop-next-preserved : goal.loop-next-preserved
loop-next-preserved c = λ ms h. target_link _ _ _ _ ms h _ _ _ (ap plus_one c.in-Some.is) (c.has_label.ensures ms h) (c.loop-next.invariant ms h) _ c.if-has_label.false (c.before-next.ensures.link ms h)

pub returns : goal.returns
returns c = λ ms h. target_none _ _ _ _ ms h _ (ap plus_one c.in_default.is) (c.loop-next.invariant ms h)
