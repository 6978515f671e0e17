use Rattle.std.proofs.Common.{ap}
use Rattle.recorder.specs.Optional.{plus_one}
use Rattle.labels.proofs.MarkLaws.{datum_start_lem, datum_link, datum_end}
use Rattle.labels.proofs.chains.Chains.find_datum.Goals as goal

pub loop-next-init : goal.loop-next-init
loop-next-init c = λ ms h. datum_start_lem _ _ _ _ ms h _ (c.head_of-next.ensures ms h)

pub loop-next-preserved : goal.loop-next-preserved
loop-next-preserved c = λ ms h. datum_link _ _ _ _ ms h _ _ _ _ _ _ (ap plus_one c.in-Some.is) (c.datum_of.ensures ms h) c.or-datum.ensures (c.before-next.ensures.link ms h) (c.loop-next.invariant ms h)

pub returns : goal.returns
returns c = λ ms h. datum_end _ _ _ _ ms h _ _ (ap plus_one c.in_default.is) (c.loop-next.invariant ms h)
