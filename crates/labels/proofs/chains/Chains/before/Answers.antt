use Rattle.labels.proofs.MarkLaws.{link_low}
use Rattle.labels.proofs.chains.Chains.before.Goals as goal

pub returns-then-line-link-clause-link : goal.returns-then-line-link-clause-link
returns-then-line-link-clause-link c = λ ms h i. absurd (link_low _ _ _ ms h _ i _ c.word-link.ensures c.if-line-link.true)
