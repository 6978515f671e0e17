use Rattle.labels.proofs.MarkLaws.{label_is}
use Rattle.labels.proofs.chains.Chains.has_label.Goals as goal

pub returns : goal.returns
returns c = λ ms h i. rw (label_is _ _ _ ms h _ i _ c.word.ensures, c.from.ensures)
