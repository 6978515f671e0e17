use Rattle.rules.specs.Expr.{like_node}
use Rattle.nodes.proofs.node.like_node.Goals as goal

pub returns-then-matches-clause-value : goal.returns-then-matches-clause-value
unfolding like_node
returns-then-matches-clause-value c = λ t base. rw (← c.matches.ensures, c.if-matches.true, ← c.like_type-ty.ensures, ← c.like_call.ensures.value t base)
