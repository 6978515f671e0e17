use Rattle.rules.specs.Expr.{func_notes}
use Rattle.nodes.proofs.node.func_notes.Goals as goal

pub returns-clause-value : goal.returns-clause-value
unfolding func_notes
returns-clause-value c = λ t base. rw (← c.tab_note.ensures.value t base) (c.arity_notes.ensures.value t base)
