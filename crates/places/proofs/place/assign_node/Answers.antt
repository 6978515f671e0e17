use Rattle.rules.specs.Stmt.{assign_node}
use Rattle.places.proofs.place.assign_node.Goals as goal

pub returns-clause-value : goal.returns-clause-value
unfolding assign_node
returns-clause-value c = λ t base. rw (c.assign_call.ensures.value t base, c.fits_note.ensures.value, c.matches-fits.ensures)
