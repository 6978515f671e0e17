use Rattle.resolution.proofs.ResolveLaws.{closed}
use Rattle.resolution.proofs.resolve.close_up.Goals as goal

pub returns-clause-value : goal.returns-clause-value
returns-clause-value c = λ t p e h. closed t p _ _ _ _ e (c.resolve_labels.ensures.value t p.marks (c.index_lines-chains.ensures.1 p.marks h)) (c.resolve_datum_indices.ensures.value t p.marks (c.index_lines-chains.ensures.1 p.marks h)) c.clean_up.ensures.value
