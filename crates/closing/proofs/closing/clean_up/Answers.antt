use Rattle.closing.proofs.OnePass.{clean_done}
use Rattle.closing.proofs.closing.clean_up.Goals as goal

pub returns-clause-value : goal.returns-clause-value
returns-clause-value c = clean_done _ _ _ _ _ _ _ _ c.known-known.ensures c.unlink_names.ensures c.present_of-n.ensures c.close_loops-top.ensures c.open_whiles.ensures.value c.emit.ensures.value
