use Rattle.transfers.proofs.LoadLaws.{node_bytes}
use Rattle.transfers.proofs.loads.load_node.Goals as goal

pub returns-then-all_bytes-clause-value : goal.returns-then-all_bytes-clause-value
returns-then-all_bytes-clause-value c = node_bytes _ _ _ _ _ _ _ _ _ _ _ _ _ _ c.if-n-eq0.false c.bad_bytes-x.ensures.value c.all_bytes.ensures c.if-all_bytes.true c.next_byte-first.ensures c.load_bytes.ensures.value c.emit.ensures.value
