use Rattle.transfers.proofs.LoadLaws.{load_empty, load_of}
use Rattle.transfers.proofs.loads.compile_load.Goals as goal

pub returns-then-c-eq0-clause-value : goal.returns-then-c-eq0-clause-value
returns-then-c-eq0-clause-value c = λ k. load_empty _ _ _ _ _ _ _ _ _ _ c.read_payload-c.ensures c.if-c-eq0.true

pub returns-clause-value : goal.returns-clause-value
returns-clause-value c = λ k. load_of _ _ _ _ _ _ _ _ _ _ _ _ _ _ c.read_payload-c.ensures c.if-c-eq0.false c.compile_typed-x.ensures.value c.load_node.ensures.value
