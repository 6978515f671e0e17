use Rattle.transfers.proofs.OpenLaws.{with_len}
use Rattle.transfers.proofs.opens.open_node.Goals as goal

pub returns-clause-value : goal.returns-clause-value
returns-clause-value c = with_len _ _ _ _ _ _ _ _ _ _ _ _ _ _ _ c.is_absent.ensures c.if-is_absent.false c.behind-q.ensures c.range_at-lr.ensures (c.len_note.ensures.value c.args.src.now.text.now c.args.src.now.base) c.compile_typed-x.ensures.value (c.open_call.ensures.value c.args.src.now.text.now)
