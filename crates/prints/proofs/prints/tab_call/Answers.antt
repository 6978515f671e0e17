use Rattle.prints.proofs.PrintLaws.{tab_of}
use Rattle.prints.proofs.prints.tab_call.Goals as goal

pub returns-clause-value : goal.returns-clause-value
returns-clause-value c = tab_of _ _ _ _ _ _ _ _ _ _ _ _ _ _ _ _ c.behind-q.ensures c.read_payload-f.ensures c.read_payload-c.ensures (c.surplus_notes.ensures.value _ _) c.compile_args-x.ensures.value (c.tab_emit.ensures.value c.args.src.now.text.now)
