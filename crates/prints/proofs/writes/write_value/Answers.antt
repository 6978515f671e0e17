use Rattle.prints.proofs.WriteLaws.{value_kept, value_dropped}
use Rattle.prints.proofs.writes.write_value.Goals as goal

pub returns-then-is_kept-clause-value : goal.returns-then-is_kept-clause-value
returns-then-is_kept-clause-value c = λ t base d h e. value_kept t base c.args.more _ _ d _ _ _ _ _ c.is_kept.ensures c.if-is_kept.true c.emit_by.ensures.value h e

pub returns-else-is_kept-clause-value : goal.returns-else-is_kept-clause-value
returns-else-is_kept-clause-value c = λ t base d h e. value_dropped t base _ c.args.more _ _ d _ _ _ _ _ c.is_kept.ensures c.if-is_kept.false c.note.ensures.value c.emit_by-else-is_kept.ensures.value h e
