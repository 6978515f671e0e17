use mathlib.Core.Path.{◌∙◌}
use Rattle.compiler.proofs.CompileLaws.{from_zeros, whole_full, whole_no_room, whole_sized}
use Rattle.compiler.proofs.compile_accepted.Goals as goal

pub returns-then-code-clause-value : goal.returns-then-code-clause-value
returns-then-code-clause-value c = λ n hs hf. whole_full _ _ _ _ _ _ _ _ (from_zeros _ _ _ _ _ _ _ _ _ n c.clear_all.ensures.value c.clear_all.ensures.work c.compile_prog-n.ensures.value hs hf) (c.compile_prog-n.auto.work ∙ c.clear_all.auto.work) c.if-code.true c.refuse.ensures.value

pub returns-then-most_records-code-clause-value : goal.returns-then-most_records-code-clause-value
returns-then-most_records-code-clause-value c = λ n hs hf. whole_no_room _ _ _ _ _ _ _ _ (from_zeros _ _ _ _ _ _ _ _ _ n c.clear_all.ensures.value c.clear_all.ensures.work c.compile_prog-n.ensures.value hs hf) (c.compile_prog-n.auto.work ∙ c.clear_all.auto.work) _ c.if-code.false c.most_records.ensures c.if-most_records-code.true c.refuse-then-most_records-code.ensures.value

pub returns-clause-value : goal.returns-clause-value
returns-clause-value c = λ n hs hf. whole_sized _ _ _ _ _ _ _ _ (from_zeros _ _ _ _ _ _ _ _ _ n c.clear_all.ensures.value c.clear_all.ensures.work c.compile_prog-n.ensures.value hs hf) (c.close_up.auto.work ∙ c.compile_prog-n.auto.work ∙ c.clear_all.auto.work) _ _ c.if-code.false c.most_records.ensures c.if-most_records-code.false c.close_up.ensures.value c.sized_up.ensures.value
