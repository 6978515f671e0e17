use Rattle.declarations.proofs.PlaceLaws.{at_field}
use Rattle.declarations.proofs.field.compile_field.Goals as goal

pub returns-clause-value : goal.returns-clause-value
returns-clause-value c = λ k. at_field _ _ _ _ _ _ _ _ _ _ _ _ _ _ _ _ c.skip_expr-p.ensures c.read_payload-c.ensures c.field_each-x.ensures.value c.compile_typed.ensures.value c.emit.ensures.value
