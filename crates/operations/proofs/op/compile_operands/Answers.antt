use Rattle.operations.proofs.OpLaws.{operands_of}
use Rattle.operations.proofs.op.compile_operands.Goals as goal

pub returns-clause-value : goal.returns-clause-value
returns-clause-value c = λ h. operands_of _ _ _ _ _ _ _ _ _ _ _ _ h c.compile_args-x.ensures.value c.emit.ensures.value
