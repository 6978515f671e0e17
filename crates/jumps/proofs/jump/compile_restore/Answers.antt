use Rattle.jumps.proofs.JumpLaws.{restore_of}
use Rattle.jumps.proofs.jump.compile_restore.Goals as goal

pub returns-clause-value : goal.returns-clause-value
returns-clause-value c = λ t base left k. restore_of c.args.src.now.sheet.now t base left k _ _ _ c.target_at-o.result _ _ c.target_at-o.ensures (c.restore_node.ensures.value t base) c.behind_target.ensures
