use Rattle.std.proofs.Common.{arith}
use Rattle.loops.proofs.LoopLaws.{sym_small}
use Rattle.loops.proofs.for_loop.next_one.Goals as goal

pub overflow_add-y : goal.overflow_add-y
overflow_add-y c = omega (arith, sym_small _ _ _ _ _ _ _ c.compile_sym-y.ensures.value)
