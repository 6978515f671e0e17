use borrow.Author.Rules.{rules}
use Rattle.std.proofs.Common.{arith}
use Rattle.sheet.specs.Tree.{items_at}
use Rattle.rules.specs.Stmt.{on_jumps}
use Rattle.expressions.proofs.Lists.{turns}
use Rattle.jumps.proofs.jump.on_jumps.Goals as goal

pub loop-preserved : goal.loop-preserved
unfolding items_at on_jumps
loop-preserved c = (search rules, λ t base. grind (arith, turns, c.loop.invariant.1 t base, c.on_jump.ensures.value t base))

pub returns-clause-value : goal.returns-clause-value
unfolding items_at on_jumps
returns-clause-value c = λ t base. grind (arith, turns, c.loop.invariant.1 t base)
