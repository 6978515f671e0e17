use borrow.Author.Rules.{rules}
use Rattle.std.proofs.Common.{◌∙◌, refl, arith}
use Rattle.program.proofs.LineLaws.{going_start, going_on, going_done}
use Rattle.program.proofs.line.compile_prog.Goals as goal

pub loop-line-init : goal.loop-line-init
loop-line-init c = ((refl, refl, refl), refl, going_start _ c.args.text.now _ _ _ _ c.payload_at-count.ensures c.behind-at.ensures)

pub loop-line-preserved : goal.loop-line-preserved
loop-line-preserved c = (
  search rules,
  c.compile_line-c.auto.work ∙ c.loop-line.invariant.1,
  going_on _ _ _ _ _ _ _ _ _ _ _ _ (omega (arith, c.loop-line-test.true)) c.compile_line-c.ensures.value c.compile_line-c.auto.work c.loop-line.invariant.2,
)

pub returns-clause-value : goal.returns-clause-value
returns-clause-value c = going_done _ _ _ _ _ _ _ _ _ (omega (arith, c.loop-line-test.false)) c.loop-line.invariant.2
