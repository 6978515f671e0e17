use borrow.Author.Rules.{rules}
use Rattle.closing.proofs.ClosingLaws.{open_step_lem, open_stop, open_end}
use Rattle.closing.proofs.closing.open_whiles.Goals as goal

pub returns-then-t-eq0-clause-value : goal.returns-then-t-eq0-clause-value
returns-then-t-eq0-clause-value c = open_stop _ _ _ c.loop.counter _ _ c.loop-test.true c.loop.invariant.1 c.loop.invariant.2 c.if-t-eq0.true

pub loop-preserved : goal.loop-preserved
loop-preserved c = (search rules, search rules, open_step_lem _ _ _ _ _ c.loop.counter _ _ c.loop-test.true c.loop.invariant.2 c.if-t-eq0.false c.code_word-t.ensures c.open_note.ensures.value c.set_b_at.ensures)

pub returns-clause-value : goal.returns-clause-value
returns-clause-value c = open_end _ _ _ c.loop.counter _ _ c.loop-test.false c.loop.invariant.1 c.loop.invariant.2
