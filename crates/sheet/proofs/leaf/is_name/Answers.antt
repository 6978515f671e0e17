use Rattle.sheet.specs.Form.{is_name}
use Rattle.sheet.proofs.Names.{name_first}
use Rattle.sheet.proofs.leaf.is_name.Goals as goal

pub returns-then-is_letter : goal.returns-then-is_letter
returns-then-is_letter c = rw (c.in-Some.ensures.cases.0, ← name_first c.in-Some.first.now c.in-Some.tail.now, ← c.is_letter.ensures, c.if-is_letter.true) c.name_tail.ensures

pub returns-else-is_letter : goal.returns-else-is_letter
returns-else-is_letter c = rw (c.in-Some.ensures.cases.0, ← name_first c.in-Some.first.now c.in-Some.tail.now, ← c.is_letter.ensures, c.if-is_letter.false)

pub returns-in-None : goal.returns-in-None
unfolding is_name
returns-in-None c = rw c.in-None.ensures.cases
