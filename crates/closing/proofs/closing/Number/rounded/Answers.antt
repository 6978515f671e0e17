use native.Mathlib.Omega.{arith}
use Rattle.closing.proofs.ClosingLaws.{nearest_bound, rounded_low, rounded_whole, rounded_same, rounded_next}
use Rattle.closing.proofs.closing.Number.rounded.Goals as goal

pub returns-then-e-lt-ONE_HALF : goal.returns-then-e-lt-ONE_HALF
returns-then-e-lt-ONE_HALF c = rounded_low _ _ c.if-e-lt-ONE_HALF.true

pub returns-then-e-ge-BIAS : goal.returns-then-e-ge-BIAS
returns-then-e-ge-BIAS c = rounded_whole _ _ c.if-e-lt-ONE_HALF.false c.if-e-ge-BIAS.true

pub overflow_add-whole : goal.overflow_add-whole
overflow_add-whole c = omega (arith, c.unit_of-unit.ensures.2)

pub nonzero_div-whole-2 : goal.nonzero_div-whole-2
nonzero_div-whole-2 c = omega (arith, c.unit_of-unit.ensures.1)

pub overflow_mul-whole : goal.overflow_mul-whole
overflow_mul-whole c = omega (arith, nearest_bound c.args.self.m c.unit_of-unit.result c.unit_of-unit.ensures.1 c.unit_of-unit.ensures.2 (omega arith))

pub returns-then-whole-lt-WORD_SIZE : goal.returns-then-whole-lt-WORD_SIZE
returns-then-whole-lt-WORD_SIZE c = rounded_same _ _ _ c.if-e-lt-ONE_HALF.false c.if-e-ge-BIAS.false c.unit_of-unit.ensures.0 c.if-whole-lt-WORD_SIZE.true

pub overflow_cast-result-2 : goal.overflow_cast-result-2
overflow_cast-result-2 c = omega (arith, nearest_bound c.args.self.m c.unit_of-unit.result c.unit_of-unit.ensures.1 c.unit_of-unit.ensures.2 (omega arith))

pub returns : goal.returns
returns c = rounded_next _ _ _ c.if-e-lt-ONE_HALF.false c.if-e-ge-BIAS.false c.unit_of-unit.ensures.0 c.if-whole-lt-WORD_SIZE.false
