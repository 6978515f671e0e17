use native.Mathlib.Omega.{arith}
use Rattle.closing.proofs.ClosingLaws.{pow_small}
use Rattle.closing.proofs.closing.unit_of.Goals as goal

pub returns : goal.returns
returns c = pow_small _ _ c.pow.ensures (omega (arith, c.requires.0))
