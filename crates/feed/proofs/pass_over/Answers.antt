-- The numbers that were passed over, and one more.
use Rattle.std.proofs.Common.{[], ◌∷◌, ◌++◌, length-append, arith}
use Rattle.feed.proofs.Reading.{reads_more}
use Rattle.feed.proofs.pass_over.Goals as goal

pub loop-i-preserved : goal.loop-i-preserved
loop-i-preserved g c =
    let passed = c.loop-i.invariant.0 in (
      passed ++ c.in_ok-read_number.field-0 ∷ [],
      omega (arith, length-append passed (c.in_ok-read_number.field-0 ∷ []), c.loop-i.invariant.1),
      reads_more _ _ _ _ passed _ c.loop-i.invariant.2 c.in_ok-read_number.ensures,
    )
