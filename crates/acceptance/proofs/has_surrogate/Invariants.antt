use Rattle.std.proofs.Common.{◌≡◌, drop}
use Rattle.recorder.specs.Word.{either}
use Rattle.sheet.specs.Check.{has_surrogate}
use Rattle.acceptance.proofs.has_surrogate.Given as goal

abbrev pub invariant-loop-u : goal.invariant-loop-u
invariant-loop-u l = either l.found (has_surrogate (drop l.u-index l.text)) ≡ has_surrogate l.text
