-- The contracts' shapes for jumps: options of targets and labels, ON's targets.
use Rattle.std.specs.Prelude.{List, ℕ}
use Rattle.sheet.specs.Tree.{Opt, absent, given, Target, OnTarget, items_at, on_target_at}
use Rattle.expressions.specs.Lists.{two_on}
use Rattle.std.specs.Prelude.{Option, Some, None}
use Rattle.recorder.specs.declared.word.Range.{Range}
use Rattle.recorder.specs.declared.label.Label.{Label}

-- the code's options of a jump's target, and of a label
abbrev pub target_of : Option (Range × Label) → Opt Target
target_of (Some (r, l)) = given (record { range = r; label = l.0 })
target_of None = absent

abbrev pub label_of : Option Label → Opt ℕ
label_of (Some l) = given l.0
label_of None = absent

-- n targets of an ON from a place on
abbrev pub on_targets_at : List ℕ → ℕ → ℕ → List OnTarget
on_targets_at s n at = items_at s (on_target_at s) (two_on s) n at
