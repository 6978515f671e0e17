use mathlib.Core.List.{List}
use Rattle.recorder.specs.Marks.{Mark}
use Rattle.labels.specs.MarksIn.{MarksIn}
use Rattle.labels.specs.Chains.{Chained}
use Rattle.labels.proofs.chains.put_in_chains.Given as goal

abbrev pub invariant-loop-k : goal.invariant-loop-k
invariant-loop-k l = (ms : List Mark) → MarksIn l.initial.work l.n ms → Chained l.work l.lines l.chains l.k ms
