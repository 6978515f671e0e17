use Rattle.std.proofs.Common.{List}
use Rattle.recorder.specs.Marks.{Mark, data_of}
use Rattle.recorder.specs.Optional.{plus_one}
use Rattle.labels.specs.Indexed.{Indexed}
use Rattle.labels.proofs.MarkLaws.{start_search}
use Rattle.labels.proofs.MarkSearch.{data_or, Seeking}
use Rattle.labels.proofs.chains.Chains.find_datum.Given as goal

abbrev pub invariant-loop-next : goal.invariant-loop-next
invariant-loop-next l = (ms : List Mark) → Indexed l.self ms → Seeking (data_or l.label.0 (start_search l.datum)) l.label.0 l.self.chains ms (plus_one l.next) (data_of ms l.label.0)

abbrev pub decreases-loop-next : goal.decreases-loop-next
decreases-loop-next l = plus_one l.next
