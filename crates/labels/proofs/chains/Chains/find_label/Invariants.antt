use Rattle.std.proofs.Common.{List}
use Rattle.recorder.specs.Marks.{Mark, addr_of}
use Rattle.recorder.specs.Optional.{plus_one}
use Rattle.labels.specs.Indexed.{Indexed}
use Rattle.labels.proofs.MarkSearch.{addrs, Seeking}
use Rattle.labels.proofs.chains.Chains.find_label.Given as goal

abbrev pub invariant-loop-next : goal.invariant-loop-next
invariant-loop-next l = (ms : List Mark) → Indexed l.self ms → Seeking (addrs l.label.0) l.label.0 l.self.chains ms (plus_one l.next) (addr_of ms l.label.0)

abbrev pub decreases-loop-next : goal.decreases-loop-next
decreases-loop-next l = plus_one l.next
