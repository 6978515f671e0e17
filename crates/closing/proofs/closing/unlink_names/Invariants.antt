use Rattle.std.proofs.Common.{◌≡◌, ◌-◌, length}
use Rattle.recorder.specs.Mem.{unlink_from}
use Rattle.closing.proofs.closing.unlink_names.Given as goal

abbrev pub invariant-loop-k : goal.invariant-loop-k
invariant-loop-k l = (unlink_from l.book l.k (l.known - l.k) ≡ unlink_from l.initial.book 0 l.known) × (length l.book ≡ length l.initial.book)
