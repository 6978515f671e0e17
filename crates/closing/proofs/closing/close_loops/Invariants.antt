use Rattle.std.proofs.Common.{◌≡◌, ◌-◌, length}
use Rattle.recorder.specs.Mem.{whiles_from, top_from, delays_from}
use Rattle.closing.proofs.OnePass.{Rest}
use Rattle.closing.proofs.closing.close_loops.Given as goal

abbrev pub invariant-loop-k : goal.invariant-loop-k
invariant-loop-k l = Rest l.list l.top l.k (l.n - l.k) (delays_from (whiles_from l.initial.list 0 0 l.n) 0 l.n) (top_from l.initial.list 0 0 l.n) × (length l.list ≡ length l.initial.list)
