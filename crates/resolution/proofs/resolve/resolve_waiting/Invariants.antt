use mathlib.Core.Path.{◌≡◌}
use mathlib.Core.List.{List}
use Prim.Native.Nat.{ℕ, ◌-◌}
use Rattle.recorder.specs.Marks.{Mark}
use Rattle.recorder.specs.Mem.{mem_r}
use Rattle.rules.specs.Program.{resolve}
use Rattle.labels.specs.Indexed.{Indexed}
use Rattle.recorder.specs.CodeGen.{mem_of, SameLoans}
use Rattle.resolution.proofs.resolve.resolve_waiting.Given as goal

abbrev pub invariant-loop-k : goal.invariant-loop-k
invariant-loop-k g l = (SameLoans l.initial.code l.code)
    × ((t : List ℕ) (ms : List Mark) → Indexed l.chains ms → resolve (mem_r t) g.T.Target.waiting ms l.k (l.k-end - l.k) (mem_of l.code) ≡ resolve (mem_r t) g.T.Target.waiting ms 0 l.k-end (mem_of l.initial.code))
