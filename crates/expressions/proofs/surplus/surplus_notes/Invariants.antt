use Rattle.std.proofs.Common.{◌≡◌, ◌-◌, ℕ, List}
use Rattle.recorder.specs.Mem.{mem_r}
use Rattle.sheet.specs.Args.{args_at}
use Rattle.rules.specs.Stmt.{surplus_notes}
use Rattle.recorder.specs.CodeGen.{mem_of, SameLoans}
use Rattle.expressions.proofs.surplus.surplus_notes.Given as goal

abbrev pub invariant-loop-i : goal.invariant-loop-i
invariant-loop-i v = (SameLoans v.initial.code v.code)
    × ((t : List ℕ) (base : ℕ) → surplus_notes (mem_r t) t base (v.max - v.i) (args_at v.src.sheet.now v.left (v.n - v.i) v.p) (mem_of v.code) ≡ surplus_notes (mem_r t) t base v.max (args_at v.src.sheet.now v.left v.n v.at) (mem_of v.initial.code))
