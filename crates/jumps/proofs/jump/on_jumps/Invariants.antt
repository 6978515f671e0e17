use Rattle.recorder.specs.Word.{flag_of}
use Rattle.std.proofs.Common.{◌≡◌, ◌-◌, ℕ, List}
use Rattle.recorder.specs.Mem.{mem_r}
use Rattle.rules.specs.Stmt.{on_jumps}
use Rattle.jumps.specs.Parts.{on_targets_at}
use Rattle.recorder.specs.CodeGen.{mem_of, SameLoans}
use Rattle.jumps.proofs.jump.on_jumps.Given as goal

abbrev pub invariant-loop : goal.invariant-loop
invariant-loop l = (SameLoans l.initial.code l.code)
    × ((t : List ℕ) (base : ℕ) → on_jumps (mem_r t) t base (flag_of l.sub) (on_targets_at l.src.sheet.now (l.n - l.counter) l.p) (mem_of l.code) ≡ on_jumps (mem_r t) t base (flag_of l.sub) (on_targets_at l.src.sheet.now l.n l.at) (mem_of l.initial.code))
