use Rattle.std.proofs.Common.{◌≡◌, ◌-◌}
use Rattle.recorder.specs.Mem.{mem_r}
use Rattle.sheet.specs.Args.{args_at}
use Rattle.rules.specs.Stmt.{load_bytes}
use Rattle.recorder.specs.CodeGen.{mem_of, SameLoans}
use Rattle.transfers.proofs.loads.load_bytes.Given as goal

abbrev pub invariant-loop : goal.invariant-loop
invariant-loop v = (SameLoans v.initial.code v.code) × (load_bytes (mem_r v.src.text.now) v.src.text.now v.src.base (args_at v.src.sheet.now v.left (v.n - v.counter) v.p) (mem_of v.code)
    ≡ load_bytes (mem_r v.src.text.now) v.src.text.now v.src.base (args_at v.src.sheet.now v.left v.n v.at) (mem_of v.initial.code))
