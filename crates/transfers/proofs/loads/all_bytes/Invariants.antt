use Rattle.std.proofs.Common.{◌≡◌, ◌-◌}
use Rattle.recorder.specs.Mem.{mem_r}
use Rattle.sheet.specs.Args.{args_at}
use Rattle.rules.specs.Stmt.{all_bytes}
use Rattle.transfers.proofs.loads.all_bytes.Given as goal

abbrev pub invariant-loop : goal.invariant-loop
invariant-loop l = all_bytes (mem_r l.src.text.now) l.src.text.now l.src.base (args_at l.src.sheet.now l.left (l.n - l.counter) l.p) ≡ all_bytes (mem_r l.src.text.now) l.src.text.now l.src.base (args_at l.src.sheet.now l.left l.n l.at)
