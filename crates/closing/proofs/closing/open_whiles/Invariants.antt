use Rattle.std.proofs.Common.{◌≡◌, ◌-◌}
use Rattle.recorder.specs.Mem.{open_from}
use Rattle.recorder.specs.CodeGen.{mem_of, SameLoans}
use Rattle.closing.specs.Parts.{passed_of}
use Rattle.closing.proofs.closing.open_whiles.Given as goal

abbrev pub invariant-loop : goal.invariant-loop
invariant-loop l = (SameLoans l.initial.code l.code) × (l.code.book.now ≡ l.initial.code.book.now)
    × (open_from (passed_of (mem_of l.code)) l.t (l.n - l.counter) ≡ open_from (passed_of (mem_of l.initial.code)) l.top l.n)
