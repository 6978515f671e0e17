use Rattle.std.proofs.Common.{◌≡◌, length}
use Rattle.program.proofs.LineLaws.{Going}
use Rattle.recorder.specs.CodeGen.{mem_of, SameLoans}
use Rattle.program.proofs.line.compile_prog.Given as goal

abbrev pub invariant-loop-line : goal.invariant-loop-line
invariant-loop-line l = (SameLoans l.initial.code l.code) × (length l.work ≡ length l.initial.work)
    × Going l.sheet l.text l.count l.line l.c (mem_of l.initial.code) (mem_of l.code) l.initial.work l.work
