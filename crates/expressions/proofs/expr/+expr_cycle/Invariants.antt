use Rattle.std.proofs.Common.{◌≡◌, ◌+◌, ◌-◌, ◌*◌}
use Rattle.recorder.specs.Mem.{mem_r}
use Rattle.sheet.specs.declared.form.Sort.TheVariants.{Expr as exprSort}
use Rattle.sheet.specs.Skip.{skip_node, skip_repeat}
use Rattle.sheet.specs.Args.{args_at}
use Rattle.rules.specs.Wants.{wanted_by}
use Rattle.rules.specs.Expr.{compile_args}
use Rattle.recorder.specs.CodeGen.{mem_of, SameLoans}
use Rattle.expressions.proofs.expr.+expr_cycle.Given as goal

abbrev pub decreases-compile_args : goal.decreases-compile_args
decreases-compile_args l = 2 * l.left + 1

abbrev pub decreases-compile_expr : goal.decreases-compile_expr
decreases-compile_expr l = 2 * l.left

abbrev pub invariant-compile_args-loop-i : goal.invariant-compile_args-loop-i
invariant-compile_args-loop-i l = (SameLoans l.initial.code l.code)
    × (skip_repeat l.src.sheet.now (skip_node l.src.sheet.now l.left exprSort) (l.n - l.i) l.p ≡ skip_repeat l.src.sheet.now (skip_node l.src.sheet.now l.left exprSort) l.n l.at)
    × (compile_args (mem_r l.src.text.now) l.src.text.now l.src.base (wanted_by l.wants) l.i (args_at l.src.sheet.now l.left (l.n - l.i) l.p) (mem_of l.code) ≡ compile_args (mem_r l.src.text.now) l.src.text.now l.src.base (wanted_by l.wants) 0 (args_at l.src.sheet.now l.left l.n l.at) (mem_of l.initial.code))
