use Rattle.std.proofs.Common.{◌+◌, ◌*◌}
use Rattle.recorder.specs.Mem.{mem_r}
use Rattle.sheet.specs.declared.form.Sort.TheVariants.{Stmt as stmtSort}
use Rattle.sheet.specs.Skip.{skip_node}
use Rattle.sheet.specs.Tree.{stmt_at, stmts_at}
use Rattle.rules.specs.Stmt.{compile_stmts}
use Rattle.expressions.proofs.Lists.{Turns}
use Rattle.statements.proofs.stmt.+stmt_cycle.Given as goal

abbrev pub decreases-compile_if : goal.decreases-compile_if
decreases-compile_if l = 3 * l.left + 2

abbrev pub decreases-compile_stmt : goal.decreases-compile_stmt
decreases-compile_stmt l = 3 * l.left

abbrev pub decreases-compile_stmts : goal.decreases-compile_stmts
decreases-compile_stmts l = 3 * l.left + 1

abbrev pub invariant-compile_stmts-loop : goal.invariant-compile_stmts-loop
invariant-compile_stmts-loop l =
    Turns l.src.sheet.now (skip_node l.src.sheet.now l.left stmtSort)
    (λ k q. compile_stmts (mem_r l.src.text.now) l.src.text.now l.src.base
    (stmts_at l.src.sheet.now (stmt_at l.src.sheet.now l.left) (skip_node l.src.sheet.now l.left stmtSort) k q))
    l.end l.counter l.initial.p l.p l.initial.code l.code
