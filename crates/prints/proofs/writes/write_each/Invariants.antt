use Rattle.recorder.specs.Word.{next, flag_of}
use Rattle.recorder.specs.Mem.{mem_r}
use Rattle.sheet.specs.declared.form.Sort.TheVariants.{Expr as exprSort}
use Rattle.sheet.specs.Skip.{skip_node}
use Rattle.sheet.specs.Tree.{items_at, write_element_at}
use Rattle.rules.specs.Stmt.{write_each}
use Rattle.expressions.proofs.Lists.{Turns}
use Rattle.prints.proofs.writes.write_each.Given as goal

abbrev pub invariant-loop-i : goal.invariant-loop-i
invariant-loop-i l =
    Turns l.src.sheet.now (λ z. next l.src.sheet.now (skip_node l.src.sheet.now l.left exprSort z))
    (λ k q. write_each (mem_r l.src.text.now) l.src.text.now l.src.base (flag_of l.file)
    (items_at l.src.sheet.now (write_element_at l.src.sheet.now l.left) (λ z. next l.src.sheet.now (skip_node l.src.sheet.now l.left exprSort z)) k q))
    l.n l.i l.at l.p l.initial.code l.code
