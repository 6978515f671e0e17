use Rattle.recorder.specs.Mem.{mem_r}
use Rattle.sheet.specs.declared.form.Sort.TheVariants.{Expr as exprSort}
use Rattle.sheet.specs.Skip.{skip_node}
use Rattle.sheet.specs.Args.{args_at}
use Rattle.rules.specs.Stmt.{input_vars}
use Rattle.expressions.proofs.Lists.{Turns}
use Rattle.inputs.proofs.input.input_vars.Given as goal

abbrev pub invariant-loop : goal.invariant-loop
invariant-loop l =
    Turns l.src.sheet.now (skip_node l.src.sheet.now l.left exprSort)
    (λ k q. input_vars (mem_r l.src.text.now) l.src.text.now l.src.base l.file (args_at l.src.sheet.now l.left k q))
    l.n l.counter l.at l.p l.initial.code l.code
