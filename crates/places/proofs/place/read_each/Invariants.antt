use Rattle.recorder.specs.Mem.{mem_r}
use Rattle.sheet.specs.declared.form.Sort.TheVariants.{Place as placeSort}
use Rattle.sheet.specs.Skip.{skip_node}
use Rattle.sheet.specs.Tree.{expr_at, exprs_at}
use Rattle.rules.specs.Stmt.{compile_read}
use Rattle.expressions.proofs.Lists.{Turns}
use Rattle.places.proofs.place.read_each.Given as goal

abbrev pub invariant-loop : goal.invariant-loop
invariant-loop l =
    Turns l.src.sheet.now (skip_node l.src.sheet.now l.left placeSort)
    (λ k q. compile_read (mem_r l.src.text.now) l.src.text.now l.src.base
    (exprs_at l.src.sheet.now (expr_at l.src.sheet.now l.left) (skip_node l.src.sheet.now l.left placeSort) k q))
    l.n l.counter l.at l.p l.initial.code l.code
