use Rattle.recorder.specs.Mem.{mem_r}
use Rattle.sheet.specs.Tree.{items_at, datum_at}
use Rattle.rules.specs.Stmt.{compile_data}
use Rattle.expressions.specs.Lists.{two_on}
use Rattle.expressions.proofs.Lists.{Turns}
use Rattle.declarations.proofs.data.data_each.Given as goal

abbrev pub invariant-loop : goal.invariant-loop
invariant-loop l =
    Turns l.src.sheet.now (two_on l.src.sheet.now)
    (λ k q. compile_data (mem_r l.src.text.now) l.src.text.now l.src.base (items_at l.src.sheet.now (datum_at l.src.sheet.now) (two_on l.src.sheet.now) k q))
    l.n l.counter l.at l.p l.initial.code l.code
