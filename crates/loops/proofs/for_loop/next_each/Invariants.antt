use Rattle.recorder.specs.Word.{range_at, next}
use Rattle.recorder.specs.Mem.{mem_r}
use Rattle.sheet.specs.Tree.{items_at, opt_at}
use Rattle.rules.specs.Stmt.{next_each}
use Rattle.expressions.proofs.Lists.{Turns}
use Rattle.loops.proofs.for_loop.next_each.Given as goal

abbrev pub invariant-loop : goal.invariant-loop
invariant-loop l =
    Turns l.src.sheet.now (next l.src.sheet.now)
    (λ k q. next_each (mem_r l.src.text.now) l.src.text.now l.src.base l.n l.r
    (items_at l.src.sheet.now (opt_at l.src.sheet.now (range_at l.src.sheet.now)) (next l.src.sheet.now) k q))
    l.n l.counter l.at l.p l.initial.code l.code
