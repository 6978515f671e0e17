use Rattle.recorder.specs.Mem.{mem_r}
use Rattle.sheet.specs.Tree.{items_at, field_spec_at}
use Rattle.rules.specs.Stmt.{compile_fields}
use Rattle.declarations.specs.Parts.{pair_on}
use Rattle.expressions.proofs.Lists.{Turns}
use Rattle.declarations.proofs.field.field_each.Given as goal

abbrev pub invariant-loop : goal.invariant-loop
invariant-loop l =
    Turns l.src.sheet.now (pair_on l.src.sheet.now l.left)
    (λ k q. compile_fields (mem_r l.src.text.now) l.src.text.now l.src.base
    (items_at l.src.sheet.now (field_spec_at l.src.sheet.now l.left) (pair_on l.src.sheet.now l.left) k q))
    l.n l.counter l.at l.p l.initial.code l.code
