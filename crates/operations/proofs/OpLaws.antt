-- A statement of operands makes one record behind them.
use mathlib.Core.Path.{◌≡◌}
use mathlib.Core.List.{List}
use Prim.Native.Nat.{ℕ, zero, suc, ◌≤◌}
use native.Mathlib.Omega.{arith}
use Rattle.recorder.specs.declared.word.Range.{Range}
use Rattle.recorder.specs.Mem.{Mem, mem_r}
use Rattle.sheet.specs.Skip.{skip_repeat, skip_fields, skip_field, skip_times, skip_pair, skip_item}
use Rattle.sheet.specs.Tree.{exprs_at, stmt_node}
use Rattle.rules.specs.declared.tables.Wants.TheVariants.{Operands}
use Rattle.rules.specs.Expr.{compile_args}
use Rattle.rules.specs.Stmt.{compile_stmt}
use Rattle.nodes.specs.Compiled.{CompiledArgs}
use Rattle.expressions.specs.Body.{Body}
use Rattle.operations.specs.Parts.{shape_for}

pub operands_of : (s t : List ℕ) (base left n k : ℕ) (r : Range) (p q : ℕ) (m m1 m2 : Mem) → n ≤ 3 → CompiledArgs s t base left p n (Operands k) m m1 q → m2 ≡ (mem_r t).emit m1 2 r k n 0
    → Body s t base left (shape_for n) k r p m m2 q
unfolding stmt_node compile_stmt compile_args exprs_at skip_repeat skip_fields skip_field skip_times skip_pair skip_item
operands_of s t base left zero k r p q m m1 m2 h x e = record { place = x.place; result = λ child. rw (e, x.result) }
operands_of s t base left (suc zero) k r p q m m1 m2 h x e = record { place = x.place; result = λ child. rw (e, x.result) }
operands_of s t base left (suc (suc zero)) k r p q m m1 m2 h x e = record { place = x.place; result = λ child. rw (e, x.result) }
operands_of s t base left (suc (suc (suc zero))) k r p q m m1 m2 h x e = record { place = x.place; result = λ child. rw (e, x.result) }
operands_of s t base left (suc (suc (suc (suc n)))) k r p q m m1 m2 h x e = absurd (omega arith)
