-- Arguments too many: one law for each way out.
use mathlib.Core.Path.{◌≡◌, refl}
use mathlib.Core.List.{List}
use Prim.Native.Nat.{ℕ, zero, suc, ◌-◌}
use native.Mathlib.Numerals.{sub-one}
use Rattle.recorder.specs.Mem.{Mem, mem_r}
use Rattle.sheet.specs.Tree.{Expr, Exprs, more, expr_range}
use Rattle.rules.specs.Stmt.{surplus_notes}
use Rattle.expressions.specs.Surplus.{surplus_note}

pub surplus_more : (t : List ℕ) (base keep : ℕ) (e : Expr) (es : Exprs) (m : Mem)
    → surplus_notes (mem_r t) t base keep (more e es) m ≡ surplus_notes (mem_r t) t base (keep - 1) es (surplus_note t keep (expr_range e) m)
unfolding surplus_notes
surplus_more t base zero e es m = refl
surplus_more t base (suc n) e es m = rw sub-one
