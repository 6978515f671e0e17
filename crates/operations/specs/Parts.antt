-- The contracts' shapes for LOCATE's parts, and for statements by the number of their operands.
use Rattle.std.specs.Prelude.{◌≡◌, List, Bool, ℕ, zero, suc}
use Rattle.recorder.specs.Word.{pick, next, choose}
use Rattle.recorder.specs.Mem.{Mem, mem_r}
use Rattle.sheet.specs.declared.form.Sort.TheVariants.{Expr as exprSort}
use Rattle.sheet.specs.declared.form.Shape.{Shape}
use Rattle.sheet.specs.declared.form.Shape.TheVariants.{Op0, Op1, Op2, Op3}
use Rattle.sheet.specs.Form.{is_absent}
use Rattle.sheet.specs.Skip.{skip_node}
use Rattle.sheet.specs.Tree.{expr_at, opt_at}
use Rattle.rules.specs.Stmt.{locate_row, locate_column}

-- a part of LOCATE, which may be absent
pub record Located (s t : List ℕ) (base left : ℕ) (column : Bool) (at : ℕ) (m m' : Mem) (p : ℕ) : Type 0 where
  pub place : p ≡ choose (is_absent s at) (next s) (skip_node s left exprSort) at
  pub result :
      m' ≡ pick column (locate_column (mem_r t) t base (opt_at s (expr_at s left) at) m) (locate_row (mem_r t) t base (opt_at s (expr_at s left) at) m)

-- the shape of so many operands, three at most
abbrev pub shape_for : ℕ → Shape
shape_for zero = Op0
shape_for (suc zero) = Op1
shape_for (suc (suc zero)) = Op2
shape_for (suc (suc (suc n))) = Op3
