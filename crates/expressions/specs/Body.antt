-- The contract's shape for a statement of one shape: what compiling it leaves, from the place behind its own range on.
use Rattle.std.specs.Prelude.{◌≡◌, List, ℕ}
use Rattle.recorder.specs.declared.word.Range.{Range}
use Rattle.recorder.specs.Mem.{Mem, mem_r}
use Rattle.sheet.specs.declared.form.Shape.{Shape}
use Rattle.sheet.specs.Shapes.{shape_fields}
use Rattle.sheet.specs.Skip.{skip_node, skip_fields}
use Rattle.sheet.specs.Tree.{Stmt, stmt_node}
use Rattle.rules.specs.Stmt.{compile_stmt}

-- the k-th case of StmtKind, of the shape, with its own range r and the place p behind it; its parts have `left` depths left.
-- q is the place behind the statement. `child` reads the statements of an IF: the other shapes have none.
pub record Body (s t : List ℕ) (base left : ℕ) (shape : Shape) (k : ℕ) (r : Range) (p : ℕ) (m m' : Mem) (q : ℕ) : Type 0 where
  pub place : q ≡ skip_fields s (skip_node s left) (shape_fields shape) p
  pub result : (child : ℕ → Stmt) → m' ≡ compile_stmt (mem_r t) t base (stmt_node s left child shape k r p) m
