-- The contracts' shapes: what compiling a statement, an IF and a list of statements at a place of the sheet leaves in memory.
use Rattle.std.specs.Prelude.{◌≡◌, List, ℕ}
use Rattle.recorder.specs.declared.word.Range.{Range}
use Rattle.recorder.specs.Word.{payload_at, next}
use Rattle.recorder.specs.Mem.{Mem, mem_r}
use Rattle.sheet.specs.declared.form.Sort.TheVariants.{Expr as exprSort, Stmt as stmtSort}
use Rattle.sheet.specs.declared.form.Shape.TheVariants.{If}
use Rattle.sheet.specs.Shapes.{shape_fields}
use Rattle.sheet.specs.Skip.{skip_node, skip_list, skip_fields}
use Rattle.sheet.specs.Tree.{expr_at, stmt_at, stmts_at, if_at}
use Rattle.rules.specs.declared.types.«Type».TheVariants.{Real}
use Rattle.rules.specs.Expr.{compile_typed}
use Rattle.rules.specs.Stmt.{compile_stmt, compile_stmts, if_jump}

-- an IF's condition and its jump, which stands at `jump`
pub record IfHead (s t : List ℕ) (base left : ℕ) (r : Range) (at : ℕ) (m m' : Mem) (q jump : ℕ) : Type 0 where
  pub place : q ≡ skip_node s left exprSort at
  pub jump_is : jump ≡ (mem_r t).count (compile_typed (mem_r t) t base Real (expr_at s left at) m)
  pub result : m' ≡ if_jump (mem_r t) t base r (compile_typed (mem_r t) t base Real (expr_at s left at) m)

-- an IF of range r, its parts at p
pub record IfBody (s t : List ℕ) (base left : ℕ) (r : Range) (p : ℕ) (m m' : Mem) (q : ℕ) : Type 0 where
  pub place : q ≡ skip_fields s (skip_node s left) (shape_fields If) p
  pub result : m' ≡ compile_stmt (mem_r t) t base (if_at s left (stmt_at s left) r p) m

-- the statement at a place, with `left` depths left
pub record CompiledStmt (s t : List ℕ) (base left at : ℕ) (m m' : Mem) (q : ℕ) : Type 0 where
  pub place : q ≡ skip_node s left stmtSort at
  pub result : m' ≡ compile_stmt (mem_r t) t base (stmt_at s left at) m

-- a count, and so many statements
pub record CompiledStmts (s t : List ℕ) (base left at : ℕ) (m m' : Mem) (q : ℕ) : Type 0 where
  pub place : q ≡ skip_list s (skip_node s left stmtSort) at
  pub result : m' ≡ compile_stmts (mem_r t) t base (stmts_at s (stmt_at s left) (skip_node s left stmtSort) (payload_at s at) (next s at)) m
