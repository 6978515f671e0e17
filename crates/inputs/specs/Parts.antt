-- The contracts' shapes for INPUT's variables.
use Rattle.std.specs.Prelude.{◌≡◌, List, Bool, ℕ}
use Rattle.recorder.specs.Mem.{Mem, mem_r}
use Rattle.sheet.specs.declared.form.Sort.TheVariants.{Expr as exprSort}
use Rattle.sheet.specs.Skip.{skip_node, skip_repeat}
use Rattle.sheet.specs.Tree.{expr_at}
use Rattle.sheet.specs.Args.{args_at}
use Rattle.rules.specs.Stmt.{input_var, input_vars}

-- a variable of INPUT at a place, and whether it is read from a file; n of them from a place on
pub record Taken (s t : List ℕ) (base left at : ℕ) (b : Bool) (m m' : Mem) (p : ℕ) : Type 0 where
  pub place : p ≡ skip_node s left exprSort at
  pub result : m' ≡ input_var (mem_r t) t base b (expr_at s left at) m

pub record TakenAll (s t : List ℕ) (base left at n : ℕ) (b : Bool) (m m' : Mem) (p : ℕ) : Type 0 where
  pub place : p ≡ skip_repeat s (skip_node s left exprSort) n at
  pub result : m' ≡ input_vars (mem_r t) t base b (args_at s left n at) m
