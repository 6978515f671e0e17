-- Arguments from a place of the sheet on, as the contracts of lists speak of them.
use Rattle.std.specs.Prelude.{List, ℕ}
use Rattle.sheet.specs.declared.form.Sort.TheVariants.{Expr as exprSort}
use Rattle.sheet.specs.Skip.{skip_node}
use Rattle.sheet.specs.Tree.{Exprs, exprs_at, expr_at}

module _ (s : List ℕ) where
  -- n expressions from a place on
  abbrev pub args_at : ℕ → ℕ → ℕ → Exprs
  args_at left n at = exprs_at s (expr_at s left) (skip_node s left exprSort) n at
