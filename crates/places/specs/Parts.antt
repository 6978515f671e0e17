-- The contract's shape for READ's places.
use Rattle.std.specs.Prelude.{◌≡◌, List, ℕ}
use Rattle.recorder.specs.Mem.{Mem, mem_r}
use Rattle.sheet.specs.declared.form.Sort.TheVariants.{Place as placeSort}
use Rattle.sheet.specs.Skip.{skip_node, skip_repeat}
use Rattle.sheet.specs.Tree.{expr_at, exprs_at}
use Rattle.rules.specs.Stmt.{compile_read}

-- n places of a READ
pub record ReadEach (s t : List ℕ) (base left at n : ℕ) (m m' : Mem) (p : ℕ) : Type 0 where
  pub place : p ≡ skip_repeat s (skip_node s left placeSort) n at
  pub result : m' ≡ compile_read (mem_r t) t base (exprs_at s (expr_at s left) (skip_node s left placeSort) n at) m
