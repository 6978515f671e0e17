-- The contracts' shapes for FOR's step and NEXT's names.
use Rattle.std.specs.Prelude.{◌≡◌, List, Bool, ℕ}
use Rattle.recorder.specs.declared.word.Range.{Range}
use Rattle.recorder.specs.Word.{range_at, next, flag_of}
use Rattle.recorder.specs.Mem.{Mem, mem_r}
use Rattle.sheet.specs.Table.{optional, expr}
use Rattle.sheet.specs.Skip.{skip_node, skip_field, skip_repeat}
use Rattle.sheet.specs.Tree.{expr_at, items_at, opt_at}
use Rattle.rules.specs.Stmt.{compile_step, step_flag, next_each}

-- FOR's step, which may be absent: the place behind it, what it leaves, and the flag that it was there
pub record Stepped (s t : List ℕ) (base left at : ℕ) (m m' : Mem) (p : ℕ) (f : Bool) : Type 0 where
  pub place : p ≡ skip_field s (skip_node s left) (optional expr) at
  pub result : m' ≡ compile_step (mem_r t) t base (opt_at s (expr_at s left) at) m
  pub told : flag_of f ≡ step_flag (opt_at s (expr_at s left) at)

-- n names of NEXT from a place on
pub record NextDone (s t : List ℕ) (base at n : ℕ) (r : Range) (m m' : Mem) (p : ℕ) : Type 0 where
  pub place : p ≡ skip_repeat s (next s) n at
  pub result : m' ≡ next_each (mem_r t) t base n r (items_at s (opt_at s (range_at s)) (next s) n at) m
