-- The contracts' shapes for the parts of DEF, DATA, DIM and FIELD.
use Rattle.std.specs.Prelude.{◌≡◌, List, ℕ}
use Rattle.recorder.specs.declared.word.Range.{Range}
use Rattle.recorder.specs.Mem.{Mem, mem_r}
use Rattle.sheet.specs.declared.form.Sort.TheVariants.{Expr as exprSort}
use Rattle.sheet.specs.Skip.{skip_node, skip_repeat}
use Rattle.sheet.specs.Tree.{Opt, Datum, expr_at, items_at, datum_at, field_spec_at}
use Rattle.sheet.specs.Args.{args_at}
use Rattle.rules.specs.Stmt.{def_node, compile_data, dim_one, compile_dim, compile_fields}
use Rattle.expressions.specs.Lists.{two_on}
use Rattle.declarations.specs.declared.data.Datum.{Datum as DatumWords}

-- DEF's body at a place, behind its two names
pub record Defined (s t : List ℕ) (base left at : ℕ) (n a : Opt Range) (r : Range) (x y : ℕ) (m m' : Mem) (p : ℕ) : Type 0 where
  pub place : p ≡ skip_node s left exprSort at
  pub result : m' ≡ def_node (mem_r t) t base n a r x y (expr_at s left at) m

-- a datum; n of them from a place on
abbrev pub datum_of : DatumWords → Datum
datum_of d = record { range = d.range; quoted = d.quoted }

pub record DataDone (s t : List ℕ) (base at n : ℕ) (m m' : Mem) (p : ℕ) : Type 0 where
  pub place : p ≡ skip_repeat s (two_on s) n at
  pub result : m' ≡ compile_data (mem_r t) t base (items_at s (datum_at s) (two_on s) n at) m

-- an array of DIM, or any other expression, at a place; n of them from a place on
pub record Dimmed (s t : List ℕ) (base left at : ℕ) (m m' : Mem) (p : ℕ) : Type 0 where
  pub place : p ≡ skip_node s left exprSort at
  pub result : m' ≡ dim_one (mem_r t) t base (expr_at s left at) m

pub record DimDone (s t : List ℕ) (base left at n : ℕ) (m m' : Mem) (p : ℕ) : Type 0 where
  pub place : p ≡ skip_repeat s (skip_node s left exprSort) n at
  pub result : m' ≡ compile_dim (mem_r t) t base (args_at s left n at) m

-- n fields of FIELD from a place on: a length and a place to store
abbrev pub pair_on : List ℕ → ℕ → ℕ → ℕ
pair_on s left at = skip_node s left exprSort (skip_node s left exprSort at)

pub record FieldsDone (s t : List ℕ) (base left at n : ℕ) (m m' : Mem) (p : ℕ) : Type 0 where
  pub place : p ≡ skip_repeat s (pair_on s left) n at
  pub result : m' ≡ compile_fields (mem_r t) t base (items_at s (field_spec_at s left) (pair_on s left) n at) m
