-- The contracts' shapes: what compiling the expression at a place of the sheet leaves in memory.
use Rattle.std.specs.Prelude.{◌≡◌, List, ℕ}
use Rattle.recorder.specs.declared.word.Range.{Range}
use Rattle.recorder.specs.Word.{payload_at, range_at, next}
use Rattle.recorder.specs.Recorder.{Named}
use Rattle.recorder.specs.Mem.{Mem, mem_r}
use Rattle.sheet.specs.declared.form.Sort.TheVariants.{Expr as exprSort}
use Rattle.sheet.specs.Skip.{skip_node, skip_repeat}
use Rattle.sheet.specs.Tree.{Opt, absent, given, expr_at}
use Rattle.sheet.specs.Args.{args_at}
use Rattle.rules.specs.declared.types.«Type».{«Type» as Ty}
use Rattle.rules.specs.declared.tables.Wants.{Wants}
use Rattle.rules.specs.Wants.{wanted_by}
use Rattle.rules.specs.Expr.{out, Sym, compile_expr, compile_args, compile_typed, compile_lvalue}
use Rattle.rules.specs.Stmt.{place_typed}
use Rattle.std.specs.Prelude.{Option}
use Rattle.std.specs.Prelude.{Some, None}

abbrev pub sym : Mem → ℕ → Ty → Sym Mem
sym m n ty = record { state = m; number = n; ty = ty }

abbrev pub named : Mem → ℕ → Named Mem
named m n = record { state = m; number = n }

-- the code's option
abbrev pub opt_of : {A : Type 0} → Option A → Opt A
opt_of (Some x) = given x
opt_of None = absent

-- the expression at a place, with `left` depths left: the place behind it, and the memory and kind that the rules give
pub record Compiled (s t : List ℕ) (base left at : ℕ) (m m' : Mem) (p : ℕ) (ty : Ty) : Type 0 where
  pub place : p ≡ skip_node s left exprSort at
  pub result : out m' ty ≡ compile_expr (mem_r t) t base (expr_at s left at) m

-- n expressions from a place on
pub record CompiledArgs (s t : List ℕ) (base left at n : ℕ) (w : Wants) (m m' : Mem) (p : ℕ) : Type 0 where
  pub place : p ≡ skip_repeat s (skip_node s left exprSort) n at
  pub result : m' ≡ compile_args (mem_r t) t base (wanted_by w) 0 (args_at s left n at) m

-- an operator or a function, its range and its kind, and the place behind; a word's payload and the place behind
pub record OpAt (s : List ℕ) (at : ℕ) (r : Range) (k p : ℕ) : Type 0 where
  pub range : r ≡ range_at s at
  pub kind : k ≡ payload_at s (next s at)
  pub place : p ≡ next s (next s at)

pub record PayloadAt (s : List ℕ) (at n p : ℕ) : Type 0 where
  pub value : n ≡ payload_at s at
  pub place : p ≡ next s at

-- an expression of which a kind is wanted; a place to store; one of which a kind is wanted
pub record CompiledTyped (s t : List ℕ) (base left at : ℕ) (want : Ty) (m m' : Mem) (p : ℕ) : Type 0 where
  pub place : p ≡ skip_node s left exprSort at
  pub result : m' ≡ compile_typed (mem_r t) t base want (expr_at s left at) m

pub record CompiledPlace (s t : List ℕ) (base left at : ℕ) (m m' : Mem) (p : ℕ) (ty : Ty) : Type 0 where
  pub place : p ≡ skip_node s left exprSort at
  pub result : out m' ty ≡ compile_lvalue (mem_r t) t base (expr_at s left at) m

pub record PlaceTyped (s t : List ℕ) (base left at : ℕ) (want : Ty) (m m' : Mem) (p : ℕ) : Type 0 where
  pub place : p ≡ skip_node s left exprSort at
  pub result : m' ≡ place_typed (mem_r t) t base want (expr_at s left at) m
