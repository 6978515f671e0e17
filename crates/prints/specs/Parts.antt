-- The contracts' shapes for the parts of WRITE and PRINT.
use Rattle.std.specs.Prelude.{◌≡◌, List, Bool, true, false, ℕ, ◌-◌, ltb, eqb}
use Rattle.recorder.specs.declared.word.Range.{Range}
use Rattle.recorder.specs.Numbers.{number_one}
use Rattle.recorder.specs.Calls.{emit_number, emit_print_spc, emit_print_tab, emit_newline}
use Rattle.recorder.specs.Word.{pick, both, payload_at, next}
use Rattle.recorder.specs.Recorder.{Recorder}
use Rattle.recorder.specs.Mem.{Mem, mem_r}
use Rattle.sheet.specs.declared.form.Sort.TheVariants.{Expr as exprSort}
use Rattle.sheet.specs.Skip.{skip_node, skip_repeat, skip_element}
use Rattle.sheet.specs.Tree.{Exprs, value, Stmt, expr_at, items_at, element_at, write_element_at}
use Rattle.sheet.specs.Args.{args_at}
use Rattle.rules.specs.Tables.{spc, wanted, signature_of}
use Rattle.rules.specs.Expr.{compile_args}
use Rattle.rules.specs.Stmt.{surplus_notes, print_one, print_each, write_each}

-- n values of WRITE from a place on
pub record WritesDone (s t : List ℕ) (base left to_file n at : ℕ) (m m' : Mem) (p : ℕ) : Type 0 where
  pub place : p ≡ skip_repeat s (λ q. next s (skip_node s left exprSort q)) n at
  pub result : m' ≡ write_each (mem_r t) t base to_file (items_at s (write_element_at s left) (λ q. next s (skip_node s left exprSort q)) n at) m

-- an element of PRINT is skipped by its own word
abbrev pub over_element : List ℕ → ℕ → ℕ → ℕ
over_element s left q = skip_element s (skip_node s left) (payload_at s q) (next s q)

abbrev pub tab_emit : {S : Type 0} → Recorder S → Range → ℕ → S → S
tab_emit R r k u = pick (eqb k spc) (emit_print_spc (R.emit u) r) (emit_print_tab (R.emit u) r)

-- behind a value with which n elements are left; `v` says whether the next one is an expression
abbrev pub behind_call : {S : Type 0} → Recorder S → Bool → Range → Range → ℕ → Bool → S → S
behind_call R tabbed r er n v u =
    pick (ltb n 2) (emit_newline (R.emit u) r)
    (pick (both v (pick tabbed false true)) (emit_print_spc (R.emit (emit_number (R.emit u) number_one.e number_one.m er)) er) u)

abbrev pub blank_line : {S : Type 0} → Recorder S → ℕ → Range → S → S
blank_line R n r u = pick (eqb n 0) (emit_newline (R.emit u) r) u

-- the arguments of TAB or SPC, whose function's range is at a place
abbrev pub args_here : List ℕ → ℕ → ℕ → Exprs
args_here s left at = args_at s left (payload_at s (next s (next s at))) (next s (next s (next s at)))

pub record Tabbed (s t : List ℕ) (base left : ℕ) (r : Range) (at : ℕ) (m m' : Mem) (p : ℕ) : Type 0 where
  pub place : p ≡ skip_repeat s (skip_node s left exprSort) (payload_at s (next s (next s at))) (next s (next s (next s at)))
  pub result : m' ≡ tab_emit (mem_r t) r (payload_at s (next s at)) (compile_args (mem_r t) t base (wanted (signature_of (payload_at s (next s at))).args) 0 (args_here s left at) (surplus_notes (mem_r t) t base 1 (args_here s left at) m))

-- an expression as an element, n elements being left with it
pub record Valued (s t : List ℕ) (base left n : ℕ) (r : Range) (at : ℕ) (m m' : Mem) (p : ℕ) : Type 0 where
  pub place : p ≡ skip_node s left exprSort at
  pub result : (child : ℕ → Stmt) → m' ≡ print_one (mem_r t) t base r (value (expr_at s left at)) (items_at s (element_at s left child) (over_element s left) (n - 1) p) m

pub record OnePrinted (s t : List ℕ) (base left n : ℕ) (r : Range) (at : ℕ) (m m' : Mem) (p : ℕ) : Type 0 where
  pub place : p ≡ over_element s left at
  pub result : (child : ℕ → Stmt) → m' ≡ print_one (mem_r t) t base r (element_at s left child at) (items_at s (element_at s left child) (over_element s left) (n - 1) p) m

-- n elements from a place on
pub record Printed (s t : List ℕ) (base left n : ℕ) (r : Range) (at : ℕ) (m m' : Mem) (p : ℕ) : Type 0 where
  pub place : p ≡ skip_repeat s (over_element s left) n at
  pub result : (child : ℕ → Stmt) → m' ≡ print_each (mem_r t) t base r (items_at s (element_at s left child) (over_element s left) n at) m
