-- compile_stmt, compile_if and compile_stmts: one law for each way out.
use mathlib.Core.Path.{◌≡◌, refl, sym, ◌∙◌}
use mathlib.Core.List.{List}
use mathlib.Core.Bool.{Bool, true, false}
use Prim.Native.Nat.{ℕ, zero, suc, ◌-◌}
use native.Mathlib.Numerals.{sub-one}
use Rattle.recorder.specs.declared.word.Range.{Range}
use Rattle.recorder.specs.Word.{payload_at, next}
use Rattle.recorder.specs.Mem.{Mem, mem_r, as_word, records_in}
use Rattle.sheet.specs.declared.form.Sort.TheVariants.{Expr as exprSort, Stmt as stmtSort}
use Rattle.sheet.specs.declared.form.Shape.{Shape}
use Rattle.sheet.specs.declared.form.Shape.TheVariants.{If}
use Rattle.sheet.specs.Shapes.{shape_fields}
use Rattle.sheet.specs.Form.{is_absent}
use Rattle.sheet.specs.Skip.{skip_node, skip_list, skip_fields, skip_field, skip_times, skip_pair, skip_item}
use Rattle.sheet.specs.Tree.{stmt_node, stmt_at, shape_of}
use Rattle.sheet.proofs.Shapes.{fields_rule}
use Rattle.rules.specs.Stmt.{compile_stmt, else_jump, end_here}
use Rattle.expressions.proofs.ExprLaws.{Head}
use Rattle.statements.specs.Stmt.{IfHead, IfBody, CompiledStmt, CompiledStmts}

-- a statement's case, and the place behind it
node : (s : List ℕ) (left at k : ℕ) (r : Range) (p : ℕ) → Head s left at k r p → stmt_at s left at ≡ stmt_node s (left - 1) (stmt_at s (left - 1)) (shape_of k) k r p
unfolding stmt_at
node s zero at k r p h = absurd (h.deep refl)
node s (suc left) at k r p h = rw (sub-one, h.kind, h.range, h.behind)

over : (s : List ℕ) (left at k : ℕ) (r : Range) (p : ℕ) → Head s left at k r p → skip_node s left stmtSort at ≡ skip_fields s (skip_node s (left - 1)) (shape_fields (shape_of k)) p
unfolding skip_node
over s zero at k r p h = absurd (h.deep refl)
over s (suc left) at k r p h = rw (sub-one, h.kind, h.behind, fields_rule (payload_at s at))

pub stmt_if : (s t : List ℕ) (base left at k : ℕ) (r : Range) (p q : ℕ) (x : Shape) (m m1 : Mem) → Head s left at k r p → x ≡ shape_of k → x ≡ If
    → IfBody s t base (left - 1) r p m m1 q → CompiledStmt s t base left at m m1 q
unfolding stmt_node
stmt_if s t base left at k r p q x m m1 h e d b = let f : If ≡ shape_of k = sym d ∙ e in
    record { place = rw (over s left at k r p h, ← f) b.place; result = rw (node s left at k r p h, ← f) b.result }

-- an IF without ELSE
pub if_then_lem : (s t : List ℕ) (base left : ℕ) (r : Range) (at q j p p1 : ℕ) (i : Bool) (m m1 m2 m3 : Mem) → IfHead s t base left r at m m1 q j → CompiledStmts s t base left q m1 m2 p
    → i ≡ is_absent s p → i ≡ true → m3 ≡ end_here (mem_r t) t base j m2 → p1 ≡ next s p → IfBody s t base left r at m m3 p1
unfolding compile_stmt skip_fields skip_field skip_times skip_pair skip_item
if_then_lem s t base left r at q j p p1 i m m1 m2 m3 h x hi e f hp =
    let a : is_absent s (skip_list s (skip_node s left stmtSort) (skip_node s left exprSort at)) ≡ true = rw (← h.place, ← x.place, ← hi) e in
    record {
      place = rw (a, ← h.place, ← x.place) hp;
      result = rw (a, ← h.place, ← h.jump_is, ← h.result, ← x.result) f;
    }

-- an IF with ELSE
pub if_else_lem : (s t : List ℕ) (base left : ℕ) (r : Range) (at q j p o p1 : ℕ) (i : Bool) (m m1 m2 m3 m4 m5 : Mem) → IfHead s t base left r at m m1 q j → CompiledStmts s t base left q m1 m2 p
    → i ≡ is_absent s p → i ≡ false → o ≡ as_word (records_in m2.st) → m3 ≡ end_here (mem_r t) t base j (else_jump (mem_r t) t base r m2) → CompiledStmts s t base left p m3 m4 p1
    → m5 ≡ end_here (mem_r t) t base o m4 → IfBody s t base left r at m m5 p1
unfolding compile_stmt skip_fields skip_field skip_times skip_pair skip_item
if_else_lem s t base left r at q j p o p1 i m m1 m2 m3 m4 m5 h x hi e ho f y g =
    let a : is_absent s (skip_list s (skip_node s left stmtSort) (skip_node s left exprSort at)) ≡ false = rw (← h.place, ← x.place, ← hi) e in
    record {
      place = rw (a, ← h.place, ← x.place) y.place;
      result = rw (a, ← h.place, ← h.jump_is, ← h.result, ← x.result, ← x.place, ← f, ← y.result, ← ho) g;
    }
