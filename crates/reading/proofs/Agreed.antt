-- Compiling reads the text only where names, texts, data and numbers of the tree stand: over two texts that agree there it does the same.
use Rattle.std.proofs.Common.{◌≡◌, ℕ, List, [], refl, ap₂, Ok, Err}
use Rattle.recorder.specs.Recorder.{Recorder}
use Rattle.recorder.specs.Ideal.{Ideal, ideal}
use Rattle.recorder.specs.Closing.{rules_r}
use Rattle.sheet.specs.Tree.{Expr, Stmt, Stmts, ProgramLine, program_at}
use Rattle.sheet.specs.Check.{Checked, checked}
use Rattle.rules.specs.Expr.{Out, out, compile_expr, compile_lvalue}
use Rattle.rules.specs.Stmt.{compile_stmt, compile_stmts}
use Rattle.rules.specs.Program.{Lines, first_line, compile_line, compile_lines}
use Rattle.rules.specs.Outcome.{Lengths, compiled, finished, outcome_by, outcome}
use Rattle.items.specs.Items.{ItemsExpr, ItemsStmt}
use Rattle.reading.specs.Agreement.{shared, AgreeStmts, AgreeLines, NamesKept}
use Rattle.reading.proofs.Reading.{Same, SameOut}
use Rattle.reading.proofs.Recorders.{Any, one_recorder, two_texts}
use Rattle.reading.proofs.Exprs.{same_expr, same_lvalue}
use Rattle.reading.proofs.Stmts.{same_stmt, same_stmts}
use Rattle.reading.proofs.Program.{same_line, same_lines, close_same}

-- one recorder, two texts
module _ {S : Type 0} (R : Recorder S) (t u : List ℕ) where
  from : (s : S) → Same Any s s
  from s = record { is = refl; keeps = tt }

  out_is : {a b : Out S} → SameOut Any a b → a ≡ b
  out_is h = ap₂ (λ (s : S) x. out s x) h.follows.is h.ty

  -- THEOREM: over any recorder, in any state, compiling an expression, a place, a statement, statements, a line or lines with one text
  -- does what it does with another that agrees with it where the items stand
  pub expr_agreed : (base : ℕ) (e : Expr) (s : S) → ItemsExpr (shared t u base) e → compile_expr R t base e s ≡ compile_expr R u base e s
  expr_agreed base e s h = out_is (same_expr (one_recorder R t u) base e h (from s))

  pub lvalue_agreed : (base : ℕ) (e : Expr) (s : S) → ItemsExpr (shared t u base) e → compile_lvalue R t base e s ≡ compile_lvalue R u base e s
  lvalue_agreed base e s h = out_is (same_lvalue (one_recorder R t u) base e h (from s))

  pub stmt_agreed : (base : ℕ) (x : Stmt) (s : S) → ItemsStmt (shared t u base) x → compile_stmt R t base x s ≡ compile_stmt R u base x s
  stmt_agreed base x s h = (same_stmt (one_recorder R t u) base x h (from s)).is

  pub stmts_agreed : (base : ℕ) (xs : Stmts) (s : S) → AgreeStmts t u base xs → compile_stmts R t base xs s ≡ compile_stmts R u base xs s
  stmts_agreed base xs s h = (same_stmts (one_recorder R t u) base xs h (from s)).is

  pub line_agreed : (l : ProgramLine) (c : Lines S) → AgreeStmts t u c.base l.stmts → compile_line R t l c ≡ compile_line R u l c
  line_agreed l c h = (same_line (one_recorder R t u) l c h tt).is

  pub lines_agreed : (ls : List ProgramLine) (c : Lines S) → AgreeLines t u c.base ls → compile_lines R t ls c ≡ compile_lines R u ls c
  lines_agreed ls c h = (same_lines (one_recorder R t u) ls c h tt).is

-- the rules' recorder, whose search for a name reads the text, too
module _ (t u : List ℕ) where
  -- THEOREM: lines are compiled the same behind any lines whose names stand where the texts agree, and so do their names then
  pub rules_agreed : (ls : List ProgramLine) (c : Lines Ideal) → NamesKept t u c.state → AgreeLines t u c.base ls
      → (compile_lines (rules_r t) t ls c ≡ compile_lines (rules_r u) u ls c) × NamesKept t u (compile_lines (rules_r u) u ls c).state
  rules_agreed ls c k h = let x = same_lines (two_texts t u) ls c h k in (x.is, x.keeps)

  -- THEOREM: of a sheet, accepted or not, and two texts that agree where names, texts, data and numbers of its tree stand,
  -- the lines are compiled the same, and closed up the same
  pub compiled_agreed : (s : List ℕ) → AgreeLines t u 0 (program_at s) → compiled s t ≡ compiled s u
  unfolding compiled
  compiled_agreed s h = (rules_agreed (program_at s) (first_line (rules_r u) u (ideal [] [] [] 0 0)) tt h).0

  pub finished_agreed : (s : List ℕ) → AgreeLines t u 0 (program_at s) → finished s t ≡ finished s u
  unfolding finished
  finished_agreed s h = rw (compiled_agreed s h) (close_same t u (compiled s u))

  by_agreed : (k : Checked) (s : List ℕ) (L : Lengths) → AgreeLines t u 0 (program_at s) → outcome_by k s t L ≡ outcome_by k s u L
  by_agreed (Ok x) s L h = rw (finished_agreed s h) refl
  by_agreed (Err r) s L h = refl

  -- THEOREM: so if the form judges both alike, answer and buffers are the same
  pub outcome_agreed : (s : List ℕ) (L : Lengths) → checked s t L.work ≡ checked s u L.work → AgreeLines t u 0 (program_at s) → outcome s t L ≡ outcome s u L
  unfolding outcome
  outcome_agreed s L e h = rw e (by_agreed (checked s u L.work) s L h)
