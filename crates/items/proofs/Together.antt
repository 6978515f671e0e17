-- What is known of every item of a program in two ways is known together, and so is what follows from both.
use mathlib.Core.List.{List, [], ◌∷◌}
use Prim.Native.Nat.{ℕ, ◌+◌}
use Rattle.recorder.specs.declared.word.Range.{Range}
use Rattle.sheet.specs.declared.form.Line.{Line}
use Rattle.sheet.specs.Tree.{Opt, absent, given, Expr, ident, string_lit, number_lit, sys_func_call, user_func_call, binary, unary, index, inkey, error, Exprs, none, more, Datum, FieldSpec, Target, OnTarget, Len, WriteElement, PrintElement, value, comma, semicolon, InputSource, keyboard, file, Stmt, rem, op₀, op₁, op₂, op₃, draw, set, data_list, def, dim, field, for, go, if_then, if_else, input, assign, load, locate, next_of, on, open_file, print, read, restore, swap, system, while, write, Stmts, end, then, ProgramLine}
use Rattle.rules.specs.Missing.{All, IfGiven}
use Rattle.items.specs.Carries.{Together}
use Rattle.items.specs.Items.{Facts, ItemsExpr, ItemsExprs, ItemsDatum, ItemsTarget, ItemsOnTarget, ItemsFieldSpec, ItemsLen, ItemsElement, ItemsSource, ItemsStmt, ItemsStmts, ItemsLine, Items}

module _ {A : Type 0} (X Y Z : A → Type 0) (k : (a : A) → X a → Y a → Z a) where
  all_together : (ts : List A) → All X ts → All Y ts → All Z ts
  all_together [] x y = tt
  all_together (a ∷ ts) x y = (k a x.0 y.0, all_together ts x.1 y.1)

  given_together : (o : Opt A) → IfGiven X o → IfGiven Y o → IfGiven Z o
  given_together absent x y = tt
  given_together (given a) x y = k a x y

module _ (F G H : Facts) (j : Together F G H) where
  name_given : (o : Opt Range) → IfGiven F.name o → IfGiven G.name o → IfGiven H.name o
  name_given o x y = given_together F.name G.name H.name j.name o x y

  mutual
    pub expr_together : (e : Expr) → ItemsExpr F e → ItemsExpr G e → ItemsExpr H e
    expr_together (ident r) x y = j.name r x y
    expr_together (string_lit r) x y = j.text r x y
    expr_together (number_lit r e m) x y = j.number r e m x y
    expr_together (sys_func_call r f k es) x y = (j.range r x.0 y.0, j.range f x.1 y.1, exprs_together es x.2 y.2)
    expr_together (user_func_call r f e) x y = (j.range r x.0 y.0, name_given f x.1 y.1, expr_together e x.2 y.2)
    expr_together (binary r a o k b) x y = (j.range r x.0 y.0, expr_together a x.1 y.1, j.range o x.2 y.2, expr_together b x.3 y.3)
    expr_together (unary r k e) x y = (j.range r x.0 y.0, expr_together e x.1 y.1)
    expr_together (index r n es) x y = (j.range r x.0 y.0, name_given n x.1 y.1, exprs_together es x.2 y.2)
    expr_together (inkey r) x y = j.range r x y
    expr_together (error r) x y = j.range r x y

    exprs_together : (es : Exprs) → ItemsExprs F es → ItemsExprs G es → ItemsExprs H es
    exprs_together none x y = tt
    exprs_together (more e es) x y = (expr_together e x.0 y.0, exprs_together es x.1 y.1)

  datum_together : (d : Datum) → ItemsDatum F d → ItemsDatum G d → ItemsDatum H d
  datum_together d x y = j.datum d.range d.quoted x y

  target_together : (g : Target) → ItemsTarget F g → ItemsTarget G g → ItemsTarget H g
  target_together g x y = (j.range g.range x.0 y.0, j.label g.label x.1 y.1)

  on_together : (g : OnTarget) → ItemsOnTarget F g → ItemsOnTarget G g → ItemsOnTarget H g
  on_together g x y = (j.range g.range x.0 y.0, given_together F.label G.label H.label j.label g.label x.1 y.1)

  spec_together : (f : FieldSpec) → ItemsFieldSpec F f → ItemsFieldSpec G f → ItemsFieldSpec H f
  spec_together f x y = (expr_together f.len x.0 y.0, expr_together f.var x.1 y.1)

  len_together : (l : Len) → ItemsLen F l → ItemsLen G l → ItemsLen H l
  len_together l x y = (j.range l.range x.0 y.0, expr_together l.value x.1 y.1)

  element_together : (p : PrintElement) → ItemsElement F p → ItemsElement G p → ItemsElement H p
  element_together (value e) x y = expr_together e x y
  element_together (comma r) x y = j.range r x y
  element_together (semicolon r) x y = j.range r x y

  source_together : (i : InputSource) → ItemsSource F i → ItemsSource G i → ItemsSource H i
  source_together (keyboard p) x y = given_together F.text G.text H.text j.text p x y
  source_together (file e) x y = expr_together e x y

  expr_given : (o : Opt Expr) → IfGiven (ItemsExpr F) o → IfGiven (ItemsExpr G) o → IfGiven (ItemsExpr H) o
  expr_given o x y = given_together (ItemsExpr F) (ItemsExpr G) (ItemsExpr H) expr_together o x y

  target_given : (o : Opt Target) → IfGiven (ItemsTarget F) o → IfGiven (ItemsTarget G) o → IfGiven (ItemsTarget H) o
  target_given o x y = given_together (ItemsTarget F) (ItemsTarget G) (ItemsTarget H) target_together o x y

  mutual
    stmt_together : (z : Stmt) → ItemsStmt F z → ItemsStmt G z → ItemsStmt H z
    stmt_together (rem r) x y = j.range r x y
    stmt_together (op₀ k r) x y = j.range r x y
    stmt_together (op₁ k r a) x y = (j.range r x.0 y.0, expr_together a x.1 y.1)
    stmt_together (op₂ k r a b) x y = (j.range r x.0 y.0, expr_together a x.1 y.1, expr_together b x.2 y.2)
    stmt_together (op₃ k r a b c) x y = (j.range r x.0 y.0, expr_together a x.1 y.1, expr_together b x.2 y.2, expr_together c x.3 y.3)
    stmt_together (draw k r es) x y = (j.range r x.0 y.0, exprs_together es x.1 y.1)
    stmt_together (set k r a b) x y = (j.range r x.0 y.0, expr_together a x.1 y.1, expr_together b x.2 y.2)
    stmt_together (data_list r ds) x y = (j.range r x.0 y.0, all_together (ItemsDatum F) (ItemsDatum G) (ItemsDatum H) datum_together ds x.1 y.1)
    stmt_together (def r n p e) x y = (j.range r x.0 y.0, name_given n x.1 y.1, name_given p x.2 y.2, expr_together e x.3 y.3)
    stmt_together (dim r es) x y = (j.range r x.0 y.0, exprs_together es x.1 y.1)
    stmt_together (field r e fs) x y =
        (j.range r x.0 y.0, expr_together e x.1 y.1, all_together (ItemsFieldSpec F) (ItemsFieldSpec G) (ItemsFieldSpec H) spec_together fs x.2 y.2)
    stmt_together (for r v a b e) x y = (j.range r x.0 y.0, name_given v x.1 y.1, expr_together a x.2 y.2, expr_together b x.3 y.3, expr_given e x.4 y.4)
    stmt_together (go r sub g) x y = (j.range r x.0 y.0, target_given g x.1 y.1)
    stmt_together (if_then r e xs) x y = (j.range r x.0 y.0, expr_together e x.1 y.1, stmts_together xs x.2 y.2)
    stmt_together (if_else r e xs ys) x y = (j.range r x.0 y.0, expr_together e x.1 y.1, stmts_together xs x.2 y.2, stmts_together ys x.3 y.3)
    stmt_together (input r src es) x y = (j.range r x.0 y.0, source_together src x.1 y.1, exprs_together es x.2 y.2)
    stmt_together (assign r a b) x y = (j.range r x.0 y.0, expr_together a x.1 y.1, expr_together b x.2 y.2)
    stmt_together (load r es) x y = (j.range r x.0 y.0, exprs_together es x.1 y.1)
    stmt_together (locate r a b) x y = (j.range r x.0 y.0, expr_given a x.1 y.1, expr_given b x.2 y.2)
    stmt_together (next_of r vs) x y = (j.range r x.0 y.0, all_together (IfGiven F.name) (IfGiven G.name) (IfGiven H.name) name_given vs x.1 y.1)
    stmt_together (on r e gs sub) x y =
        (j.range r x.0 y.0, expr_together e x.1 y.1, all_together (ItemsOnTarget F) (ItemsOnTarget G) (ItemsOnTarget H) on_together gs x.2 y.2)
    stmt_together (open_file r f m e l) x y =
        (j.range r x.0 y.0, expr_together f x.1 y.1, expr_together e x.2 y.2, given_together (ItemsLen F) (ItemsLen G) (ItemsLen H) len_together l x.3 y.3)
    stmt_together (print r ps) x y = (j.range r x.0 y.0, all_together (ItemsElement F) (ItemsElement G) (ItemsElement H) element_together ps x.1 y.1)
    stmt_together (read r es) x y = (j.range r x.0 y.0, exprs_together es x.1 y.1)
    stmt_together (restore r g) x y = (j.range r x.0 y.0, target_given g x.1 y.1)
    stmt_together (swap r a b) x y = (j.range r x.0 y.0, expr_together a x.1 y.1, expr_together b x.2 y.2)
    stmt_together (system r) x y = j.range r x y
    stmt_together (while r e) x y = (j.range r x.0 y.0, expr_together e x.1 y.1)
    stmt_together (write r f ds) x y =
        let k = λ (K : Facts) (d : WriteElement). ItemsExpr K d.datum in
        (j.range r x.0 y.0, expr_given f x.1 y.1, all_together (k F) (k G) (k H) (λ d. expr_together d.datum) ds x.2 y.2)

    pub stmts_together : (zs : Stmts) → ItemsStmts F zs → ItemsStmts G zs → ItemsStmts H zs
    stmts_together end x y = tt
    stmts_together (then z zs) x y = (stmt_together z x.0 y.0, stmts_together zs x.1 y.1)

  line_together : (l : ProgramLine) → ItemsLine F l → ItemsLine G l → ItemsLine H l
  line_together l x y = (target_given l.label x.0 y.0, stmts_together l.stmts x.1 y.1)

-- THEOREM: what follows of every sort of item, on each line, from two facts of it, holds of every item of a program of which these hold
pub items_together : (F G H : Line → Facts) → ((line : Line) → Together (F line) (G line) (H line))
    → (b : ℕ) (ls : List ProgramLine) → Items F b ls → Items G b ls → Items H b ls
items_together F G H j b [] x y = tt
items_together F G H j b (l ∷ ls) x y =
    let line : Line = record { base = b; len = l.length } in
    (line_together (F line) (G line) (H line) (j line) l x.0 y.0, items_together F G H j (b + l.length) ls x.1 y.1)
