-- The items of a tree, what stands in it besides its cases: ranges, names, texts, data, numbers and labels. What is known of each
-- sort of item, on the line where it stands, is known of all of them in a part of a tree, or in the whole program.
use Rattle.std.specs.Prelude.{List, [], ◌∷◌, ℕ, ◌+◌}
use Rattle.recorder.specs.declared.word.Range.{Range}
use Rattle.sheet.specs.declared.form.Line.{Line}
use Rattle.sheet.specs.Tree.{Expr, ident, string_lit, number_lit, sys_func_call, user_func_call, binary, unary, index, inkey, error, Exprs, none, more, Datum, FieldSpec, Target, OnTarget, Len, WriteElement, PrintElement, value, comma, semicolon, InputSource, keyboard, file, Stmt, rem, op₀, op₁, op₂, op₃, draw, set, data_list, def, dim, field, for, go, if_then, if_else, input, assign, load, locate, next_of, on, open_file, print, read, restore, swap, system, while, write, Stmts, end, then, ProgramLine}
use Rattle.rules.specs.Missing.{All, IfGiven}

-- what is known of each sort of item
pub record Facts : Type 1 where
  -- a range that is nothing more: of a statement, of an expression other than those below, of a function, an operator, a comma or a
  -- semicolon, of a label, of LEN
  pub range : Range → Type 0
  -- a name's range: Ident, the name of Index and of a used function, DEF's name and parameter, FOR's and NEXT's counters
  pub name : Range → Type 0
  -- the range of a string or a prompt
  pub text : Range → Type 0
  -- a datum's range, and whether it is quoted
  pub datum : Range → ℕ → Type 0
  -- a number literal's range, which LOAD reads, its e and m
  pub number : Range → ℕ → ℕ → Type 0
  -- a label, of a line or of what refers to one
  pub label : ℕ → Type 0

module _ (F : Facts) where
  abbrev mutual
    pub ItemsExpr : Expr → Type 0
    ItemsExpr (ident r) = F.name r
    ItemsExpr (string_lit r) = F.text r
    ItemsExpr (number_lit r e m) = F.number r e m
    ItemsExpr (sys_func_call r f k es) = F.range r × F.range f × ItemsExprs es
    ItemsExpr (user_func_call r f e) = F.range r × IfGiven F.name f × ItemsExpr e
    ItemsExpr (binary r a o k b) = F.range r × ItemsExpr a × F.range o × ItemsExpr b
    ItemsExpr (unary r k e) = F.range r × ItemsExpr e
    ItemsExpr (index r n es) = F.range r × IfGiven F.name n × ItemsExprs es
    ItemsExpr (inkey r) = F.range r
    ItemsExpr (error r) = F.range r

    pub ItemsExprs : Exprs → Type 0
    ItemsExprs none = Unit {0}
    ItemsExprs (more e es) = ItemsExpr e × ItemsExprs es

  abbrev pub ItemsDatum : Datum → Type 0
  ItemsDatum d = F.datum d.range d.quoted

  abbrev pub ItemsTarget : Target → Type 0
  ItemsTarget g = F.range g.range × F.label g.label

  abbrev pub ItemsOnTarget : OnTarget → Type 0
  ItemsOnTarget g = F.range g.range × IfGiven F.label g.label

  abbrev pub ItemsFieldSpec : FieldSpec → Type 0
  ItemsFieldSpec f = ItemsExpr f.len × ItemsExpr f.var

  abbrev pub ItemsLen : Len → Type 0
  ItemsLen l = F.range l.range × ItemsExpr l.value

  abbrev pub ItemsElement : PrintElement → Type 0
  ItemsElement (value e) = ItemsExpr e
  ItemsElement (comma r) = F.range r
  ItemsElement (semicolon r) = F.range r

  abbrev pub ItemsSource : InputSource → Type 0
  ItemsSource (keyboard p) = IfGiven F.text p
  ItemsSource (file e) = ItemsExpr e

  abbrev mutual
    pub ItemsStmt : Stmt → Type 0
    ItemsStmt (rem r) = F.range r
    ItemsStmt (op₀ k r) = F.range r
    ItemsStmt (op₁ k r a) = F.range r × ItemsExpr a
    ItemsStmt (op₂ k r a b) = F.range r × ItemsExpr a × ItemsExpr b
    ItemsStmt (op₃ k r a b c) = F.range r × ItemsExpr a × ItemsExpr b × ItemsExpr c
    ItemsStmt (draw k r es) = F.range r × ItemsExprs es
    ItemsStmt (set k r a b) = F.range r × ItemsExpr a × ItemsExpr b
    ItemsStmt (data_list r ds) = F.range r × All ItemsDatum ds
    ItemsStmt (def r n p e) = F.range r × IfGiven F.name n × IfGiven F.name p × ItemsExpr e
    ItemsStmt (dim r es) = F.range r × ItemsExprs es
    ItemsStmt (field r e fs) = F.range r × ItemsExpr e × All ItemsFieldSpec fs
    ItemsStmt (for r v a b e) = F.range r × IfGiven F.name v × ItemsExpr a × ItemsExpr b × IfGiven ItemsExpr e
    ItemsStmt (go r sub g) = F.range r × IfGiven ItemsTarget g
    ItemsStmt (if_then r e xs) = F.range r × ItemsExpr e × ItemsStmts xs
    ItemsStmt (if_else r e xs ys) = F.range r × ItemsExpr e × ItemsStmts xs × ItemsStmts ys
    ItemsStmt (input r src es) = F.range r × ItemsSource src × ItemsExprs es
    ItemsStmt (assign r a b) = F.range r × ItemsExpr a × ItemsExpr b
    ItemsStmt (load r es) = F.range r × ItemsExprs es
    ItemsStmt (locate r a b) = F.range r × IfGiven ItemsExpr a × IfGiven ItemsExpr b
    ItemsStmt (next_of r vs) = F.range r × All (IfGiven F.name) vs
    ItemsStmt (on r e gs sub) = F.range r × ItemsExpr e × All ItemsOnTarget gs
    ItemsStmt (open_file r f m e l) = F.range r × ItemsExpr f × ItemsExpr e × IfGiven ItemsLen l
    ItemsStmt (print r xs) = F.range r × All ItemsElement xs
    ItemsStmt (read r es) = F.range r × ItemsExprs es
    ItemsStmt (restore r g) = F.range r × IfGiven ItemsTarget g
    ItemsStmt (swap r a b) = F.range r × ItemsExpr a × ItemsExpr b
    ItemsStmt (system r) = F.range r
    ItemsStmt (while r e) = F.range r × ItemsExpr e
    ItemsStmt (write r f ds) = F.range r × IfGiven ItemsExpr f × All (λ (d : WriteElement). ItemsExpr d.datum) ds

    pub ItemsStmts : Stmts → Type 0
    ItemsStmts end = Unit {0}
    ItemsStmts (then x xs) = ItemsStmt x × ItemsStmts xs

  -- a line's own label, with its range, and the items of its statements
  abbrev pub ItemsLine : ProgramLine → Type 0
  ItemsLine l = IfGiven ItemsTarget l.label × ItemsStmts l.stmts

-- of every item of lines, the first of which begins at b; each begins behind those before it, by plain sums of their lengths
abbrev pub Items : (Line → Facts) → ℕ → List ProgramLine → Type 0
Items F b [] = Unit {0}
Items F b (l ∷ ls) = ItemsLine (F (record { base = b; len = l.length })) l × Items F (b + l.length) ls
