-- The words of the sheet that a tree stands for, at least: each part's own words (document 01, "The sheet") and its children's.
-- A statement that the tree holds without its fields (REM and its like, RUN) counts its first two words.
use Rattle.std.specs.Prelude.{List, [], ◌∷◌, ℕ, ◌+◌}
use Rattle.sheet.specs.Tree.{Opt, absent, given, Expr, ident, string_lit, number_lit, sys_func_call, user_func_call, binary, unary, index, inkey, error, Exprs, none, more, FieldSpec, Target, Len, WriteElement, PrintElement, value, comma, semicolon, InputSource, keyboard, file, Stmt, rem, op₀, op₁, op₂, op₃, draw, set, data_list, def, dim, field, for, go, if_then, if_else, input, assign, load, locate, next_of, on, open_file, print, read, restore, swap, system, while, write, Stmts, end, then, ProgramLine}

-- 21, the range, and what each case has besides
unfoldable mutual
  pub expr_words : Expr → ℕ
  expr_words (ident r) = 2
  expr_words (string_lit r) = 2
  expr_words (number_lit r e m) = 5
  expr_words (sys_func_call r fr k es) = 5 + exprs_words es
  expr_words (user_func_call r f e) = 3 + expr_words e
  expr_words (binary r a o k b) = 4 + expr_words a + expr_words b
  expr_words (unary r k e) = 4 + expr_words e
  expr_words (index r n es) = 4 + exprs_words es
  expr_words (inkey r) = 2
  expr_words (error r) = 2

  pub exprs_words : Exprs → ℕ
  exprs_words none = 0
  exprs_words (more e es) = expr_words e + exprs_words es

-- "An option is absent or its value"
abbrev pub opt_expr : Opt Expr → ℕ
opt_expr absent = 1
opt_expr (given e) = expr_words e

abbrev pub opt_target : Opt Target → ℕ
opt_target absent = 1
opt_target (given g) = 2

abbrev pub opt_len : Opt Len → ℕ
opt_len absent = 1
opt_len (given l) = 1 + expr_words l.value

-- "07 input source: 0 keyboard, 1 keyboard and a prompt range, 2 file and an expression"
abbrev pub source_words : InputSource → ℕ
source_words (keyboard absent) = 1
source_words (keyboard (given p)) = 2
source_words (file e) = 1 + expr_words e

-- "08 print element"
abbrev pub element_words : PrintElement → ℕ
element_words (value e) = 1 + expr_words e
element_words (comma r) = 2
element_words (semicolon r) = 2

unfoldable pub elements_words : List PrintElement → ℕ
elements_words [] = 0
elements_words (x ∷ xs) = element_words x + elements_words xs

unfoldable pub written_words : List WriteElement → ℕ
written_words [] = 0
written_words (d ∷ ds) = expr_words d.datum + 1 + written_words ds

unfoldable pub specs_words : List FieldSpec → ℕ
specs_words [] = 0
specs_words (f ∷ fs) = expr_words f.len + expr_words f.var + specs_words fs

-- items of one word each, and of two
unfoldable pub ones : {A : Type 0} → List A → ℕ
ones [] = 0
ones (x ∷ xs) = 1 + ones xs

unfoldable pub twos : {A : Type 0} → List A → ℕ
twos [] = 0
twos (x ∷ xs) = 2 + twos xs

-- 20, the range, and the fields; a list has its count besides
unfoldable mutual
  pub stmt_words : Stmt → ℕ
  stmt_words (rem r) = 2
  stmt_words (op₀ k r) = 2
  stmt_words (op₁ k r a) = 2 + expr_words a
  stmt_words (op₂ k r a b) = 2 + expr_words a + expr_words b
  stmt_words (op₃ k r a b c) = 2 + expr_words a + expr_words b + expr_words c
  stmt_words (draw k r es) = 3 + exprs_words es
  stmt_words (set k r a b) = 2 + expr_words a + expr_words b
  stmt_words (data_list r ds) = 3 + twos ds
  stmt_words (def r n p e) = 4 + expr_words e
  stmt_words (dim r es) = 3 + exprs_words es
  stmt_words (field r e fs) = 3 + expr_words e + specs_words fs
  stmt_words (for r v a b e) = 3 + expr_words a + expr_words b + opt_expr e
  stmt_words (go r sub g) = 2 + opt_target g
  stmt_words (if_then r e xs) = 4 + expr_words e + stmts_words xs
  stmt_words (if_else r e xs ys) = 4 + expr_words e + stmts_words xs + stmts_words ys
  stmt_words (input r src es) = 3 + source_words src + exprs_words es
  stmt_words (assign r a b) = 2 + expr_words a + expr_words b
  stmt_words (load r es) = 3 + exprs_words es
  stmt_words (locate r a b) = 2 + opt_expr a + opt_expr b
  stmt_words (next_of r vs) = 3 + ones vs
  stmt_words (on r e gs sub) = 4 + expr_words e + twos gs
  stmt_words (open_file r f m e l) = 3 + expr_words f + expr_words e + opt_len l
  stmt_words (print r xs) = 3 + elements_words xs
  stmt_words (read r es) = 3 + exprs_words es
  stmt_words (restore r g) = 2 + opt_target g
  stmt_words (swap r a b) = 2 + expr_words a + expr_words b
  stmt_words (system r) = 2
  stmt_words (while r e) = 2 + expr_words e
  stmt_words (write r f ds) = 3 + opt_expr f + written_words ds

  pub stmts_words : Stmts → ℕ
  stmts_words end = 0
  stmts_words (then x xs) = stmt_words x + stmts_words xs

-- "10 with its length in units, then absent, or range and label; then a count and the statements"
abbrev pub line_words : ProgramLine → ℕ
line_words l = 2 + opt_target l.label + stmts_words l.stmts

unfoldable pub lines_words : List ProgramLine → ℕ
lines_words [] = 0
lines_words (l ∷ ls) = line_words l + lines_words ls

-- "0F program: lines"
abbrev pub program_words : List ProgramLine → ℕ
program_words ls = 1 + lines_words ls
