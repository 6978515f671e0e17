-- "Missing parts are an Error expression, a Range option absent as name, parameter, function or counter, mode Error, and the end
-- of a WRITE to a file that makes no call 44 or 45, or of which not just the last such call has end 1."
-- Whole.. says that a part of the tree has none of them. Writes.antt has the clause about WRITE on the list that the rules make, where
-- it never holds.
use Rattle.std.specs.Prelude.{◌≡◌, ℕ, Bool, true, false, List, [], ◌∷◌, ◌==◌, ◌≢◌}
use Rattle.recorder.specs.Word.{pick, either, flag_of}
use Rattle.sheet.specs.Tree.{Opt, absent, given, Expr, ident, string_lit, number_lit, sys_func_call, user_func_call, binary, unary, index, inkey, error, Exprs, none, more, FieldSpec, Len, WriteElement, PrintElement, value, comma, semicolon, InputSource, keyboard, file, Stmt, rem, op₀, op₁, op₂, op₃, draw, set, data_list, def, dim, field, for, go, if_then, if_else, input, assign, load, locate, next_of, on, open_file, print, read, restore, swap, system, while, write, Stmts, end, then, ProgramLine}
use Rattle.rules.specs.Stmt.{is_last}

-- every item of a list
abbrev pub All : {A : Type 0} → (A → Type 0) → List A → Type 0
All P [] = Unit {0}
All P (x ∷ xs) = P x × All P xs

-- an option that is not absent; an option that is whole if it is there
abbrev pub Present : {A : Type 0} → Opt A → Type 0
Present absent = ⊥
Present (given x) = Unit {0}

abbrev pub IfGiven : {A : Type 0} → (A → Type 0) → Opt A → Type 0
IfGiven P absent = Unit {0}
IfGiven P (given x) = P x

abbrev mutual
  pub WholeExpr : Expr → Type 0
  WholeExpr (ident r) = Unit {0}
  WholeExpr (string_lit r) = Unit {0}
  WholeExpr (number_lit r e m) = Unit {0}
  WholeExpr (sys_func_call r f k es) = WholeExprs es
  WholeExpr (user_func_call r f e) = Present f × WholeExpr e
  WholeExpr (binary r a o k b) = WholeExpr a × WholeExpr b
  WholeExpr (unary r k e) = WholeExpr e
  WholeExpr (index r n es) = Present n × WholeExprs es
  WholeExpr (inkey r) = Unit {0}
  WholeExpr (error r) = ⊥

  pub WholeExprs : Exprs → Type 0
  WholeExprs none = Unit {0}
  WholeExprs (more e es) = WholeExpr e × WholeExprs es

abbrev pub WholeElement : PrintElement → Type 0
WholeElement (value e) = WholeExpr e
WholeElement (comma r) = Unit {0}
WholeElement (semicolon r) = Unit {0}

abbrev pub WholeSource : InputSource → Type 0
WholeSource (keyboard p) = Unit {0}
WholeSource (file e) = WholeExpr e

-- "44 emit_write_num, 45 emit_write_str (to file, end)": the two arguments of such a call
pub record WriteCall : Type 0 where
  pub to_file : ℕ
  pub at_end : ℕ

abbrev pub write_call : ℕ → ℕ → WriteCall
write_call f e = record { to_file = f; at_end = e }

-- the calls that the values of a WRITE make: a value that is not the last and has no comma behind it is dropped
unfoldable pub value_calls : ℕ → List WriteElement → List WriteCall
value_calls f [] = []
value_calls f (d ∷ ds) =
    pick (either (is_last ds) (d.comma == 1)) (write_call f (flag_of (is_last ds)) ∷ value_calls f ds) (value_calls f ds)

-- not missing: there is a call, and "just the last such call has end 1"
unfoldable pub ends_well : List WriteCall → Bool
ends_well [] = false
ends_well (x ∷ []) = x.at_end == 1
ends_well (x ∷ y ∷ xs) = pick (x.at_end == 1) false (ends_well (y ∷ xs))

abbrev pub WholeWrite : Opt Expr → List WriteElement → Type 0
WholeWrite absent ds = Unit {0}
WholeWrite (given e) ds = WholeExpr e × (ends_well (value_calls 1 ds) ≡ true)

abbrev mutual
  pub WholeStmt : Stmt → Type 0
  WholeStmt (rem r) = Unit {0}
  WholeStmt (op₀ k r) = Unit {0}
  WholeStmt (op₁ k r a) = WholeExpr a
  WholeStmt (op₂ k r a b) = WholeExpr a × WholeExpr b
  WholeStmt (op₃ k r a b c) = WholeExpr a × WholeExpr b × WholeExpr c
  WholeStmt (draw k r es) = WholeExprs es
  WholeStmt (set k r a b) = WholeExpr a × WholeExpr b
  WholeStmt (data_list r ds) = Unit {0}
  WholeStmt (def r n p e) = Present n × Present p × WholeExpr e
  WholeStmt (dim r es) = WholeExprs es
  WholeStmt (field r e fs) = WholeExpr e × All (λ (f : FieldSpec). WholeExpr f.len × WholeExpr f.var) fs
  WholeStmt (for r v a b e) = Present v × WholeExpr a × WholeExpr b × IfGiven WholeExpr e
  WholeStmt (go r sub g) = Unit {0}
  WholeStmt (if_then r e xs) = WholeExpr e × WholeStmts xs
  WholeStmt (if_else r e xs ys) = WholeExpr e × WholeStmts xs × WholeStmts ys
  WholeStmt (input r src es) = WholeSource src × WholeExprs es
  WholeStmt (assign r a b) = WholeExpr a × WholeExpr b
  WholeStmt (load r es) = WholeExprs es
  WholeStmt (locate r a b) = IfGiven WholeExpr a × IfGiven WholeExpr b
  WholeStmt (next_of r vs) = All Present vs
  WholeStmt (on r e gs sub) = WholeExpr e
  WholeStmt (open_file r f m e l) = WholeExpr f × (m ≢ 0) × WholeExpr e × IfGiven (λ (x : Len). WholeExpr x.value) l
  WholeStmt (print r xs) = All WholeElement xs
  WholeStmt (read r es) = WholeExprs es
  WholeStmt (restore r g) = Unit {0}
  WholeStmt (swap r a b) = WholeExpr a × WholeExpr b
  WholeStmt (system r) = Unit {0}
  WholeStmt (while r e) = WholeExpr e
  WholeStmt (write r f ds) = WholeWrite f ds × All (λ (d : WriteElement). WholeExpr d.datum) ds

  pub WholeStmts : Stmts → Type 0
  WholeStmts end = Unit {0}
  WholeStmts (then x xs) = WholeStmt x × WholeStmts xs

-- a program with no missing part
abbrev pub Whole : List ProgramLine → Type 0
Whole ls = All (λ (l : ProgramLine). WholeStmts l.stmts) ls
