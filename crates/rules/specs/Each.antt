-- The statements of a sheet, in IFs too, each with the state that the rules have before it.
use Rattle.std.specs.Prelude.{ℕ, List, [], ◌∷◌, ◌++◌, length}
use Rattle.recorder.specs.Ideal.{Ideal, ideal}
use Rattle.recorder.specs.Closing.{rules_r}
use Rattle.sheet.specs.Tree.{Stmt, rem, op₀, op₁, op₂, op₃, draw, set, data_list, def, dim, field, for, go, if_then, if_else, input, assign, load, locate, next_of, on, open_file, print, read, restore, swap, system, while, write, Stmts, end, then, ProgramLine, program_at}
use Rattle.rules.specs.declared.types.«Type».TheVariants.{Real}
use Rattle.rules.specs.Expr.{compile_typed}
use Rattle.rules.specs.Stmt.{if_jump, else_jump, end_here, compile_stmt, compile_stmts}
use Rattle.rules.specs.Program.{Lines, line_begun, first_line, compile_line}

-- the address of the next record
abbrev pub here : Ideal → ℕ
here i = length i.records

-- what is gathered from each statement, in order: `gather` gets the line's start in the text, the statement, and the state before it
module _ {A : Type 0} (t : List ℕ) (gather : ℕ → Stmt → Ideal → List A) where
  module _ (base : ℕ) where
    abbrev mutual
      pub each_stmt : Stmt → Ideal → List A
      each_stmt (rem r) i = gather base (rem r) i
      each_stmt (op₀ k r) i = gather base (op₀ k r) i
      each_stmt (op₁ k r a) i = gather base (op₁ k r a) i
      each_stmt (op₂ k r a b) i = gather base (op₂ k r a b) i
      each_stmt (op₃ k r a b c) i = gather base (op₃ k r a b c) i
      each_stmt (draw k r es) i = gather base (draw k r es) i
      each_stmt (set k r a b) i = gather base (set k r a b) i
      each_stmt (data_list r ds) i = gather base (data_list r ds) i
      each_stmt (def r n p e) i = gather base (def r n p e) i
      each_stmt (dim r es) i = gather base (dim r es) i
      each_stmt (field r e fs) i = gather base (field r e fs) i
      each_stmt (for r v a b e) i = gather base (for r v a b e) i
      each_stmt (go r sub g) i = gather base (go r sub g) i
      each_stmt (if_then r e xs) i =
          let u = compile_typed (rules_r t) t base Real e i in
          gather base (if_then r e xs) i ++ each_stmts xs (if_jump (rules_r t) t base r u)
      each_stmt (if_else r e xs ys) i =
          let u = compile_typed (rules_r t) t base Real e i in
          let v = compile_stmts (rules_r t) t base xs (if_jump (rules_r t) t base r u) in
          gather base (if_else r e xs ys) i ++ (each_stmts xs (if_jump (rules_r t) t base r u)
          ++ each_stmts ys (end_here (rules_r t) t base (here u) (else_jump (rules_r t) t base r v)))
      each_stmt (input r src es) i = gather base (input r src es) i
      each_stmt (assign r a b) i = gather base (assign r a b) i
      each_stmt (load r es) i = gather base (load r es) i
      each_stmt (locate r a b) i = gather base (locate r a b) i
      each_stmt (next_of r vs) i = gather base (next_of r vs) i
      each_stmt (on r e gs sub) i = gather base (on r e gs sub) i
      each_stmt (open_file r f m e l) i = gather base (open_file r f m e l) i
      each_stmt (print r xs) i = gather base (print r xs) i
      each_stmt (read r es) i = gather base (read r es) i
      each_stmt (restore r g) i = gather base (restore r g) i
      each_stmt (swap r a b) i = gather base (swap r a b) i
      each_stmt (system r) i = gather base (system r) i
      each_stmt (while r e) i = gather base (while r e) i
      each_stmt (write r f ds) i = gather base (write r f ds) i

      pub each_stmts : Stmts → Ideal → List A
      each_stmts end i = []
      each_stmts (then x xs) i = each_stmt x i ++ each_stmts xs (compile_stmt (rules_r t) t base x i)

  unfoldable pub each_lines : List ProgramLine → Lines Ideal → List A
  each_lines [] c = []
  each_lines (l ∷ ls) c = each_stmts c.base l.stmts (line_begun (rules_r t) t c l) ++ each_lines ls (compile_line (rules_r t) t l c)

abbrev pub each_of : {A : Type 0} → List ℕ → (t : List ℕ) → (ℕ → Stmt → Ideal → List A) → List A
each_of s t gather = each_lines t gather (program_at s) (first_line (rules_r t) t (ideal [] [] [] 0 0))
