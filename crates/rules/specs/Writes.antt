-- The clause about WRITE among the missing parts, on the list that the rules make: "the end of a WRITE to a file that makes no call
-- 44 or 45, or of which not just the last such call has end 1".
use Rattle.std.specs.Prelude.{◌≡◌, ℕ, zero, suc, ◌-◌, Bool, true, List, [], ◌∷◌, ◌++◌, ◌==◌}
use Rattle.recorder.specs.Calls.{write_num_call, write_str_call}
use Rattle.recorder.specs.Word.{pick, either}
use Rattle.recorder.specs.Ideal.{Rec, Ideal}
use Rattle.recorder.specs.Closing.{rules_r, rec_at}
use Rattle.sheet.specs.Tree.{Opt, absent, given, Expr, Stmt, rem, op₀, op₁, op₂, op₃, draw, set, data_list, def, dim, field, for, go, if_then, if_else, input, assign, load, locate, next_of, on, open_file, print, read, restore, swap, system, while, write}
use Rattle.rules.specs.Stmt.{compile_stmt}
use Rattle.rules.specs.Missing.{All, WriteCall, write_call, ends_well}
use Rattle.rules.specs.Each.{here, each_of}

-- the calls 44 and 45 of a list of records, in order
abbrev pub is_write_call : ℕ → Bool
is_write_call k = either (k == write_num_call) (k == write_str_call)

unfoldable pub write_calls : List Rec → List WriteCall
write_calls [] = []
write_calls (r ∷ rs) = pick (is_write_call r.call) (write_call r.a r.b ∷ write_calls rs) (write_calls rs)

-- a WRITE: the addresses where it begins and ends, and 1 if it is to a file, else 0
pub record Written : Type 0 where
  pub from : ℕ
  pub to : ℕ
  pub to_file : ℕ

abbrev pub file_flag : Opt Expr → ℕ
file_flag absent = 0
file_flag (given e) = 1

abbrev pub written : Opt Expr → ℕ → ℕ → Written
written f a b = record { from = a; to = b; to_file = file_flag f }

-- the WRITEs of a sheet, in IFs too
abbrev pub write_of : List ℕ → ℕ → Stmt → Ideal → List Written
write_of t base (rem r) i = []
write_of t base (op₀ k r) i = []
write_of t base (op₁ k r a) i = []
write_of t base (op₂ k r a b) i = []
write_of t base (op₃ k r a b c) i = []
write_of t base (draw k r es) i = []
write_of t base (set k r a b) i = []
write_of t base (data_list r ds) i = []
write_of t base (def r n p e) i = []
write_of t base (dim r es) i = []
write_of t base (field r e fs) i = []
write_of t base (for r v a b e) i = []
write_of t base (go r sub g) i = []
write_of t base (if_then r e xs) i = []
write_of t base (if_else r e xs ys) i = []
write_of t base (input r src es) i = []
write_of t base (assign r a b) i = []
write_of t base (load r es) i = []
write_of t base (locate r a b) i = []
write_of t base (next_of r vs) i = []
write_of t base (on r e gs sub) i = []
write_of t base (open_file r f m e l) i = []
write_of t base (print r xs) i = []
write_of t base (read r es) i = []
write_of t base (restore r g) i = []
write_of t base (swap r a b) i = []
write_of t base (system r) i = []
write_of t base (while r e) i = []
write_of t base (write r f ds) i = written f (here i) (here (compile_stmt (rules_r t) t base (write r f ds) i)) ∷ []

abbrev pub writes : List ℕ → List ℕ → List Written
writes s t = each_of s t (write_of t)

-- the n records from the address k on
unfoldable pub records_from : List Rec → ℕ → ℕ → List Rec
records_from rs k zero = []
records_from rs k (suc n) = rec_at rs k ∷ records_from rs (suc k) n

-- the calls 44 and 45 that a WRITE makes, and those of many
abbrev pub calls_in : List Rec → Written → List WriteCall
calls_in rs p = write_calls (records_from rs p.from (p.to - p.from))

unfoldable pub calls_of : List Rec → List Written → List WriteCall
calls_of rs [] = []
calls_of rs (p ∷ ps) = calls_in rs p ++ calls_of rs ps

-- the clause does not hold of a WRITE, to a file or not; and all its calls say alike whether it is to a file
pub record Ends (rs : List Rec) (p : Written) : Type 0 where
  pub well : ends_well (calls_in rs p) ≡ true
  pub alike : All (λ (c : WriteCall). c.to_file ≡ p.to_file) (calls_in rs p)

-- it holds of none, and every call 44 or 45 of the list is one of a WRITE
pub record EndsThere (ps : List Written) (rs : List Rec) : Type 0 where
  pub ends : All (Ends rs) ps
  pub calls : write_calls rs ≡ calls_of rs ps
