-- The end of a WRITE is never missing: every WRITE of an accepted sheet makes a call 44 or 45, and of these calls of the finished list
-- the last alone has end 1. No other statement makes one.
use Rattle.std.proofs.Common.{◌≡◌, ℕ, ◌+◌, ◌-◌, ◌≤◌, Bool, true, false, eqb, ltb, List, [], ◌∷◌, ◌++◌, length, sym, refl, ap, ◌∙◌, append_assoc, append-nil, arith, length-append}
use Rattle.recorder.specs.Numbers.{unknown}
use Rattle.recorder.specs.Word.{pick, either, flag_of}
use Rattle.recorder.specs.declared.word.Range.{Range}
use Rattle.recorder.specs.Recorder.{Recorder}
use Rattle.recorder.specs.Ideal.{Rec, rec, Ideal, ideal, change, with_a, with_c, Search, missing, found, find_name, symbol_in, symbol_of}
use Rattle.recorder.specs.Closing.{rules_r, rec_at, end_rec}
use Rattle.sheet.specs.Tree.{Opt, absent, given, Expr, expr_range, WriteElement, Stmt, rem, op₀, op₁, op₂, op₃, draw, set, data_list, def, dim, field, for, go, if_then, if_else, input, assign, load, locate, next_of, on, open_file, print, read, restore, swap, system, while, write, Stmts, end, then, Target, ProgramLine, program_at}
use Rattle.rules.specs.declared.types.«Type».{«Type» as Ty}
use Rattle.rules.specs.declared.types.«Type».TheVariants.{Real}
use Rattle.rules.specs.Types.{matches_type}
use Rattle.rules.specs.Expr.{compile_expr, compile_typed}
use Rattle.rules.specs.Stmt.{is_last, write_value, write_each, if_jump, else_jump, end_here, compile_stmt, compile_stmts}
use Rattle.rules.specs.Program.{Lines, label_note, line_begun, first_line, compile_line, compile_lines, close_up}
use Rattle.rules.specs.Outcome.{Lengths, outcome, compiled, finished}
use Rattle.rules.specs.Missing.{All, WriteCall, write_call, value_calls, ends_well}
use Rattle.rules.specs.Each.{each_stmt, each_stmts, each_lines}
use Rattle.rules.specs.Writes.{is_write_call, write_calls, Written, file_flag, written, write_of, writes, calls_in, calls_of, Ends, EndsThere}
use Rattle.rules.proofs.PileLaws.{all_append}
use Rattle.rules.proofs.Kept
use Rattle.rules.proofs.BlockPiles.{Some, FormedStmt, FormedStmts, stmt_code, stmts_code}
use Rattle.rules.proofs.ProgramPiles.{Formed, lines_code, accepted_is, few_none}
use Rattle.rules.proofs.SheetForm.{accepted_formed}
use Rattle.rules.proofs.WriteCalls.{calls_append, no_write_last, write_last, call_of, same_calls, same_change, Ahead, ahead_same, ahead_then, ahead_more, from_calls, from_behind, JumpAt, jump_here, jump_more, jump_kept, jump_targeted, closed}

-- the rules' recorder keeps the calls 44 and 45 that are there
symbol_calls : (o : Search) (i : Ideal) (x n g : ℕ) → write_calls (symbol_in o i x n g).state.records ≡ write_calls i.records
symbol_calls (found v) i x n g = refl
symbol_calls missing i x n g = refl

same_with_c : (v : ℕ) (r : Rec) → call_of (with_c v r) ≡ call_of r
unfolding write_calls
same_with_c v r = refl

kept : (t : List ℕ) (w : List WriteCall) → Kept.Keeps (rules_r t) (λ (i : Ideal). write_calls i.records ≡ w)
unfolding symbol_of
kept t w = record {
  emit = λ i k r a b c h e. no_write_last i.records (rec k i.line r a b c) h ∙ e;
  note = λ i k r v e. e;
  note_lost = λ i k r v n e. e;
  symbol = λ i x n g e. symbol_calls (find_name t i.entries x n g) i x n g ∙ e;
  datum = λ i x n q e. e;
  byte = λ i x n v e. e;
  patch_end = λ i k v e. same_calls i.records (change (with_c v) i.records k) (same_change (with_c v) i.records k (same_with_c v (rec_at i.records k))) ∙ e;
}

-- the calls of WRITEs one after the other
of_append : (rs : List Rec) (ps qs : List Written) → calls_of rs (ps ++ qs) ≡ calls_of rs ps ++ calls_of rs qs
unfolding calls_of
of_append rs [] qs = refl
of_append rs (p ∷ ps) qs = ap (λ (z : List WriteCall). calls_in rs p ++ z) (of_append rs ps qs) ∙ sym (append_assoc (calls_in rs p) (calls_of rs ps) (calls_of rs qs))

both_calls : (w : List WriteCall) (rs : List Rec) (ps qs : List Written) → (w ++ calls_of rs ps) ++ calls_of rs qs ≡ w ++ calls_of rs (ps ++ qs)
both_calls w rs ps qs = append_assoc w (calls_of rs ps) (calls_of rs qs) ∙ ap (λ (z : List WriteCall). w ++ z) (sym (of_append rs ps qs))

behind : {xs ys : List WriteCall} (w : List WriteCall) → xs ≡ ys → xs ++ w ≡ ys ++ w
behind w e = ap (λ (z : List WriteCall). z ++ w) e

same_behind : (w xs ys : List WriteCall) → w ++ xs ≡ w ++ ys → xs ≡ ys
same_behind [] xs ys e = e
same_behind (x ∷ w) xs ys e = same_behind w xs ys (cc)

-- a WRITE that has a value: its calls end well, and all say alike whether it is to a file
zero_first : (n : ℕ) (xs : List WriteCall) → ends_well xs ≡ true → ends_well (write_call n 0 ∷ xs) ≡ true
unfolding ends_well
zero_first n [] h = absurd (let z : ◌≡◌ {A = ℕ} 0 1 = cc in omega arith)
zero_first n (y ∷ ys) h = h

pub value_ends : (n : ℕ) (d : WriteElement) (ds : List WriteElement) → ends_well (value_calls n (d ∷ ds)) ≡ true
unfolding value_calls ends_well
value_ends n d [] = refl
value_ends n d (x ∷ xs) = go (eqb d.comma 1) (value_ends n x xs)
  where
    go : (b : Bool) → ends_well (value_calls n (x ∷ xs)) ≡ true → ends_well (pick b (write_call n 0 ∷ value_calls n (x ∷ xs)) (value_calls n (x ∷ xs))) ≡ true
    go true h = zero_first n (value_calls n (x ∷ xs)) h
    go false h = h

value_files : (n : ℕ) (ds : List WriteElement) → All (λ (c : WriteCall). c.to_file ≡ n) (value_calls n ds)
unfolding value_calls
value_files n [] = tt
value_files n (d ∷ ds) = go (either (is_last ds) (eqb d.comma 1)) (value_files n ds)
  where
    go : (b : Bool) → All (λ (c : WriteCall). c.to_file ≡ n) (value_calls n ds) → All (λ (c : WriteCall). c.to_file ≡ n) (pick b (write_call n (flag_of (is_last ds)) ∷ value_calls n ds) (value_calls n ds))
    go true h = (refl, h)
    go false h = h

write_ends : (f : Opt Expr) (ds : List WriteElement) → Some ds → ends_well (value_calls (file_flag f) ds) ≡ true
write_ends f [] h = absurd h
write_ends f (d ∷ ds) h = value_ends (file_flag f) d ds

-- what a part of the program that stands in the list rs adds: the calls of its WRITEs, and they end well if they are in form
record Made (i f : Ideal) (rs : List Rec) (ps : List Written) (W : Type 0) : Type 0 where
  calls : write_calls f.records ≡ write_calls i.records ++ calls_of rs ps
  ends : W → All (Ends rs) ps

-- statements
module _ (t : List ℕ) (base : ℕ) where
  abbrev R : Recorder Ideal
  R = rules_r t

  keeps : (i : Ideal) → Kept.Keeps (rules_r t) (λ (f : Ideal). write_calls f.records ≡ write_calls i.records)
  keeps i = kept t (write_calls i.records)

  -- WRITE
  value_calls_lem : (n : ℕ) (d : WriteElement) (last : Bool) (ty : Ty) (i : Ideal)
      → write_calls (write_value R t base n d last ty i).records ≡ write_calls i.records ++ pick (either last (eqb d.comma 1)) (write_call n (flag_of last) ∷ []) []
  unfolding write_value
  value_calls_lem n d last ty i = go (either last (eqb d.comma 1)) (matches_type ty Real)
    where
      er : Range
      er = expr_range d.datum

      writes : (k : ℕ) → is_write_call k ≡ true → write_calls (R.emit i k er n (flag_of last) 0).records ≡ write_calls i.records ++ (write_call n (flag_of last) ∷ [])
      writes k e = write_last i.records (rec k i.line er n (flag_of last) 0) e

      pops : (k : ℕ) → is_write_call k ≡ false → write_calls (R.emit i k er 0 0 0).records ≡ write_calls i.records ++ []
      pops k e = no_write_last i.records (rec k i.line er 0 0 0) e ∙ sym (append-nil (write_calls i.records))

      go : (b m : Bool) → write_calls (pick b (pick m (R.emit i 44 er n (flag_of last) 0) (R.emit i 45 er n (flag_of last) 0)) (pick m (R.emit (R.note i 11 er 2) 46 er 0 0 0) (R.emit (R.note i 11 er 2) 47 er 0 0 0))).records
          ≡ write_calls i.records ++ pick b (write_call n (flag_of last) ∷ []) []
      go true true = writes 44 refl
      go true false = writes 45 refl
      go false true = pops 46 refl
      go false false = pops 47 refl

  each_calls : (n : ℕ) (ds : List WriteElement) (i : Ideal) → write_calls (write_each R t base n ds i).records ≡ write_calls i.records ++ value_calls n ds
  unfolding write_each value_calls
  each_calls n [] i = sym (append-nil (write_calls i.records))
  each_calls n (d ∷ ds) i =
      let p = compile_expr R t base d.datum i in
      each_calls n ds (write_value R t base n d (is_last ds) p.ty p.state)
      ∙ behind (value_calls n ds) (value_calls_lem n d (is_last ds) p.ty p.state ∙ behind this (Kept.keep_expr (keeps i) t base {s = i} d.datum refl))
      ∙ put (either (is_last ds) (eqb d.comma 1))
    where
      this : List WriteCall
      this = pick (either (is_last ds) (eqb d.comma 1)) (write_call n (flag_of (is_last ds)) ∷ []) []

      put : (b : Bool) → (write_calls i.records ++ pick b (write_call n (flag_of (is_last ds)) ∷ []) []) ++ value_calls n ds
          ≡ write_calls i.records ++ pick b (write_call n (flag_of (is_last ds)) ∷ value_calls n ds) (value_calls n ds)
      put true = append_assoc (write_calls i.records) (write_call n (flag_of (is_last ds)) ∷ []) (value_calls n ds)
      put false = append_assoc (write_calls i.records) [] (value_calls n ds)

  -- the calls that a WRITE adds to any state
  pub write_calls_lem : (r : Range) (f : Opt Expr) (ds : List WriteElement) (i : Ideal)
      → write_calls (compile_stmt R t base (write r f ds) i).records ≡ write_calls i.records ++ value_calls (file_flag f) ds
  unfolding compile_stmt
  write_calls_lem r absent ds i = let u = write_each R t base 0 ds i in no_write_last u.records (rec 43 u.line r 0 0 0) refl ∙ each_calls 0 ds i
  write_calls_lem r (given e) ds i =
      each_calls 1 ds (compile_typed R t base Real e i)
      ∙ behind (value_calls 1 ds) (Kept.keep_typed (keeps i) t base {s = i} Real e refl)

  -- a statement with no WRITE in it
  none : {i f : Ideal} {rs : List Rec} {W : Type 0} → write_calls f.records ≡ write_calls i.records → Made i f rs [] W
  unfolding calls_of
  none {i = i} e = record { calls = e ∙ sym (append-nil (write_calls i.records)); ends = λ w. tt }

  -- a WRITE's own records
  own_calls : (x : Opt Expr) (i f : Ideal) (code rs : List Rec) (cs : List WriteCall) → f.records ≡ i.records ++ code → write_calls f.records ≡ write_calls i.records ++ cs → Ahead f.records rs
      → calls_in rs (written x (length i.records) (length f.records)) ≡ cs
  own_calls x i f code rs cs e h a =
      let n : length f.records - length i.records ≡ length code = omega (arith, ap length e, length-append i.records code) in
      let l : length i.records + length code ≤ length f.records = omega (arith, ap length e, length-append i.records code) in
      let own : write_calls i.records ++ write_calls code ≡ write_calls i.records ++ cs = sym (calls_append i.records code) ∙ ap write_calls (sym e) ∙ h in
      rw n (from_calls f.records rs (length i.records) (length code) l a ∙ rw e (ap write_calls (from_behind i.records code)) ∙ same_behind (write_calls i.records) (write_calls code) cs own)

  write_made : (r : Range) (f : Opt Expr) (ds : List WriteElement) (i : Ideal) (rs : List Rec) → Ahead (compile_stmt R t base (write r f ds) i).records rs
      → Made i (compile_stmt R t base (write r f ds) i) rs (each_stmt t (write_of t) base (write r f ds) i) (Some ds)
  unfolding calls_of
  write_made r f ds i rs a =
      let g = compile_stmt R t base (write r f ds) i in
      let c = stmt_code [] few_none t base (write r f ds) i in
      let own = own_calls f i g c.code rs (value_calls (file_flag f) ds) c.records (write_calls_lem r f ds i) a in
      record {
        calls = write_calls_lem r f ds i ∙ ap (λ (z : List WriteCall). write_calls i.records ++ z) (sym own ∙ sym (append-nil (calls_in rs (written f (length i.records) (length g.records)))));
        ends = λ w. (record { well = rw own (write_ends f ds w); alike = rw own (value_files (file_flag f) ds) }, tt);
      }

  -- IF: its condition and its jump add none, and the jump stays where it is
  if_calls : (r : Range) (e : Expr) (i : Ideal) → write_calls (if_jump R t base r (compile_typed R t base Real e i)).records ≡ write_calls i.records
  if_calls r e i =
      let u = compile_typed R t base Real e i in
      no_write_last u.records (rec 19 u.line r unknown 0 0) refl ∙ Kept.keep_typed (keeps i) t base {s = i} Real e refl

  stmts_jump : (xs : Stmts) (i : Ideal) (k : ℕ) → JumpAt i.records k → JumpAt (compile_stmts R t base xs i).records k
  stmts_jump xs i k h =
      let c = stmts_code [] few_none t base xs i in
      jump_more (compile_stmts R t base xs i).records i.records c.code k c.records h

  stmts_ahead : (xs : Stmts) (i : Ideal) → Ahead i.records (compile_stmts R t base xs i).records
  stmts_ahead xs i = let c = stmts_code [] few_none t base xs i in ahead_more (compile_stmts R t base xs i).records i.records c.code c.records

  mutual
    unfolding compile_stmt compile_stmts

    stmt_made : (x : Stmt) (i : Ideal) (rs : List Rec) → Ahead (compile_stmt R t base x i).records rs → Made i (compile_stmt R t base x i) rs (each_stmt t (write_of t) base x i) (FormedStmt x)
    stmt_made (rem r) i rs h = none ((keeps i).emit i 1 r 0 0 0 refl refl)
    stmt_made (op₀ k r) i rs h = none ((keeps i).emit i 2 r k 0 0 refl refl)
    stmt_made (op₁ k r a) i rs h = none (Kept.keep_op₁ (keeps i) t base {s = i} k r a refl)
    stmt_made (op₂ k r a b) i rs h = none (Kept.keep_op₂ (keeps i) t base {s = i} k r a b refl)
    stmt_made (op₃ k r a b c) i rs h = none (Kept.keep_op₃ (keeps i) t base {s = i} k r a b c refl)
    stmt_made (draw k r es) i rs h = none (Kept.keep_draw (keeps i) t base {s = i} k r es refl)
    stmt_made (set k r a b) i rs h = none (Kept.keep_set (keeps i) t base {s = i} k r a b refl)
    stmt_made (data_list r ds) i rs h = none (Kept.keep_data (keeps i) t base ds {s = i} refl)
    stmt_made (def r n p e) i rs h = none (Kept.keep_def (keeps i) t base {s = i} r n p e refl)
    stmt_made (dim r es) i rs h = none (Kept.keep_dim (keeps i) t base es {s = i} refl)
    stmt_made (field r e fs) i rs h = none (Kept.keep_field (keeps i) t base {s = i} r e fs refl)
    stmt_made (for r v a b e) i rs h = none (Kept.keep_for (keeps i) t base {s = i} r v a b e refl)
    stmt_made (go r sub g) i rs h = none (Kept.keep_go (keeps i) t base {s = i} r sub g refl)
    stmt_made (if_then r e xs) i rs h =
        let u = compile_typed R t base Real e i in
        let j = if_jump R t base r u in
        let v = compile_stmts R t base xs j in
        let first = stmts_jump xs j (length u.records) (jump_here u.records (rec 19 u.line r unknown 0 0) refl) in
        let targeted = jump_targeted v.records (length v.records) (length u.records) first in
        let m = stmts_made xs j rs (ahead_then (ahead_same targeted) h) in
        record {
          calls = same_calls v.records (change (with_a (length v.records)) v.records (length u.records)) targeted ∙ m.calls ∙ behind (calls_of rs (each_stmts t (write_of t) base xs j)) (if_calls r e i);
          ends = m.ends;
        }
    stmt_made (if_else r e xs ys) i rs h =
        let u = compile_typed R t base Real e i in
        let j = if_jump R t base r u in
        let v = compile_stmts R t base xs j in
        let over = rec 20 v.line r unknown 0 0 in
        let k = else_jump R t base r v in
        let g = end_here R t base (length u.records) k in
        let z = compile_stmts R t base ys g in
        let first = stmts_jump xs j (length u.records) (jump_here u.records (rec 19 u.line r unknown 0 0) refl) in
        let second = jump_kept k.records (length k.records) (length u.records) (length v.records) (jump_here v.records over refl) in
        let targeted = jump_targeted k.records (length k.records) (length u.records) (jump_more k.records v.records (over ∷ []) (length u.records) refl first) in
        let targeted₂ = jump_targeted z.records (length z.records) (length v.records) (stmts_jump ys g (length v.records) second) in
        let b = ahead_then (ahead_same targeted₂) h in
        let m = stmts_made xs j rs (ahead_then (ahead_more k.records v.records (over ∷ []) refl) (ahead_then (ahead_same targeted) (ahead_then (stmts_ahead ys g) b))) in
        let n = stmts_made ys g rs b in
        record {
          calls = same_calls z.records (change (with_a (length z.records)) z.records (length v.records)) targeted₂ ∙ n.calls
              ∙ behind (calls_of rs (each_stmts t (write_of t) base ys g))
              (same_calls k.records g.records targeted ∙ no_write_last v.records over refl ∙ m.calls ∙ behind (calls_of rs (each_stmts t (write_of t) base xs j)) (if_calls r e i))
              ∙ both_calls (write_calls i.records) rs (each_stmts t (write_of t) base xs j) (each_stmts t (write_of t) base ys g);
          ends = λ w. all_append (Ends rs) (each_stmts t (write_of t) base xs j) (each_stmts t (write_of t) base ys g) (m.ends w.0) (n.ends w.1);
        }
    stmt_made (input r src es) i rs h = none (Kept.keep_input (keeps i) t base {s = i} r src es refl)
    stmt_made (assign r a b) i rs h = none (Kept.keep_let (keeps i) t base {s = i} r a b refl)
    stmt_made (load r es) i rs h = none (Kept.keep_load (keeps i) t base {s = i} r es refl)
    stmt_made (locate r a b) i rs h = none (Kept.keep_locate (keeps i) t base {s = i} a b refl)
    stmt_made (next_of r vs) i rs h = none (Kept.keep_next (keeps i) t base {s = i} r vs refl)
    stmt_made (on r e gs sub) i rs h = none (Kept.keep_on (keeps i) t base {s = i} r e gs sub refl)
    stmt_made (open_file r f m e l) i rs h = none (Kept.keep_open (keeps i) t base {s = i} r f m e l refl)
    stmt_made (print r xs) i rs h = none (Kept.keep_print (keeps i) t base {s = i} r xs refl)
    stmt_made (read r es) i rs h = none (Kept.keep_read (keeps i) t base es {s = i} refl)
    stmt_made (restore r g) i rs h = none (Kept.keep_restore (keeps i) t base {s = i} r g refl)
    stmt_made (swap r a b) i rs h = none (Kept.keep_swap (keeps i) t base {s = i} r a b refl)
    stmt_made (system r) i rs h = none refl
    stmt_made (while r e) i rs h = none (Kept.keep_while (keeps i) t base {s = i} r e refl)
    stmt_made (write r f ds) i rs h = write_made r f ds i rs h

    stmts_made : (xs : Stmts) (i : Ideal) (rs : List Rec) → Ahead (compile_stmts R t base xs i).records rs → Made i (compile_stmts R t base xs i) rs (each_stmts t (write_of t) base xs i) (FormedStmts xs)
    stmts_made end i rs a = none refl
    stmts_made (then x xs) i rs a =
        let j = compile_stmt R t base x i in
        let m = stmt_made x i rs (ahead_then (stmts_ahead xs j) a) in
        let n = stmts_made xs j rs a in
        record {
          calls = n.calls ∙ behind (calls_of rs (each_stmts t (write_of t) base xs j)) m.calls ∙ both_calls (write_calls i.records) rs (each_stmt t (write_of t) base x i) (each_stmts t (write_of t) base xs j);
          ends = λ w. all_append (Ends rs) (each_stmt t (write_of t) base x i) (each_stmts t (write_of t) base xs j) (m.ends w.0) (n.ends w.1);
        }

-- lines
module _ (t : List ℕ) where
  begun_calls : (c : Lines Ideal) (l : ProgramLine) → write_calls (line_begun (rules_r t) t c l).records ≡ write_calls c.state.records
  begun_calls c l = go l.label
    where
      picked : (b : Bool) (r : Range) → write_calls (pick b ((rules_r t).note ((rules_r t).begin_line c.state c.line) 1 r 1) ((rules_r t).begin_line c.state c.line)).records ≡ write_calls c.state.records
      picked true r = refl
      picked false r = refl

      go : (o : Opt Target) → write_calls (label_note (rules_r t) t c.base c.last o ((rules_r t).begin_line c.state c.line)).records ≡ write_calls c.state.records
      go absent = refl
      go (given l) = picked (ltb l.label c.last) l.range

  lines_made : (ls : List ProgramLine) (c : Lines Ideal) (rs : List Rec) → Ahead (compile_lines (rules_r t) t ls c).state.records rs
      → Made c.state (compile_lines (rules_r t) t ls c).state rs (each_lines t (write_of t) ls c) (Formed ls)
  unfolding compile_lines compile_line each_lines calls_of
  lines_made [] c rs a = record { calls = sym (append-nil (write_calls c.state.records)); ends = λ w. tt }
  lines_made (l ∷ ls) c rs a =
      let b = line_begun (rules_r t) t c l in
      let d = compile_line (rules_r t) t l c in
      let k = lines_code t [] few_none ls d in
      let m = stmts_made t c.base l.stmts b rs (ahead_then (ahead_more (compile_lines (rules_r t) t ls d).state.records d.state.records k.code k.records) a) in
      let n = lines_made ls d rs a in
      record {
        calls = n.calls ∙ behind (calls_of rs (each_lines t (write_of t) ls d)) (m.calls ∙ behind (calls_of rs (each_stmts t (write_of t) c.base l.stmts b)) (begun_calls c l))
            ∙ both_calls (write_calls c.state.records) rs (each_stmts t (write_of t) c.base l.stmts b) (each_lines t (write_of t) ls d);
        ends = λ w. all_append (Ends rs) (each_stmts t (write_of t) c.base l.stmts b) (each_lines t (write_of t) ls d) (m.ends w.0) (n.ends w.1);
      }

-- the clause about WRITE holds of no accepted sheet
pub ends_there : (s t : List ℕ) (L : Lengths) → (outcome s t L).answer.refusal ≡ 0 → EndsThere (writes s t) (finished s t).records
unfolding finished compiled write_calls
ends_there s t L e =
    let c₀ = first_line (rules_r t) t (ideal [] [] [] 0 0) in
    let c = compile_lines (rules_r t) t (program_at s) c₀ in
    let z = closed t c in
    let rs = (close_up (rules_r t) c).records in
    let m = lines_made t (program_at s) c₀ rs (ahead_then (ahead_same z.same) (ahead_more rs z.list (end_rec z.line ∷ []) z.whole)) in
    record {
      ends = m.ends (accepted_formed s t L.work (accepted_is s t L e).0);
      calls = ap write_calls z.whole ∙ no_write_last z.list (end_rec z.line) refl ∙ same_calls c.state.records z.list z.same ∙ m.calls;
    }
