-- What compiling keeps, for any recorder: a property that all operations but the calls 44 and 45 keep is kept by expressions, and
-- by every statement but WRITE and IF.
use Rattle.std.proofs.Common.{◌≡◌, ℕ, zero, suc, Bool, true, false, eqb, ltb, List, [], ◌∷◌, length, refl}
use Rattle.recorder.specs.Word.{pick, both, either}
use Rattle.recorder.specs.declared.word.Range.{Range}
use Rattle.recorder.specs.Recorder.{Recorder}
use Rattle.sheet.specs.Tree.{Opt, absent, given, Expr, ident, string_lit, number_lit, sys_func_call, user_func_call, binary, unary, index, inkey, error, Exprs, none, more, expr_range, count, Datum, FieldSpec, Target, OnTarget, Len, PrintElement, value, comma, semicolon, InputSource, keyboard, file, op₁, op₂, op₃, draw, set}
use Rattle.rules.specs.declared.types.«Type».{«Type» as Ty}
use Rattle.rules.specs.declared.types.«Type».TheVariants.{Integer, Real, String, Error}
use Rattle.rules.specs.Types.{matches_type, exact_matches}
use Rattle.rules.specs.Name.{read_name}
use Rattle.rules.specs.Tables.{draw_arity, drawn, operand, signature_of, tab, spc, wanted, every_real}
use Rattle.rules.specs.Expr.{Out, text_size, quoted_length, is_text, compile_sym, check_type, check_real, real_sym, var_node, text_node, number_node, arity_notes, func_notes, func_node, opt_real_sym, user_call, like_node, arith_node, binary_node, unary_node, index_node, compile_expr, compile_args, compile_typed, index_place, compile_lvalue}
use Rattle.rules.specs.Stmt.{byte_of, is_ident, datum_length, is_value, is_file, is_tab_spc, surplus_notes, draw_node, datum_node, compile_data, def_node, compile_def, dim_node, dim_one, compile_dim, place_typed, compile_fields, compile_field, compile_step, for_node, compile_for, pending_jump, compile_go, compile_restore, input_arg_by, fn_place, fn_input, input_var, input_vars, input_source, compile_input, assign_call, assign_node, compile_let, bad_byte, bad_bytes, all_bytes, load_byte, load_bytes, load_node, compile_load, locate_row, locate_column, compile_locate, next_one, next_each, compile_next, on_jumps, compile_on, open_node, compile_open, tab_call, print_value, behind_value, print_one, print_each, empty_line, compile_print, compile_read, compile_swap, compile_while, compile_stmt}
use Rattle.rules.specs.Writes.{is_write_call}

pub record Keeps {S : Type 0} (R : Recorder S) (P : S → Type 0) : Type 0 where
  pub emit : (s : S) (k : ℕ) (r : Range) (a b c : ℕ) → is_write_call k ≡ false → P s → P (R.emit s k r a b c)
  pub note : (s : S) (k : ℕ) (r : Range) (v : ℕ) → P s → P (R.note s k r v)
  pub note_lost : (s : S) (k : ℕ) (r : Range) (v n : ℕ) → P s → P (R.note_lost s k r v n)
  pub symbol : (s : S) (x n g : ℕ) → P s → P (R.symbol s x n g).state
  pub datum : (s : S) (x n q : ℕ) → P s → P (R.datum s x n q)
  pub byte : (s : S) (x n v : ℕ) → P s → P (R.byte s x n v)
  pub patch_end : (s : S) (k v : ℕ) → P s → P (R.patch_end s k v)

module _ {S : Type 0} {R : Recorder S} {P : S → Type 0} (κ : Keeps R P) (t : List ℕ) (base : ℕ) where
  emitted : {s : S} {k : ℕ} {r : Range} {a b c : ℕ} → is_write_call k ≡ false → P s → P (R.emit s k r a b c)
  emitted e p = κ.emit _ _ _ _ _ _ e p

  noted : {s : S} {k : ℕ} {r : Range} {v : ℕ} → P s → P (R.note s k r v)
  noted p = κ.note _ _ _ _ p

  pick_kept : {s u : S} (b : Bool) → P s → P u → P (pick b s u)
  pick_kept true p q = p
  pick_kept false p q = q

  pick_out : (a b : Out S) (c : Bool) → P a.state → P b.state → P (pick c a b).state
  pick_out a b true p q = p
  pick_out a b false p q = q

  -- names, and notes about kinds
  keep_sym : {s : S} (r : Range) → P s → P (compile_sym R t base r s).state
  unfolding compile_sym
  keep_sym r p = κ.symbol _ _ _ _ (pick_kept (ltb 0 (read_name t base r).lost) (κ.note_lost _ _ _ _ _ p) p)

  keep_check : {s : S} (want : Ty) (r : Range) (x : Ty) → P s → P (check_type R t base want r x s)
  unfolding check_type
  keep_check want r x p = pick_kept (matches_type x want) p (noted p)

  keep_real : {s : S} (r : Range) (x : Ty) → P s → P (check_real R t base r x s)
  unfolding check_real
  keep_real r x p = pick_kept (exact_matches x Real) p (noted p)

  keep_real_sym : {s : S} (r : Range) → P s → P (real_sym R t base r s).state
  unfolding real_sym
  keep_real_sym r p = keep_real r _ (keep_sym r p)

  keep_opt_real_sym : {s : S} (f : Opt Range) → P s → P (opt_real_sym R t base f s).state
  keep_opt_real_sym absent p = p
  keep_opt_real_sym (given fr) p = keep_real_sym fr p

  -- expressions
  keep_text : {s : S} (r : Range) → P s → P (text_node R t base r s)
  unfolding text_node
  keep_text r p = pick_kept (ltb 255 (text_size (quoted_length t base r))) (noted (emitted refl p)) (emitted refl p)

  keep_var : {s : S} (r : Range) → P s → P (var_node R t base r s).state
  unfolding var_node
  keep_var r p = emitted refl (keep_sym r p)

  keep_number : {s : S} (r : Range) (e m : ℕ) → P s → P (number_node R t base r e m s)
  unfolding number_node
  keep_number r e m p = pick_kept (eqb e 256) (noted p) (emitted refl p)

  keep_func_notes : {s : S} (k n : ℕ) (fr r : Range) → P s → P (func_notes R t base k n fr r s)
  unfolding func_notes arity_notes
  keep_func_notes k n fr r p =
      let q = pick_kept (either (eqb k tab) (eqb k spc)) (noted p) p in
      pick_kept (ltb n (signature_of k).min) (noted q) (pick_kept (ltb (length (signature_of k).args) n) (noted q) q)

  keep_func : {s : S} (k n : ℕ) (r : Range) → P s → P (func_node R t base k n r s).state
  unfolding func_node
  keep_func k n r p = emitted refl p

  keep_user : {s : S} (f : Opt Range) (r : Range) (n : ℕ) → P s → P (user_call R t base f r n s)
  keep_user absent r n p = p
  keep_user (given fr) r n p = emitted refl p

  keep_like : {s : S} (k : ℕ) (r o : Range) (x y : Ty) → P s → P (like_node R t base k r o x y s).state
  unfolding like_node
  keep_like k r o x y p = pick_out _ _ (matches_type x y) (pick_kept (is_text x) (emitted refl p) (emitted refl p)) (noted p)

  keep_arith : {s : S} (k : ℕ) (r ar br : Range) (x y : Ty) → P s → P (arith_node R t base k r ar br x y s).state
  unfolding arith_node
  keep_arith k r ar br x y p = emitted refl (keep_check Real br y (keep_check Real ar x p))

  keep_binary : {s : S} (k : ℕ) (r ar o br : Range) (x y : Ty) → P s → P (binary_node R t base k r ar o br x y s).state
  unfolding binary_node
  keep_binary k r ar o br x y p = pick_out _ _ (ltb k 7) (keep_like k r o x y p) (keep_arith k r ar br x y p)

  keep_unary : {s : S} (k : ℕ) (r ar : Range) (x : Ty) → P s → P (unary_node R t base k r ar x s).state
  unfolding unary_node
  keep_unary k r ar x p = emitted refl (keep_check Real ar x p)

  keep_index : {s : S} (n : Opt Range) (r : Range) (k : ℕ) → P s → P (index_node R t base n r k s).state
  keep_index absent r k p = p
  keep_index (given nr) r k p = emitted refl (keep_sym nr p)

  mutual
    unfolding compile_expr compile_args

    pub keep_expr : {s : S} (e : Expr) → P s → P (compile_expr R t base e s).state
    keep_expr (ident r) p = keep_var r p
    keep_expr (string_lit r) p = keep_text r p
    keep_expr (number_lit r e m) p = keep_number r e m p
    keep_expr (sys_func_call r fr k es) p = keep_func k (count es) r (keep_args (wanted (signature_of k).args) zero es (keep_func_notes k (count es) fr r p))
    keep_expr (user_func_call r f e) p = keep_user f r _ (keep_check Real (expr_range e) _ (keep_expr e (keep_opt_real_sym f p)))
    keep_expr (binary r a o k b) p = keep_binary k r (expr_range a) o (expr_range b) _ _ (keep_expr b (keep_expr a p))
    keep_expr (unary r k e) p = keep_unary k r (expr_range e) _ (keep_expr e p)
    keep_expr (index r n es) p = keep_index n r (count es) (keep_args every_real zero es p)
    keep_expr (inkey r) p = emitted refl p
    keep_expr (error r) p = p

    keep_args : {s : S} (want : ℕ → Ty) (i : ℕ) (es : Exprs) → P s → P (compile_args R t base want i es s)
    keep_args want i none p = p
    keep_args want i (more e es) p = keep_args want (suc i) es (keep_check (want i) (expr_range e) _ (keep_expr e p))

  pub keep_typed : {s : S} (want : Ty) (e : Expr) → P s → P (compile_typed R t base want e s)
  keep_typed want e p = keep_check want (expr_range e) _ (keep_expr e p)

  -- places to store
  keep_index_place : {s : S} (n : Opt Range) (k : ℕ) → P s → P (index_place R t base n k s).state
  keep_index_place absent k p = p
  keep_index_place (given nr) k p = emitted refl (keep_sym nr p)

  keep_lvalue : {s : S} (e : Expr) → P s → P (compile_lvalue R t base e s).state
  unfolding compile_lvalue
  keep_lvalue (ident r) p = emitted refl (keep_sym r p)
  keep_lvalue (index r n es) p = keep_index_place n (count es) (keep_args every_real zero es p)
  keep_lvalue (string_lit r) p = p
  keep_lvalue (number_lit r e m) p = p
  keep_lvalue (sys_func_call r fr k es) p = p
  keep_lvalue (user_func_call r f e) p = p
  keep_lvalue (binary r a o k b) p = p
  keep_lvalue (unary r k e) p = p
  keep_lvalue (inkey r) p = p
  keep_lvalue (error r) p = p

  keep_place : {s : S} (want : Ty) (e : Expr) → P s → P (place_typed R t base want e s)
  keep_place want e p = keep_check want (expr_range e) _ (keep_lvalue e p)

  -- statements that take their operands off the pile
  pub keep_op₁ : {s : S} (k : ℕ) (r : Range) (a : Expr) → P s → P (compile_stmt R t base (op₁ k r a) s)
  unfolding compile_stmt
  keep_op₁ k r a p = emitted refl (keep_typed (operand k 0) a p)

  pub keep_op₂ : {s : S} (k : ℕ) (r : Range) (a b : Expr) → P s → P (compile_stmt R t base (op₂ k r a b) s)
  unfolding compile_stmt
  keep_op₂ k r a b p = emitted refl (keep_typed (operand k 1) b (keep_typed (operand k 0) a p))

  pub keep_op₃ : {s : S} (k : ℕ) (r : Range) (a b c : Expr) → P s → P (compile_stmt R t base (op₃ k r a b c) s)
  unfolding compile_stmt
  keep_op₃ k r a b c p = emitted refl (keep_typed (operand k 2) c (keep_typed (operand k 1) b (keep_typed (operand k 0) a p)))

  pub keep_set : {s : S} (k : ℕ) (r : Range) (a b : Expr) → P s → P (compile_stmt R t base (set k r a b) s)
  unfolding compile_stmt
  keep_set k r a b p = emitted refl (keep_typed String b (keep_place String a p))

  -- CIRCLE and its like
  keep_surplus : (n : ℕ) (es : Exprs) {s : S} → P s → P (surplus_notes R t base n es s)
  unfolding surplus_notes
  keep_surplus n none p = p
  keep_surplus zero (more e es) p = keep_surplus zero es (noted p)
  keep_surplus (suc n) (more e es) p = keep_surplus n es p

  pub keep_draw : {s : S} (k : ℕ) (r : Range) (es : Exprs) → P s → P (compile_stmt R t base (draw k r es) s)
  unfolding compile_stmt draw_node
  keep_draw k r es p =
      let q = keep_args (drawn k) zero es p in
      pick_kept (ltb (count es) (draw_arity k).min) (noted q)
      (pick_kept (ltb (draw_arity k).max (count es)) (keep_surplus (draw_arity k).max es q) (emitted refl q))

  -- DATA
  keep_datum : {s : S} (d : Datum) → P s → P (datum_node R t base d s)
  unfolding datum_node
  keep_datum d p = pick_kept (ltb 255 (text_size (datum_length t base d))) (noted (κ.datum _ _ _ _ p)) (κ.datum _ _ _ _ p)

  pub keep_data : (ds : List Datum) {s : S} → P s → P (compile_data R t base ds s)
  unfolding compile_data
  keep_data [] p = p
  keep_data (d ∷ ds) p = keep_data ds (keep_datum d p)

  -- DEF
  keep_def_node : {s : S} (x y : Opt Range) (r : Range) (n a : ℕ) (e : Expr) → P s → P (def_node R t base x y r n a e s)
  keep_def_node absent y r n a e p = keep_typed Real e p
  keep_def_node (given nr) absent r n a e p = keep_typed Real e p
  keep_def_node (given nr) (given pr) r n a e p = κ.patch_end _ _ _ (emitted refl (keep_typed Real e (emitted refl p)))

  pub keep_def : {s : S} (r : Range) (n a : Opt Range) (e : Expr) → P s → P (compile_def R t base r n a e s)
  unfolding compile_def
  keep_def r n a e p = keep_def_node n a r _ _ e (keep_opt_real_sym a (keep_opt_real_sym n p))

  -- DIM
  keep_dim_node : {s : S} (x : Opt Range) (n : ℕ) → P s → P (dim_node R t base x n s)
  keep_dim_node absent n p = p
  keep_dim_node (given nr) n p = emitted refl (keep_sym nr p)

  keep_dim_one : {s : S} (e : Expr) → P s → P (dim_one R t base e s)
  unfolding dim_one
  keep_dim_one (index r n es) p = keep_dim_node n (count es) (keep_args every_real zero es p)
  keep_dim_one (ident r) p = p
  keep_dim_one (string_lit r) p = p
  keep_dim_one (number_lit r e m) p = p
  keep_dim_one (sys_func_call r fr k es) p = p
  keep_dim_one (user_func_call r f e) p = p
  keep_dim_one (binary r a o k b) p = p
  keep_dim_one (unary r k e) p = p
  keep_dim_one (inkey r) p = p
  keep_dim_one (error r) p = p

  pub keep_dim : (es : Exprs) {s : S} → P s → P (compile_dim R t base es s)
  unfolding compile_dim
  keep_dim none p = p
  keep_dim (more e es) p = keep_dim es (keep_dim_one e p)

  -- FIELD
  keep_fields : (fs : List FieldSpec) {s : S} → P s → P (compile_fields R t base fs s)
  unfolding compile_fields
  keep_fields [] p = p
  keep_fields (f ∷ fs) p = keep_fields fs (keep_place String f.var (keep_typed Real f.len p))

  pub keep_field : {s : S} (r : Range) (e : Expr) (fs : List FieldSpec) → P s → P (compile_field R t base r e fs s)
  unfolding compile_field
  keep_field r e fs p = emitted refl (keep_typed Real e (keep_fields fs p))

  -- FOR
  keep_step : {s : S} (e : Opt Expr) → P s → P (compile_step R t base e s)
  keep_step absent p = p
  keep_step (given e) p = keep_typed Real e p

  keep_for_node : {s : S} (v : Opt Range) (r : Range) (n : ℕ) (e : Opt Expr) → P s → P (for_node R t base v r n e s)
  keep_for_node absent r n e p = p
  keep_for_node (given v) r n e p = emitted refl p

  pub keep_for : {s : S} (r : Range) (v : Opt Range) (a b : Expr) (e : Opt Expr) → P s → P (compile_for R t base r v a b e s)
  unfolding compile_for
  keep_for r v a b e p = keep_for_node v r _ e (keep_step e (keep_typed Real b (keep_typed Real a (keep_opt_real_sym v p))))

  -- GOTO, GOSUB, RESTORE
  keep_waiting : {s : S} (sub : ℕ) (r : Range) (l : ℕ) (lr : Range) → P s → P (pending_jump R t base sub r l lr s)
  keep_waiting sub r l lr p = pick_kept (eqb sub 1) (emitted refl p) (emitted refl p)

  pub keep_go : {s : S} (r : Range) (sub : ℕ) (x : Opt Target) → P s → P (compile_go R t base r sub x s)
  unfolding compile_go
  keep_go r sub x p = keep_waiting sub r _ _ p

  pub keep_restore : {s : S} (r : Range) (x : Opt Target) → P s → P (compile_restore R t base r x s)
  keep_restore r absent p = emitted refl p
  keep_restore r (given x) p = emitted refl p

  -- INPUT
  keep_input_arg : {s : S} (b : Bool) (e : Expr) → P s → P (input_arg_by R t base b e s).state
  keep_input_arg true e p = keep_real_sym (expr_range e) p
  keep_input_arg false e p = noted p

  keep_fn_place : {s : S} (f : Opt Range) (b : Bool) (r : Range) (n a : ℕ) → P s → P (fn_place R t base f b r n a s)
  keep_fn_place absent b r n a p = p
  keep_fn_place (given fr) false r n a p = p
  keep_fn_place (given fr) true r n a p = emitted refl p

  keep_fn_input : {s : S} (b : Bool) (r : Range) (f : Opt Range) (e : Expr) → P s → P (fn_input R t base b r f e s)
  keep_fn_input true r f e p = noted p
  keep_fn_input false r f e p = keep_fn_place f (is_ident e) r _ _ (keep_input_arg (is_ident e) e (keep_opt_real_sym f p))

  keep_input_var : {s : S} (b : Bool) (e : Expr) → P s → P (input_var R t base b e s)
  unfolding input_var
  keep_input_var b (user_func_call r f e) p = keep_fn_input b r f e p
  keep_input_var b (ident r) p = keep_lvalue (ident r) p
  keep_input_var b (string_lit r) p = keep_lvalue (string_lit r) p
  keep_input_var b (number_lit r e m) p = keep_lvalue (number_lit r e m) p
  keep_input_var b (sys_func_call r fr k es) p = keep_lvalue (sys_func_call r fr k es) p
  keep_input_var b (binary r x o k y) p = keep_lvalue (binary r x o k y) p
  keep_input_var b (unary r k e) p = keep_lvalue (unary r k e) p
  keep_input_var b (index r n es) p = keep_lvalue (index r n es) p
  keep_input_var b (inkey r) p = keep_lvalue (inkey r) p
  keep_input_var b (error r) p = keep_lvalue (error r) p

  keep_input_vars : (b : Bool) (es : Exprs) {s : S} → P s → P (input_vars R t base b es s)
  unfolding input_vars
  keep_input_vars b none p = p
  keep_input_vars b (more e es) p = keep_input_vars b es (keep_input_var b e p)

  keep_source : {s : S} (r : Range) (n : ℕ) (x : InputSource) → P s → P (input_source R t base r n x s)
  keep_source r n (keyboard absent) p = emitted refl p
  keep_source r n (keyboard (given q)) p = emitted refl (keep_text q p)
  keep_source r n (file e) p = emitted refl (keep_typed Real e p)

  pub keep_input : {s : S} (r : Range) (x : InputSource) (es : Exprs) → P s → P (compile_input R t base r x es s)
  unfolding compile_input
  keep_input r x es p = keep_source r (count es) x (keep_input_vars (is_file x) es p)

  -- LET
  keep_assign_call : {s : S} (x : Ty) (r : Range) → P s → P (assign_call R t base x r s)
  keep_assign_call Integer r p = emitted refl p
  keep_assign_call Real r p = emitted refl p
  keep_assign_call String r p = emitted refl p
  keep_assign_call Error r p = p

  keep_assign : {s : S} (r : Range) (x y : Ty) → P s → P (assign_node R t base r x y s)
  unfolding assign_node
  keep_assign r x y p = keep_assign_call x r (pick_kept (matches_type x y) p (noted p))

  pub keep_let : {s : S} (r : Range) (a b : Expr) → P s → P (compile_let R t base r a b s)
  unfolding compile_let
  keep_let r a b p = keep_assign r _ _ (keep_expr b (keep_lvalue a p))

  -- LOAD
  keep_bad_byte : {s : S} (o : Opt ℕ) (r : Range) → P s → P (bad_byte R t base o r s)
  keep_bad_byte absent r p = noted p
  keep_bad_byte (given b) r p = p

  keep_bad_bytes : (es : Exprs) {s : S} → P s → P (bad_bytes R t base es s)
  unfolding bad_bytes
  keep_bad_bytes none p = p
  keep_bad_bytes (more e es) p = keep_bad_bytes es (keep_bad_byte (byte_of t base e) (expr_range e) p)

  keep_load_byte : {s : S} (o : Opt ℕ) (r : Range) → P s → P (load_byte R t base o r s)
  keep_load_byte absent r p = p
  keep_load_byte (given b) r p = κ.byte _ _ _ _ p

  keep_load_bytes : (es : Exprs) {s : S} → P s → P (load_bytes R t base es s)
  unfolding load_bytes
  keep_load_bytes none p = p
  keep_load_bytes (more e es) p = keep_load_bytes es (keep_load_byte (byte_of t base e) (expr_range e) p)

  keep_load_node : {s : S} (r : Range) (es : Exprs) → P s → P (load_node R t base r es s)
  unfolding load_node
  keep_load_node r none p = noted p
  keep_load_node r (more e es) p =
      let q = keep_bad_bytes (more e es) p in
      pick_kept (all_bytes R t base (more e es)) (emitted refl (keep_load_bytes (more e es) q)) q

  pub keep_load : {s : S} (r : Range) (es : Exprs) → P s → P (compile_load R t base r es s)
  unfolding compile_load
  keep_load r none p = p
  keep_load r (more e es) p = keep_load_node r es (keep_typed Real e p)

  -- LOCATE
  keep_locate_row : {s : S} (e : Opt Expr) → P s → P (locate_row R t base e s)
  keep_locate_row absent p = p
  keep_locate_row (given e) p = emitted refl (keep_typed Real e p)

  keep_locate_column : {s : S} (e : Opt Expr) → P s → P (locate_column R t base e s)
  keep_locate_column absent p = p
  keep_locate_column (given e) p = emitted refl (keep_typed Real e p)

  pub keep_locate : {s : S} (a b : Opt Expr) → P s → P (compile_locate R t base a b s)
  unfolding compile_locate
  keep_locate a b p = keep_locate_column b (keep_locate_row a p)

  -- NEXT
  keep_next_one : {s : S} (n : ℕ) (r : Range) (v : Opt Range) → P s → P (next_one R t base n r v s)
  keep_next_one n r absent p = p
  keep_next_one {s} n r (given v) p = let q = keep_sym v p in emitted refl (pick_kept (matches_type (compile_sym R t base v s).ty Real) q (noted {k = 5} {r = v} {v = 1} q))

  keep_next_each : (n : ℕ) (r : Range) (vs : List (Opt Range)) {s : S} → P s → P (next_each R t base n r vs s)
  unfolding next_each
  keep_next_each n r [] p = p
  keep_next_each n r (v ∷ vs) p = keep_next_each n r vs (keep_next_one n r v p)

  pub keep_next : {s : S} (r : Range) (vs : List (Opt Range)) → P s → P (compile_next R t base r vs s)
  unfolding compile_next
  keep_next r [] p = emitted refl p
  keep_next r (v ∷ vs) p = keep_next_each (length (v ∷ vs)) r (v ∷ vs) p

  -- ON
  keep_on_jumps : (sub : ℕ) (gs : List OnTarget) {s : S} → P s → P (on_jumps R t base sub gs s)
  unfolding on_jumps
  keep_on_jumps sub [] p = p
  keep_on_jumps sub (g ∷ gs) p = keep_on_jumps sub gs (keep_waiting sub _ _ _ p)

  pub keep_on : {s : S} (r : Range) (e : Expr) (gs : List OnTarget) (sub : ℕ) → P s → P (compile_on R t base r e gs sub s)
  unfolding compile_on
  keep_on r e gs sub p = keep_on_jumps sub gs (emitted refl (keep_typed Real e p))

  -- OPEN
  keep_open_node : {s : S} (r : Range) (m : ℕ) (l : Opt Len) → P s → P (open_node R t base r m l s)
  keep_open_node r m absent p = emitted refl p
  keep_open_node r m (given l) p =
      let q = keep_typed Real l.value (pick_kept (ltb 1 m) (noted {k = 12} {r = l.range} {v = 1} p) p) in
      pick_kept (eqb m 0) q (emitted refl q)

  pub keep_open : {s : S} (r : Range) (f : Expr) (m : ℕ) (e : Expr) (l : Opt Len) → P s → P (compile_open R t base r f m e l s)
  unfolding compile_open
  keep_open r f m e l p = keep_open_node r m l (keep_typed Real e (keep_typed String f p))

  -- PRINT
  keep_tab : {s : S} (e : Expr) → P s → P (tab_call R t base e s)
  keep_tab (sys_func_call r fr k es) p =
      let q = keep_args (wanted (signature_of k).args) zero es (keep_surplus 1 es p) in
      pick_kept (eqb k spc) (emitted refl q) (emitted refl q)
  keep_tab (ident r) p = p
  keep_tab (string_lit r) p = p
  keep_tab (number_lit r e m) p = p
  keep_tab (user_func_call r f e) p = p
  keep_tab (binary r a o k b) p = p
  keep_tab (unary r k e) p = p
  keep_tab (index r n es) p = p
  keep_tab (inkey r) p = p
  keep_tab (error r) p = p

  keep_print_value : {s : S} (e : Expr) → P s → P (print_value R t base e s)
  keep_print_value {s} e p =
      let q = keep_expr e p in
      pick_kept (matches_type (compile_expr R t base e s).ty Real) (emitted refl q) (emitted refl q)

  keep_behind : {s : S} (b : Bool) (r er : Range) (xs : List PrintElement) → P s → P (behind_value R t base b r er xs s)
  keep_behind b r er [] p = emitted refl p
  keep_behind b r er (x ∷ xs) p = pick_kept (both (is_value x) (pick b false true)) (emitted refl (emitted refl p)) p

  keep_print_one : {s : S} (r : Range) (x : PrintElement) (xs : List PrintElement) → P s → P (print_one R t base r x xs s)
  keep_print_one r (value e) xs p = keep_behind (is_tab_spc e) r (expr_range e) xs (pick_kept (is_tab_spc e) (keep_tab e p) (keep_print_value e p))
  keep_print_one r (comma er) xs p = emitted refl p
  keep_print_one r (semicolon er) xs p = p

  keep_print_each : (r : Range) (xs : List PrintElement) {s : S} → P s → P (print_each R t base r xs s)
  unfolding print_each
  keep_print_each r [] p = p
  keep_print_each r (x ∷ xs) p = keep_print_each r xs (keep_print_one r x xs p)

  keep_empty_line : {s : S} (r : Range) (xs : List PrintElement) → P s → P (empty_line R t base r xs s)
  keep_empty_line r [] p = emitted refl p
  keep_empty_line r (x ∷ xs) p = p

  pub keep_print : {s : S} (r : Range) (xs : List PrintElement) → P s → P (compile_print R t base r xs s)
  unfolding compile_print
  keep_print r xs p = emitted refl (keep_empty_line r xs (keep_print_each r xs p))

  -- READ, SWAP, WHILE
  pub keep_read : (es : Exprs) {s : S} → P s → P (compile_read R t base es s)
  unfolding compile_read
  keep_read none p = p
  keep_read (more e es) p = keep_read es (emitted refl (keep_lvalue e p))

  pub keep_swap : {s : S} (r : Range) (a b : Expr) → P s → P (compile_swap R t base r a b s)
  unfolding compile_swap
  keep_swap {s} r a b p =
      let x = compile_lvalue R t base a s in
      let q = keep_lvalue b (keep_lvalue a p) in
      emitted refl (pick_kept (exact_matches x.ty (compile_lvalue R t base b x.state).ty) q (noted {k = 4} {r = r} {v = 1} q))

  pub keep_while : {s : S} (r : Range) (e : Expr) → P s → P (compile_while R t base r e s)
  unfolding compile_while
  keep_while r e p = emitted refl (keep_typed Real e p)
