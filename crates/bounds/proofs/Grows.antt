-- What compiling an expression, and a statement, makes at most, for any recorder whose operations are counted: all that a statement
-- makes is within what its words allow. Of facts that every operation keeps it says that they hold of all that is made.
use mathlib.Core.Path.{◌≡◌, refl}
use mathlib.Core.List.{List, [], ◌∷◌}
use mathlib.Core.Bool.{Bool, true, false}
use Prim.Native.Nat.{ℕ, zero, suc, ◌+◌}
use lib.Dec.{ltb, eqb}
use lib.ListN.{length}
use native.Mathlib.Omega.{arith}
use Rattle.recorder.specs.Word.{pick, both, either}
use Rattle.recorder.specs.declared.word.Range.{Range}
use Rattle.recorder.specs.Recorder.{Recorder}
use Rattle.recorder.specs.Calls.{Awaited, no_label, for_label, emit_goto, emit_gosub, warning_note, blank_in_name}
use Rattle.sheet.specs.Tree.{Opt, absent, given, Expr, ident, string_lit, number_lit, sys_func_call, user_func_call, binary, unary, index, inkey, error, Exprs, none, more, expr_range, count, Datum, FieldSpec, Target, OnTarget, Len, WriteElement, PrintElement, value, comma, semicolon, InputSource, keyboard, file, Stmt, rem, op₀, op₁, op₂, op₃, draw, set, data_list, def, dim, field, for, go, if_then, if_else, input, assign, load, locate, next_of, on, open_file, print, read, restore, swap, system, while, write, Stmts, end, then}
use Rattle.rules.specs.declared.types.«Type».{«Type» as Ty}
use Rattle.rules.specs.declared.types.«Type».TheVariants.{Integer, Real, String, Error}
use Rattle.rules.specs.Types.{matches_type, exact_matches}
use Rattle.rules.specs.Name.{read_name}
use Rattle.rules.specs.Tables.{draw_arity, drawn, operand, signature_of, tab, spc, wanted, every_real}
use Rattle.rules.specs.Expr.{Out, text_size, quoted_length, is_text, blank_note, compile_sym, check_type, check_real, real_sym, var_node, text_node, number_node, arity_notes, func_notes, func_node, opt_real_sym, user_call, like_node, arith_node, binary_node, unary_node, index_node, compile_expr, compile_args, compile_typed, index_place, compile_lvalue}
use Rattle.rules.specs.Stmt.{byte_of, is_ident, datum_length, label_or0, is_value, is_file, is_tab_spc, is_last, surplus_notes, draw_node, datum_node, compile_data, def_node, compile_def, dim_node, dim_one, compile_dim, place_typed, compile_fields, compile_field, compile_step, for_node, compile_for, compile_go, compile_restore, input_arg_by, fn_place, fn_input, input_var, input_vars, input_source, compile_input, assign_call, assign_node, compile_let, bad_byte, bad_bytes, all_bytes, load_byte, load_bytes, load_node, compile_load, locate_row, locate_column, compile_locate, next_one, next_each, compile_next, on_jumps, compile_on, open_node, compile_open, tab_call, print_value, behind_value, print_one, print_each, empty_line, compile_print, compile_read, compile_swap, compile_while, write_value, write_each, compile_write, compile_stmt, compile_stmts}
use Rattle.bounds.specs.Size.{expr_words, exprs_words, opt_expr, opt_target, opt_len, source_words, element_words, elements_words, written_words, specs_words, ones, twos, stmt_words, stmts_words}
use Rattle.bounds.proofs.Tally.{Tally, makes, reads, valued, args, noted, entered, plus_is, Counts, CountsLines, two_words, count_words}

module _ {S : Type 0} {R : Recorder S} {P : Tally → S → Type 0} (t : List ℕ) (base : ℕ) (κ : Counts R t base P) where
  -- what is allowed and not made
  unmade : {k : Tally} {s : S} (r n b : ℕ) → P k s → P (makes r n b k) s
  unmade {k} r n b p = κ.fit p (omega (arith, plus_is r k.records, plus_is n k.notes, plus_is b k.entries))

  pub pick_in : {k : Tally} {s u : S} (c : Bool) → P k s → P k u → P k (pick c s u)
  pick_in true p q = p
  pick_in false p q = q

  pick_out : {k : Tally} (a b : Out S) (c : Bool) → P k a.state → P k b.state → P k (pick c a b).state
  pick_out a b true p q = p
  pick_out a b false p q = q

  -- names, and notes about kinds
  grow_blank : {k : Tally} {s : S} (r : Range) → P k s → P (makes 0 1 0 k) (blank_note R t base (read_name t base r).lost r s)
  grow_blank {k} {s} r p = go (ltb 0 (read_name t base r).lost) refl
    where
      go : (b : Bool) → ltb 0 (read_name t base r).lost ≡ b → P (makes 0 1 0 k) (pick b (R.note_lost s blank_in_name r warning_note (read_name t base r).lost) s)
      go true e = κ.blank r e p
      go false e = unmade 0 1 0 p

  grow_sym : {k : Tally} {s : S} (r : Range) → P k s → P (makes 0 1 1 k) (compile_sym R t base r s).state
  unfolding compile_sym
  grow_sym r p = κ.symbol (grow_blank r p)

  grow_check : {k : Tally} {s : S} (want : Ty) (r : Range) (x : Ty) → P k s → P (makes 0 1 0 k) (check_type R t base want r x s)
  unfolding check_type
  grow_check want r x p = pick_in (matches_type x want) (unmade 0 1 0 p) (κ.error refl p)

  grow_real_sym : {k : Tally} {s : S} (r : Range) → P k s → P (makes 0 2 1 k) (real_sym R t base r s).state
  unfolding real_sym check_real
  grow_real_sym {s = s} r p = let q = grow_sym r p in pick_in (exact_matches (compile_sym R t base r s).ty Real) (unmade 0 1 0 q) (κ.error refl q)

  grow_opt_real_sym : {k : Tally} {s : S} (f : Opt Range) → P k s → P (makes 0 2 1 k) (opt_real_sym R t base f s).state
  grow_opt_real_sym absent p = unmade 0 2 1 p
  grow_opt_real_sym (given fr) p = grow_real_sym fr p

  -- expressions
  grow_text : {k : Tally} {s : S} (r : Range) → P k s → P (makes 1 1 0 k) (text_node R t base r s)
  unfolding text_node
  grow_text r p = let q = κ.emit refl p in pick_in (ltb 255 (text_size (quoted_length t base r))) (κ.error refl q) (unmade 0 1 0 q)

  grow_number : {k : Tally} {s : S} (r : Range) (e m : ℕ) → P k s → P (makes 1 1 0 k) (number_node R t base r e m s)
  unfolding number_node
  grow_number r e m p = pick_in (eqb e 256) (unmade 1 0 0 (κ.error refl p)) (unmade 0 1 0 (κ.emit refl p))

  grow_func_notes : {k : Tally} {s : S} (f n : ℕ) (fr r : Range) → P k s → P (makes 0 2 0 k) (func_notes R t base f n fr r s)
  unfolding func_notes arity_notes
  grow_func_notes f n fr r p =
      let q = pick_in (either (eqb f tab) (eqb f spc)) (κ.error refl p) (unmade 0 1 0 p) in
      pick_in (ltb n (signature_of f).min) (κ.error refl q) (pick_in (ltb (length (signature_of f).args) n) (κ.error refl q) (unmade 0 1 0 q))

  grow_user : {k : Tally} {s : S} (f : Opt Range) (r : Range) (n : ℕ) → P k s → P (makes 1 0 0 k) (user_call R t base f r n s)
  grow_user absent r n p = unmade 1 0 0 p
  grow_user (given fr) r n p = κ.emit refl p

  grow_like : {k : Tally} {s : S} (f : ℕ) (r o : Range) (x y : Ty) → P k s → P (makes 1 2 0 k) (like_node R t base f r o x y s).state
  unfolding like_node
  grow_like f r o x y p =
      pick_out _ _ (matches_type x y) (unmade 0 2 0 (pick_in (is_text x) (κ.emit refl p) (κ.emit refl p))) (unmade 1 1 0 (κ.error refl p))

  grow_arith : {k : Tally} {s : S} (f : ℕ) (r ar br : Range) (x y : Ty) → P k s → P (makes 1 2 0 k) (arith_node R t base f r ar br x y s).state
  unfolding arith_node
  grow_arith f r ar br x y p = κ.emit refl (grow_check Real br y (grow_check Real ar x p))

  grow_binary : {k : Tally} {s : S} (f : ℕ) (r ar o br : Range) (x y : Ty) → P k s → P (makes 1 2 0 k) (binary_node R t base f r ar o br x y s).state
  unfolding binary_node
  grow_binary f r ar o br x y p = pick_out _ _ (ltb f 7) (grow_like f r o x y p) (grow_arith f r ar br x y p)

  -- an array's name behind its subscripts
  grow_index : {k : Tally} {s : S} (n : Opt Range) (r : Range) (m : ℕ) → P k s → P (makes 1 1 1 k) (index_node R t base n r m s).state
  grow_index absent r m p = unmade 1 1 1 p
  grow_index (given nr) r m p = κ.emit refl (grow_sym nr p)

  mutual
    unfolding compile_expr compile_args expr_words exprs_words count func_node unary_node var_node

    grow_expr : {k : Tally} {s : S} (e : Expr) → P k s → P (valued e k) (compile_expr R t base e s).state
    grow_expr (ident r) p = κ.fit (κ.emit refl (grow_sym r p)) (omega arith)
    grow_expr (string_lit r) p = κ.fit (grow_text r p) (omega arith)
    grow_expr (number_lit r e m) p = κ.fit (grow_number r e m p) (omega arith)
    grow_expr (sys_func_call r fr f es) p =
        κ.fit (κ.emit refl (grow_args (wanted (signature_of f).args) zero es (grow_func_notes f (count es) fr r p))) (omega arith)
    grow_expr (user_func_call r f e) p = κ.fit (grow_user f r _ (grow_check Real (expr_range e) _ (grow_expr e (grow_opt_real_sym f p)))) (omega arith)
    grow_expr (binary r a o f b) p = κ.fit (grow_binary f r (expr_range a) o (expr_range b) _ _ (grow_expr b (grow_expr a p))) (omega arith)
    grow_expr (unary r f e) p = κ.fit (κ.emit refl (grow_check Real (expr_range e) _ (grow_expr e p))) (omega arith)
    grow_expr (index r n es) p = κ.fit (grow_index n r (count es) (grow_args every_real zero es p)) (omega arith)
    grow_expr (inkey r) p = κ.fit (κ.emit refl p) (omega arith)
    grow_expr (error r) p = κ.fit p (omega arith)

    grow_args : {k : Tally} {s : S} (want : ℕ → Ty) (i : ℕ) (es : Exprs) → P k s → P (args es k) (compile_args R t base want i es s)
    grow_args want i none p = κ.fit p (omega arith)
    grow_args want i (more e es) p = κ.fit (grow_args want (suc i) es (grow_check (want i) (expr_range e) _ (grow_expr e p))) (omega arith)

  grow_typed : {k : Tally} {s : S} (want : Ty) (e : Expr) → P k s → P (makes 0 1 0 (valued e k)) (compile_typed R t base want e s)
  grow_typed want e p = grow_check want (expr_range e) _ (grow_expr e p)

  -- an expression of which nothing is made
  pass : {k : Tally} {s : S} (e : Expr) → P k s → P (valued e k) s
  pass e p = κ.fit p (omega (arith, two_words e))

  -- places to store
  grow_index_place : {k : Tally} {s : S} (n : Opt Range) (m : ℕ) → P k s → P (makes 1 1 1 k) (index_place R t base n m s).state
  grow_index_place absent m p = unmade 1 1 1 p
  grow_index_place (given nr) m p = κ.emit refl (grow_sym nr p)

  grow_lvalue : {k : Tally} {s : S} (e : Expr) → P k s → P (valued e k) (compile_lvalue R t base e s).state
  unfolding compile_lvalue expr_words
  grow_lvalue (ident r) p = κ.fit (κ.emit refl (grow_sym r p)) (omega arith)
  grow_lvalue (index r n es) p = κ.fit (grow_index_place n (count es) (grow_args every_real zero es p)) (omega arith)
  grow_lvalue (string_lit r) p = pass (string_lit r) p
  grow_lvalue (number_lit r e m) p = pass (number_lit r e m) p
  grow_lvalue (sys_func_call r fr f es) p = pass (sys_func_call r fr f es) p
  grow_lvalue (user_func_call r f e) p = pass (user_func_call r f e) p
  grow_lvalue (binary r a o f b) p = pass (binary r a o f b) p
  grow_lvalue (unary r f e) p = pass (unary r f e) p
  grow_lvalue (inkey r) p = pass (inkey r) p
  grow_lvalue (error r) p = pass (error r) p

  grow_place : {k : Tally} {s : S} (want : Ty) (e : Expr) → P k s → P (makes 0 1 0 (valued e k)) (place_typed R t base want e s)
  grow_place want e p = grow_check want (expr_range e) _ (grow_lvalue e p)

  -- CIRCLE and its like
  grow_surplus : (n : ℕ) (es : Exprs) {k : Tally} {s : S} → P k s → P (noted es k) (surplus_notes R t base n es s)
  unfolding surplus_notes count
  grow_surplus n none p = κ.fit p (omega arith)
  grow_surplus zero (more e es) p = κ.fit (grow_surplus zero es (κ.error refl p)) (omega arith)
  grow_surplus (suc n) (more e es) p = κ.fit (grow_surplus n es p) (omega arith)

  grow_draw : {k : Tally} {s : S} (f : ℕ) (r : Range) (es : Exprs) → P k s → P (reads (3 + exprs_words es) k) (draw_node R t base f r es (compile_args R t base (drawn f) zero es s))
  unfolding draw_node
  grow_draw f r es p =
      let q = grow_args (drawn f) zero es p in
      pick_in (ltb (count es) (draw_arity f).min) (κ.fit (κ.error refl q) (omega arith))
      (pick_in (ltb (draw_arity f).max (count es)) (κ.fit (grow_surplus (draw_arity f).max es q) (omega arith)) (κ.fit (κ.emit refl q) (omega arith)))

  -- DATA
  grow_datum : {k : Tally} {s : S} (d : Datum) → P k s → P (makes 0 1 1 k) (datum_node R t base d s)
  unfolding datum_node
  grow_datum d p = let q = κ.datum p in pick_in (ltb 255 (text_size (datum_length t base d))) (κ.error refl q) (unmade 0 1 0 q)

  grow_data : (ds : List Datum) {k : Tally} {s : S} → P k s → P (reads (twos ds) k) (compile_data R t base ds s)
  unfolding compile_data twos
  grow_data [] p = κ.fit p (omega arith)
  grow_data (d ∷ ds) p = κ.fit (grow_data ds (grow_datum d p)) (omega arith)

  -- DIM
  grow_dim_node : {k : Tally} {s : S} (x : Opt Range) (n : ℕ) → P k s → P (makes 1 1 1 k) (dim_node R t base x n s)
  grow_dim_node absent n p = unmade 1 1 1 p
  grow_dim_node (given nr) n p = κ.emit refl (grow_sym nr p)

  grow_dim_one : {k : Tally} {s : S} (e : Expr) → P k s → P (valued e k) (dim_one R t base e s)
  unfolding dim_one expr_words
  grow_dim_one (index r n es) p = κ.fit (grow_dim_node n (count es) (grow_args every_real zero es p)) (omega arith)
  grow_dim_one (ident r) p = pass (ident r) p
  grow_dim_one (string_lit r) p = pass (string_lit r) p
  grow_dim_one (number_lit r e m) p = pass (number_lit r e m) p
  grow_dim_one (sys_func_call r fr f es) p = pass (sys_func_call r fr f es) p
  grow_dim_one (user_func_call r f e) p = pass (user_func_call r f e) p
  grow_dim_one (binary r a o f b) p = pass (binary r a o f b) p
  grow_dim_one (unary r f e) p = pass (unary r f e) p
  grow_dim_one (inkey r) p = pass (inkey r) p
  grow_dim_one (error r) p = pass (error r) p

  grow_dim : (es : Exprs) {k : Tally} {s : S} → P k s → P (reads (exprs_words es) k) (compile_dim R t base es s)
  unfolding compile_dim exprs_words
  grow_dim none p = κ.fit p (omega arith)
  grow_dim (more e es) p = κ.fit (grow_dim es (grow_dim_one e p)) (omega arith)

  -- FIELD
  grow_fields : (fs : List FieldSpec) {k : Tally} {s : S} → P k s → P (reads (specs_words fs) k) (compile_fields R t base fs s)
  unfolding compile_fields specs_words
  grow_fields [] p = κ.fit p (omega arith)
  grow_fields (f ∷ fs) p = κ.fit (grow_fields fs (grow_place String f.var (grow_typed Real f.len p))) (omega arith)

  -- FOR
  grow_step : {k : Tally} {s : S} (e : Opt Expr) → P k s → P (reads (opt_expr e) k) (compile_step R t base e s)
  grow_step absent p = κ.fit p (omega arith)
  grow_step (given e) p = κ.fit (grow_typed Real e p) (omega arith)

  grow_for : {k : Tally} {s : S} (v : Opt Range) (r : Range) (n : ℕ) (e : Opt Expr) → P k s → P (makes 1 0 0 k) (for_node R t base v r n e s)
  grow_for absent r n e p = unmade 1 0 0 p
  grow_for (given v) r n e p = κ.emit refl p

  -- GOTO, GOSUB, RESTORE
  grow_jump : {k : Tally} {s : S} (sub : ℕ) (r : Range) (w : Awaited) → P k s → P (makes 1 1 0 k) (pick (eqb sub 1) (emit_gosub (R.emit s) w r) (emit_goto (R.emit s) w r))
  grow_jump sub r w p = pick_in (eqb sub 1) (κ.emit_waiting w p) (κ.emit_waiting w p)

  grow_go : {k : Tally} {s : S} (r : Range) (sub : ℕ) (x : Opt Target) → P k s → P (reads (1 + opt_target x) k) (compile_go R t base r sub x s)
  unfolding compile_go
  grow_go r sub absent p = κ.fit (grow_jump sub r (for_label 0 r) p) (omega arith)
  grow_go r sub (given x) p = κ.fit (grow_jump sub r (for_label x.label x.range) p) (omega arith)

  grow_restore : {k : Tally} {s : S} (r : Range) (x : Opt Target) → P k s → P (reads (1 + opt_target x) k) (compile_restore R t base r x s)
  grow_restore r absent p = κ.fit (κ.emit_waiting no_label p) (omega arith)
  grow_restore r (given x) p = κ.fit (κ.emit_waiting (for_label x.label x.range) p) (omega arith)

  -- INPUT
  grow_input_arg : {k : Tally} {s : S} (b : Bool) (e : Expr) → P k s → P (makes 0 2 1 k) (input_arg_by R t base b e s).state
  grow_input_arg true e p = grow_real_sym (expr_range e) p
  grow_input_arg false e p = unmade 0 1 1 (κ.error refl p)

  grow_fn_place : {k : Tally} {s : S} (f : Opt Range) (b : Bool) (r : Range) (n a : ℕ) → P k s → P (makes 1 0 0 k) (fn_place R t base f b r n a s)
  grow_fn_place absent b r n a p = unmade 1 0 0 p
  grow_fn_place (given fr) false r n a p = unmade 1 0 0 p
  grow_fn_place (given fr) true r n a p = κ.emit refl p

  grow_fn_input : {k : Tally} {s : S} (b : Bool) (r : Range) (f : Opt Range) (e : Expr) → P k s → P (valued (user_func_call r f e) k) (fn_input R t base b r f e s)
  unfolding expr_words
  grow_fn_input true r f e p = κ.fit (κ.error refl p) (omega arith)
  grow_fn_input false r f e p = κ.fit (grow_fn_place f (is_ident e) r _ _ (grow_input_arg (is_ident e) e (grow_opt_real_sym f p))) (omega (arith, two_words e))

  grow_input_var : {k : Tally} {s : S} (b : Bool) (e : Expr) → P k s → P (valued e k) (input_var R t base b e s)
  unfolding input_var
  grow_input_var b (user_func_call r f e) p = grow_fn_input b r f e p
  grow_input_var b (ident r) p = grow_lvalue (ident r) p
  grow_input_var b (string_lit r) p = grow_lvalue (string_lit r) p
  grow_input_var b (number_lit r e m) p = grow_lvalue (number_lit r e m) p
  grow_input_var b (sys_func_call r fr f es) p = grow_lvalue (sys_func_call r fr f es) p
  grow_input_var b (binary r x o f y) p = grow_lvalue (binary r x o f y) p
  grow_input_var b (unary r f e) p = grow_lvalue (unary r f e) p
  grow_input_var b (index r n es) p = grow_lvalue (index r n es) p
  grow_input_var b (inkey r) p = grow_lvalue (inkey r) p
  grow_input_var b (error r) p = grow_lvalue (error r) p

  grow_input_vars : (b : Bool) (es : Exprs) {k : Tally} {s : S} → P k s → P (reads (exprs_words es) k) (input_vars R t base b es s)
  unfolding input_vars exprs_words
  grow_input_vars b none p = κ.fit p (omega arith)
  grow_input_vars b (more e es) p = κ.fit (grow_input_vars b es (grow_input_var b e p)) (omega arith)

  grow_source : {k : Tally} {s : S} (r : Range) (n : ℕ) (x : InputSource) → P k s → P (reads (source_words x) k) (input_source R t base r n x s)
  grow_source r n (keyboard absent) p = κ.fit (κ.emit refl p) (omega arith)
  grow_source r n (keyboard (given q)) p = κ.fit (κ.emit refl (grow_text q p)) (omega arith)
  grow_source r n (file e) p = κ.fit (κ.emit refl (grow_typed Real e p)) (omega arith)

  -- LET
  grow_assign_call : {k : Tally} {s : S} (x : Ty) (r : Range) → P k s → P (makes 1 0 0 k) (assign_call R t base x r s)
  grow_assign_call Integer r p = κ.emit refl p
  grow_assign_call Real r p = κ.emit refl p
  grow_assign_call String r p = κ.emit refl p
  grow_assign_call Error r p = unmade 1 0 0 p

  grow_assign : {k : Tally} {s : S} (r : Range) (x y : Ty) → P k s → P (makes 1 1 0 k) (assign_node R t base r x y s)
  unfolding assign_node
  grow_assign r x y p = grow_assign_call x r (pick_in (matches_type x y) (unmade 0 1 0 p) (κ.error refl p))

  -- LOAD
  grow_bad_byte : {k : Tally} {s : S} (o : Opt ℕ) (r : Range) → P k s → P (makes 0 1 0 k) (bad_byte R t base o r s)
  grow_bad_byte absent r p = κ.error refl p
  grow_bad_byte (given b) r p = unmade 0 1 0 p

  grow_bad_bytes : (es : Exprs) {k : Tally} {s : S} → P k s → P (noted es k) (bad_bytes R t base es s)
  unfolding bad_bytes count
  grow_bad_bytes none p = κ.fit p (omega arith)
  grow_bad_bytes (more e es) p = κ.fit (grow_bad_bytes es (grow_bad_byte (byte_of t base e) (expr_range e) p)) (omega arith)

  grow_load_byte : {k : Tally} {s : S} (o : Opt ℕ) (r : Range) → P k s → P (makes 0 0 1 k) (load_byte R t base o r s)
  grow_load_byte absent r p = unmade 0 0 1 p
  grow_load_byte (given b) r p = κ.byte p

  grow_load_bytes : (es : Exprs) {k : Tally} {s : S} → P k s → P (entered es k) (load_bytes R t base es s)
  unfolding load_bytes count
  grow_load_bytes none p = κ.fit p (omega arith)
  grow_load_bytes (more e es) p = κ.fit (grow_load_bytes es (grow_load_byte (byte_of t base e) (expr_range e) p)) (omega arith)

  grow_load_node : {k : Tally} {s : S} (r : Range) (es : Exprs) → P k s → P (reads (1 + exprs_words es) k) (load_node R t base r es s)
  unfolding load_node
  grow_load_node r none p = κ.fit (κ.error refl p) (omega arith)
  grow_load_node r (more e es) p =
      let q = grow_bad_bytes (more e es) p in
      let h = count_words (more e es) in
      pick_in (all_bytes R t base (more e es)) (κ.fit (κ.emit refl (grow_load_bytes (more e es) q)) (omega arith)) (κ.fit q (omega arith))

  grow_load : {k : Tally} {s : S} (r : Range) (es : Exprs) → P k s → P (reads (3 + exprs_words es) k) (compile_load R t base r es s)
  unfolding compile_load exprs_words
  grow_load r none p = κ.fit p (omega arith)
  grow_load r (more e es) p = κ.fit (grow_load_node r es (grow_typed Real e p)) (omega arith)

  -- LOCATE
  grow_locate_row : {k : Tally} {s : S} (e : Opt Expr) → P k s → P (reads (opt_expr e) k) (locate_row R t base e s)
  grow_locate_row absent p = κ.fit p (omega arith)
  grow_locate_row (given e) p = κ.fit (κ.emit refl (grow_typed Real e p)) (omega arith)

  grow_locate_column : {k : Tally} {s : S} (e : Opt Expr) → P k s → P (reads (opt_expr e) k) (locate_column R t base e s)
  grow_locate_column absent p = κ.fit p (omega arith)
  grow_locate_column (given e) p = κ.fit (κ.emit refl (grow_typed Real e p)) (omega arith)

  -- NEXT
  grow_next_one : {k : Tally} {s : S} (n : ℕ) (r : Range) (v : Opt Range) → P k s → P (reads 1 k) (next_one R t base n r v s)
  grow_next_one n r absent p = κ.fit p (omega arith)
  grow_next_one {s = s} n r (given v) p =
      let q = grow_sym v p in
      κ.fit (κ.emit refl (pick_in (matches_type (compile_sym R t base v s).ty Real) (unmade 0 1 0 q) (κ.error refl q))) (omega arith)

  grow_next_each : (n : ℕ) (r : Range) (vs : List (Opt Range)) {k : Tally} {s : S} → P k s → P (reads (ones vs) k) (next_each R t base n r vs s)
  unfolding next_each ones
  grow_next_each n r [] p = κ.fit p (omega arith)
  grow_next_each n r (v ∷ vs) p = κ.fit (grow_next_each n r vs (grow_next_one n r v p)) (omega arith)

  grow_next : {k : Tally} {s : S} (r : Range) (vs : List (Opt Range)) → P k s → P (reads (3 + ones vs) k) (compile_next R t base r vs s)
  unfolding compile_next
  grow_next r [] p = κ.fit (κ.emit refl p) (omega arith)
  grow_next r (v ∷ vs) p = κ.fit (grow_next_each (length (v ∷ vs)) r (v ∷ vs) p) (omega arith)

  -- ON
  grow_on : (sub : ℕ) (xs : List OnTarget) {k : Tally} {s : S} → P k s → P (reads (twos xs) k) (on_jumps R t base sub xs s)
  unfolding on_jumps twos
  grow_on sub [] p = κ.fit p (omega arith)
  grow_on sub (x ∷ xs) p = κ.fit (grow_on sub xs (grow_jump sub x.range (for_label (label_or0 x.label) x.range) p)) (omega arith)

  -- OPEN
  grow_open : {k : Tally} {s : S} (r : Range) (m : ℕ) (l : Opt Len) → P k s → P (reads (opt_len l) k) (open_node R t base r m l s)
  grow_open r m absent p = κ.fit (κ.emit refl p) (omega arith)
  grow_open r m (given l) p =
      let q = grow_typed Real l.value (pick_in (ltb 1 m) (κ.error refl p) (unmade 0 1 0 p)) in
      pick_in (eqb m 0) (κ.fit q (omega arith)) (κ.fit (κ.emit refl q) (omega arith))

  -- PRINT
  grow_tab : {k : Tally} {s : S} (e : Expr) → P k s → P (makes 1 0 0 (valued e k)) (tab_call R t base e s)
  unfolding expr_words
  grow_tab (sys_func_call r fr f es) p =
      let q = grow_args (wanted (signature_of f).args) zero es (grow_surplus 1 es p) in
      κ.fit (pick_in (eqb f spc) (κ.emit refl q) (κ.emit refl q)) (omega arith)
  grow_tab (ident r) p = unmade 1 0 0 (pass (ident r) p)
  grow_tab (string_lit r) p = unmade 1 0 0 (pass (string_lit r) p)
  grow_tab (number_lit r e m) p = unmade 1 0 0 (pass (number_lit r e m) p)
  grow_tab (user_func_call r f e) p = unmade 1 0 0 (pass (user_func_call r f e) p)
  grow_tab (binary r a o f b) p = unmade 1 0 0 (pass (binary r a o f b) p)
  grow_tab (unary r f e) p = unmade 1 0 0 (pass (unary r f e) p)
  grow_tab (index r n es) p = unmade 1 0 0 (pass (index r n es) p)
  grow_tab (inkey r) p = unmade 1 0 0 (pass (inkey r) p)
  grow_tab (error r) p = unmade 1 0 0 (pass (error r) p)

  grow_print_value : {k : Tally} {s : S} (e : Expr) → P k s → P (makes 1 0 0 (valued e k)) (print_value R t base e s)
  grow_print_value {s = s} e p =
      let q = grow_expr e p in
      pick_in (matches_type (compile_expr R t base e s).ty Real) (κ.emit refl q) (κ.emit refl q)

  grow_behind : {k : Tally} {s : S} (b : Bool) (r er : Range) (xs : List PrintElement) → P k s → P (makes 2 0 0 k) (behind_value R t base b r er xs s)
  grow_behind b r er [] p = unmade 1 0 0 (κ.emit refl p)
  grow_behind b r er (x ∷ xs) p = pick_in (both (is_value x) (pick b false true)) (κ.emit refl (κ.emit refl p)) (unmade 2 0 0 p)

  grow_print_one : {k : Tally} {s : S} (r : Range) (x : PrintElement) (xs : List PrintElement) → P k s → P (reads (element_words x) k) (print_one R t base r x xs s)
  grow_print_one r (value e) xs p =
      κ.fit (grow_behind (is_tab_spc e) r (expr_range e) xs (pick_in (is_tab_spc e) (grow_tab e p) (grow_print_value e p))) (omega arith)
  grow_print_one r (comma er) xs p = κ.fit (κ.emit refl p) (omega arith)
  grow_print_one r (semicolon er) xs p = κ.fit p (omega arith)

  grow_print_each : (r : Range) (xs : List PrintElement) {k : Tally} {s : S} → P k s → P (reads (elements_words xs) k) (print_each R t base r xs s)
  unfolding print_each elements_words
  grow_print_each r [] p = κ.fit p (omega arith)
  grow_print_each r (x ∷ xs) p = κ.fit (grow_print_each r xs (grow_print_one r x xs p)) (omega arith)

  grow_empty_line : {k : Tally} {s : S} (r : Range) (xs : List PrintElement) → P k s → P (makes 1 0 0 k) (empty_line R t base r xs s)
  grow_empty_line r [] p = κ.emit refl p
  grow_empty_line r (x ∷ xs) p = unmade 1 0 0 p

  -- READ
  grow_read : (es : Exprs) {k : Tally} {s : S} → P k s → P (reads (exprs_words es) k) (compile_read R t base es s)
  unfolding compile_read exprs_words
  grow_read none p = κ.fit p (omega arith)
  grow_read (more e es) p = κ.fit (grow_read es (κ.emit refl (grow_lvalue e p))) (omega arith)

  -- SWAP
  grow_swap : {k : Tally} {s : S} (r : Range) (a b : Expr) → P k s → P (makes 1 1 0 (valued b (valued a k))) (compile_swap R t base r a b s)
  unfolding compile_swap
  grow_swap {s = s} r a b p =
      let x = compile_lvalue R t base a s in
      let q = grow_lvalue b (grow_lvalue a p) in
      κ.emit refl (pick_in (exact_matches x.ty (compile_lvalue R t base b x.state).ty) (unmade 0 1 0 q) (κ.error refl q))

  -- WRITE
  grow_write_value : {k : Tally} {s : S} (n : ℕ) (d : WriteElement) (b : Bool) (x : Ty) → P k s → P (makes 1 1 0 k) (write_value R t base n d b x s)
  unfolding write_value
  grow_write_value n d b x p =
      pick_in (either b (eqb d.comma 1)) (unmade 0 1 0 (pick_in (matches_type x Real) (κ.emit refl p) (κ.emit refl p)))
      (pick_in (matches_type x Real) (κ.emit refl (κ.warning refl p)) (κ.emit refl (κ.warning refl p)))

  grow_write_each : (n : ℕ) (ds : List WriteElement) {k : Tally} {s : S} → P k s → P (reads (written_words ds) k) (write_each R t base n ds s)
  unfolding write_each written_words
  grow_write_each n [] p = κ.fit p (omega arith)
  grow_write_each n (d ∷ ds) p = κ.fit (grow_write_each n ds (grow_write_value n d (is_last ds) _ (grow_expr d.datum p))) (omega arith)

  grow_write : {k : Tally} {s : S} (r : Range) (f : Opt Expr) (ds : List WriteElement) → P k s → P (reads (opt_expr f + written_words ds) k) (compile_write R t base r f ds s)
  grow_write r absent ds p = κ.fit (κ.emit refl (grow_write_each 0 ds p)) (omega arith)
  grow_write r (given e) ds p = κ.fit (grow_write_each 1 ds (grow_typed Real e p)) (omega arith)

  -- statements: a DEF's body is made under laws of its own
  module _ (grow_def : (k : Tally) (s : S) (x y : Opt Range) (r : Range) (n a : ℕ) (e : Expr) → P k s → P (makes 2 1 0 (valued e k)) (def_node R t base x y r n a e s)) where
    mutual
      unfolding compile_stmt compile_stmts stmt_words stmts_words compile_def compile_field compile_for compile_input compile_let compile_locate compile_on compile_open compile_print compile_while

      pub grow_stmt : {k : Tally} {s : S} (x : Stmt) → P k s → P (reads (stmt_words x) k) (compile_stmt R t base x s)
      grow_stmt (rem r) p = κ.fit (κ.emit refl p) (omega arith)
      grow_stmt (op₀ f r) p = κ.fit (κ.emit refl p) (omega arith)
      grow_stmt (op₁ f r a) p = κ.fit (κ.emit refl (grow_typed (operand f 0) a p)) (omega arith)
      grow_stmt (op₂ f r a b) p = κ.fit (κ.emit refl (grow_typed (operand f 1) b (grow_typed (operand f 0) a p))) (omega arith)
      grow_stmt (op₃ f r a b c) p = κ.fit (κ.emit refl (grow_typed (operand f 2) c (grow_typed (operand f 1) b (grow_typed (operand f 0) a p)))) (omega arith)
      grow_stmt (draw f r es) p = grow_draw f r es p
      grow_stmt (set f r a b) p = κ.fit (κ.emit refl (grow_typed String b (grow_place String a p))) (omega arith)
      grow_stmt (data_list r ds) p = κ.fit (grow_data ds p) (omega arith)
      grow_stmt (def r n a e) p = κ.fit (grow_def _ _ n a r _ _ e (grow_opt_real_sym a (grow_opt_real_sym n p))) (omega arith)
      grow_stmt (dim r es) p = κ.fit (grow_dim es p) (omega arith)
      grow_stmt (field r e fs) p = κ.fit (κ.emit refl (grow_typed Real e (grow_fields fs p))) (omega arith)
      grow_stmt (for r v a b e) p = κ.fit (grow_for v r _ e (grow_step e (grow_typed Real b (grow_typed Real a (grow_opt_real_sym v p))))) (omega arith)
      grow_stmt (go r sub x) p = κ.fit (grow_go r sub x p) (omega arith)
      grow_stmt (if_then r e xs) p = κ.fit (κ.patch (grow_stmts xs (κ.emit refl (grow_typed Real e p)))) (omega arith)
      grow_stmt (if_else r e xs ys) p =
          κ.fit (κ.patch (grow_stmts ys (κ.patch (κ.emit_waiting no_label (grow_stmts xs (κ.emit refl (grow_typed Real e p))))))) (omega arith)
      grow_stmt (input r x es) p = κ.fit (grow_source r (count es) x (grow_input_vars (is_file x) es p)) (omega arith)
      grow_stmt (assign r a b) p = κ.fit (grow_assign r _ _ (grow_expr b (grow_lvalue a p))) (omega arith)
      grow_stmt (load r es) p = grow_load r es p
      grow_stmt (locate r a b) p = κ.fit (grow_locate_column b (grow_locate_row a p)) (omega arith)
      grow_stmt (next_of r vs) p = grow_next r vs p
      grow_stmt (on r e xs sub) p = κ.fit (grow_on sub xs (κ.emit refl (grow_typed Real e p))) (omega arith)
      grow_stmt (open_file r f m e l) p = κ.fit (grow_open r m l (grow_typed Real e (grow_typed String f p))) (omega arith)
      grow_stmt (print r xs) p = κ.fit (κ.emit refl (grow_empty_line r xs (grow_print_each r xs p))) (omega arith)
      grow_stmt (read r es) p = κ.fit (grow_read es p) (omega arith)
      grow_stmt (restore r x) p = κ.fit (grow_restore r x p) (omega arith)
      grow_stmt (swap r a b) p = κ.fit (grow_swap r a b p) (omega arith)
      grow_stmt (system r) p = κ.fit (κ.error refl p) (omega arith)
      grow_stmt (while r e) p = κ.fit (κ.emit_while (grow_typed Real e p)) (omega arith)
      grow_stmt (write r f ds) p = κ.fit (grow_write r f ds p) (omega arith)

      pub grow_stmts : {k : Tally} {s : S} (xs : Stmts) → P k s → P (reads (stmts_words xs) k) (compile_stmts R t base xs s)
      grow_stmts end p = κ.fit p (omega arith)
      grow_stmts (then x xs) p = κ.fit (grow_stmts xs (grow_stmt x p)) (omega arith)

module _ {S : Type 0} {R : Recorder S} {t : List ℕ} {m : ℕ} {starts : ℕ → ℕ} {P : Tally → S → Type 0} {W : ℕ → Tally → S → Type 0} {D : ℕ → ℕ → Tally → S → Type 0}
    (κ : CountsLines R t m starts P W D) (base : ℕ) where
  grow_def : (k : Tally) (s : S) (x y : Opt Range) (r : Range) (n a : ℕ) (e : Expr) → W base k s → W base (makes 2 1 0 (valued e k)) (def_node R t base x y r n a e s)
  grow_def k s absent y r n a e p = let γ = κ.counts base in unmade t base γ 2 0 0 (grow_typed t base γ Real e p)
  grow_def k s (given nr) absent r n a e p = let γ = κ.counts base in unmade t base γ 2 0 0 (grow_typed t base γ Real e p)
  grow_def k s (given nr) (given pr) r n a e p =
      let δ = κ.body base (R.count s) in
      κ.end_def (δ.emit refl (grow_typed t base δ Real e (κ.begin_def p)))

  pub grow_block : {k : Tally} {s : S} (xs : Stmts) → W base k s → W base (reads (stmts_words xs) k) (compile_stmts R t base xs s)
  grow_block xs p = grow_stmts t base (κ.counts base) grow_def xs p
