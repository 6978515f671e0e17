-- Compiling statements, over any recorder: compile_stmt of compiler.rs and the functions that it calls, in its order.
use Rattle.std.specs.Prelude.{ℕ, zero, suc, ◌+◌, ◌-◌, ◌*◌, Bool, true, false, List, [], ◌∷◌, length, ◌==◌, nat_le, nat_lt, slice_index}
use Rattle.recorder.specs.Word.{pick, both, either, next, flag_of}
use Rattle.recorder.specs.declared.word.Range.{Range}
use Rattle.recorder.specs.Numbers.{byte_size, text_limit, number_one}
use Rattle.recorder.specs.StmtKind.{swap_stmt}
use Rattle.recorder.specs.Recorder.{Recorder, Named}
use Rattle.recorder.specs.Calls.{no_label, for_label, emit_no_op, emit_op, emit_number, emit_fn_lvalue, emit_assign_int, emit_assign_real, emit_assign_str, emit_jz, emit_goto, emit_gosub, emit_on, emit_for, emit_next, emit_while, begin_def_fn, end_def_fn, emit_dim, emit_field, emit_read, emit_restore, emit_keyboard_input, emit_file_input, emit_open, emit_load_bytes, emit_set_row, emit_set_column, emit_print_num, emit_print_str, emit_print_spc, emit_print_tab, emit_newline, emit_flush, emit_write_num, emit_write_str, emit_pop_num, emit_pop_str, kinds_differ, name_of_wrong_kind, too_few_arguments, too_many_arguments, text_too_long, value_dropped, not_allowed}
use Rattle.sheet.specs.Tree.{Opt, absent, given, Expr, ident, string_lit, number_lit, sys_func_call, user_func_call, binary, unary, index, inkey, error, Exprs, none, more, expr_range, count, Datum, FieldSpec, Target, OnTarget, Len, WriteElement, PrintElement, value, comma, semicolon, InputSource, keyboard, file, Stmt, rem, op₀, op₁, op₂, op₃, draw, set, data_list, def, dim, field, for, go, if_then, if_else, input, assign, load, locate, next_of, on, open_file, print, read, restore, swap, system, while, write, Stmts, end, then}
use Rattle.rules.specs.declared.types.«Type».{«Type» as Ty}
use Rattle.rules.specs.declared.types.«Type».TheVariants.{Integer, Real, String, Error}
use Rattle.rules.specs.Types.{matches_type, exact_matches}
use Rattle.rules.specs.Name.{text_place}
use Rattle.rules.specs.Tables.{draw_arity, drawn, operand, signature_of, wanted, every_real, tab, spc}
use Rattle.rules.specs.Expr.{Sym, after, quoted_start, quoted_length, text_size, add_error, add_warning, compile_sym, check_type, real_sym, no_sym, opt_real_sym, text_node, compile_expr, compile_args, compile_typed, compile_lvalue}

-- a LOAD byte, read as str::parse::<u8> reads it, without blanks: one plus at most, then digits, up to 255.
-- What was read so far: nothing, a plus, a number, or what is no byte.
pub data ByteRead : Type 0 where
  fresh : ByteRead
  signed : ByteRead
  byte_so_far : ℕ → ByteRead
  no_byte : ByteRead

abbrev pub up_to255 : ℕ → ByteRead
up_to255 n = pick (nat_lt n byte_size) (byte_so_far n) no_byte

abbrev pub digit : ByteRead → ℕ → ByteRead
digit fresh d = up_to255 d
digit signed d = up_to255 d
digit (byte_so_far n) d = up_to255 (n * 10 + d)
digit no_byte d = no_byte

abbrev pub plus : ByteRead → ByteRead
plus fresh = signed
plus signed = no_byte
plus (byte_so_far n) = no_byte
plus no_byte = no_byte

abbrev pub is_digit : ℕ → Bool
is_digit u = both (nat_le 48 u) (nat_le u 57)

abbrev pub byte_unit : ByteRead → ℕ → ByteRead
byte_unit b u = pick (u == 32) b (pick (u == 43) (plus b) (pick (is_digit u) (digit b (u - 48)) no_byte))

unfoldable pub byte_units : List ℕ → ℕ → ℕ → ByteRead → ByteRead
byte_units t at zero b = b
byte_units t at (suc n) b = byte_units t (next t at) n (byte_unit b (slice_index t at))

abbrev pub final_byte : ByteRead → Opt ℕ
final_byte fresh = absent
final_byte signed = absent
final_byte (byte_so_far n) = given n
final_byte no_byte = absent

-- of an argument of LOAD behind the first: a number literal alone is read, from the text
abbrev pub byte_of : List ℕ → ℕ → Expr → Opt ℕ
byte_of t base (number_lit r e m) = final_byte (byte_units t (text_place base r.start) (r.end - r.start) fresh)
byte_of t base (ident r) = absent
byte_of t base (string_lit r) = absent
byte_of t base (sys_func_call r fr k es) = absent
byte_of t base (user_func_call r f e) = absent
byte_of t base (binary r a o k b) = absent
byte_of t base (unary r k e) = absent
byte_of t base (index r n es) = absent
byte_of t base (inkey r) = absent
byte_of t base (error r) = absent

-- whether an argument is a variable, as INPUT's function wants it
abbrev pub is_ident : Expr → Bool
is_ident (ident r) = true
is_ident (string_lit r) = false
is_ident (number_lit r e m) = false
is_ident (sys_func_call r fr k es) = false
is_ident (user_func_call r f e) = false
is_ident (binary r a o k b) = false
is_ident (unary r k e) = false
is_ident (index r n es) = false
is_ident (inkey r) = false
is_ident (error r) = false

-- a datum: its place in the text
abbrev pub datum_start : ℕ → Datum → ℕ
datum_start base d = pick (d.quoted == 1) (quoted_start base d.range) (text_place base d.range.start)

abbrev pub datum_length : List ℕ → ℕ → Datum → ℕ
datum_length t base d = pick (d.quoted == 1) (quoted_length t base d.range) (d.range.end - d.range.start)

-- the label that a jump waits for, and the range that its note would carry: "an omitted one label 0"
abbrev pub target_label : Opt Target → ℕ
target_label absent = 0
target_label (given g) = g.label

abbrev pub target_range : Range → Opt Target → Range
target_range r absent = r
target_range r (given g) = g.range

abbrev pub label_or0 : Opt ℕ → ℕ
label_or0 absent = 0
label_or0 (given l) = l

-- whether an element of PRINT is an expression
abbrev pub is_value : PrintElement → Bool
is_value (value e) = true
is_value (comma r) = false
is_value (semicolon r) = false

abbrev pub step_flag : Opt Expr → ℕ
step_flag absent = 0
step_flag (given e) = 1

abbrev pub is_file : InputSource → Bool
is_file (keyboard p) = false
is_file (file e) = true

abbrev pub all_given : Opt ℕ → Bool → Bool
all_given absent b = false
all_given (given n) b = b

abbrev pub next_range : ℕ → Range → Range → Range
next_range n r v = pick (n == 1) r v

-- compile_print: TAB and SPC as an element itself, any other expression, and what follows it
abbrev pub is_tab_spc : Expr → Bool
is_tab_spc (sys_func_call r fr k es) = either (k == tab) (k == spc)
is_tab_spc (ident r) = false
is_tab_spc (string_lit r) = false
is_tab_spc (number_lit r e m) = false
is_tab_spc (user_func_call r f e) = false
is_tab_spc (binary r a o k b) = false
is_tab_spc (unary r k e) = false
is_tab_spc (index r n es) = false
is_tab_spc (inkey r) = false
is_tab_spc (error r) = false

-- compile_write: "11 WRITE value dropped (warning)"
abbrev pub is_last : List WriteElement → Bool
is_last [] = true
is_last (x ∷ xs) = false

module _ {S : Type 0} (R : Recorder S) (t : List ℕ) (base : ℕ) where
  -- compile_draw_stmt: too few arguments, each argument too many, or the call
  unfoldable pub surplus_notes : ℕ → Exprs → S → S
  surplus_notes n none s = s
  surplus_notes zero (more e es) s = surplus_notes zero es (add_error R t base too_many_arguments (expr_range e) s)
  surplus_notes (suc n) (more e es) s = surplus_notes n es s

  unfoldable pub draw_node : ℕ → Range → Exprs → S → S
  draw_node k r es s =
      pick (nat_lt (count es) (draw_arity k).min) (add_error R t base too_few_arguments r s)
      (pick (nat_lt (draw_arity k).max (count es)) (surplus_notes (draw_arity k).max es s) (emit_op (R.emit s) k (count es) r))

  -- compile_data
  unfoldable pub datum_node : Datum → S → S
  datum_node d s =
      pick (nat_lt text_limit (text_size (datum_length t base d)))
      (add_error R t base text_too_long d.range (R.datum s (datum_start base d) (datum_length t base d) d.quoted))
      (R.datum s (datum_start base d) (datum_length t base d) d.quoted)

  unfoldable pub compile_data : List Datum → S → S
  compile_data [] s = s
  compile_data (d ∷ ds) s = compile_data ds (datum_node d s)

  -- compile_def: begin_def_fn, the body, end_def_fn, where name and parameter are there; else the body alone
  abbrev pub end_def : Range → ℕ → S → S
  end_def r k s = let u = end_def_fn (R.emit s) r in R.patch_end u k (R.count u)

  abbrev pub def_body : Expr → S → S
  def_body e s = compile_typed R t base Real e s

  abbrev pub def_node : Opt Range → Opt Range → Range → ℕ → ℕ → Expr → S → S
  def_node absent p r n a e s = def_body e s
  def_node (given nr) absent r n a e s = def_body e s
  def_node (given nr) (given pr) r n a e s = end_def r (R.count s) (def_body e (begin_def_fn (R.emit s) n a r))

  unfoldable pub compile_def : Range → Opt Range → Opt Range → Expr → S → S
  compile_def r n p e s =
      let x = opt_real_sym R t base n s in
      let y = opt_real_sym R t base p x.state in
      def_node n p r x.number y.number e y.state

  -- compile_dim: an array's subscripts and its name; any other expression makes nothing
  abbrev pub dim_by : Range → ℕ → Sym S → S
  dim_by r n y = emit_dim (R.emit y.state) y.number n r

  abbrev pub dim_node : Opt Range → ℕ → S → S
  dim_node absent n s = s
  dim_node (given nr) n s = dim_by nr n (compile_sym R t base nr s)

  unfoldable pub dim_one : Expr → S → S
  dim_one (index r n es) s = dim_node n (count es) (compile_args R t base every_real zero es s)
  dim_one (ident r) s = s
  dim_one (string_lit r) s = s
  dim_one (number_lit r e m) s = s
  dim_one (sys_func_call r fr k es) s = s
  dim_one (user_func_call r f e) s = s
  dim_one (binary r a o k b) s = s
  dim_one (unary r k e) s = s
  dim_one (inkey r) s = s
  dim_one (error r) s = s

  unfoldable pub compile_dim : Exprs → S → S
  compile_dim none s = s
  compile_dim (more e es) s = compile_dim es (dim_one e s)

  -- a place to store of which a kind is wanted
  abbrev pub place_typed : Ty → Expr → S → S
  place_typed want e s = after (compile_lvalue R t base e s) (λ x u. check_type R t base want (expr_range e) x u)

  -- compile_field: the fields first, then the file number
  unfoldable pub compile_fields : List FieldSpec → S → S
  compile_fields [] s = s
  compile_fields (f ∷ fs) s = compile_fields fs (place_typed String f.var (compile_typed R t base Real f.len s))

  unfoldable pub compile_field : Range → Expr → List FieldSpec → S → S
  compile_field r e fs s = emit_field (R.emit (compile_typed R t base Real e (compile_fields fs s))) (length fs) r

  -- compile_for
  abbrev pub compile_step : Opt Expr → S → S
  compile_step absent s = s
  compile_step (given e) s = compile_typed R t base Real e s

  abbrev pub for_node : Opt Range → Range → ℕ → Opt Expr → S → S
  for_node absent r n e s = s
  for_node (given v) r n e s = emit_for (R.emit s) n (step_flag e) r

  unfoldable pub compile_for : Range → Opt Range → Expr → Expr → Opt Expr → S → S
  compile_for r v a b e s =
      let y = opt_real_sym R t base v s in
      for_node v r y.number e (compile_step e (compile_typed R t base Real b (compile_typed R t base Real a y.state)))

  -- compile_go: a jump that waits for its label
  abbrev pub pending_jump : ℕ → Range → ℕ → Range → S → S
  pending_jump sub r l lr s = pick (sub == 1) (emit_gosub (R.emit s) (for_label l lr) r) (emit_goto (R.emit s) (for_label l lr) r)

  unfoldable pub compile_go : Range → ℕ → Opt Target → S → S
  compile_go r sub g s = pending_jump sub r (target_label g) (target_range r g) s

  -- compile_restore
  abbrev pub compile_restore : Range → Opt Target → S → S
  compile_restore r absent s = emit_restore (R.emit s) no_label r
  compile_restore r (given g) s = emit_restore (R.emit s) (for_label g.label g.range) r

  -- compile_input: a variable, or from the keyboard a function of a variable
  abbrev pub input_arg_by : Bool → Expr → S → Named S
  input_arg_by true e s = real_sym R t base (expr_range e) s
  input_arg_by false e s = no_sym R t base (add_error R t base not_allowed (expr_range e) s)

  abbrev pub fn_place : Opt Range → Bool → Range → ℕ → ℕ → S → S
  fn_place absent b r n a s = s
  fn_place (given fr) false r n a s = s
  fn_place (given fr) true r n a s = emit_fn_lvalue (R.emit s) n a r

  abbrev pub input_fn : Range → Opt Range → Expr → S → S
  input_fn r f e s =
      let x = opt_real_sym R t base f s in
      let y = input_arg_by (is_ident e) e x.state in
      fn_place f (is_ident e) r x.number y.number y.state

  abbrev pub fn_input : Bool → Range → Opt Range → Expr → S → S
  fn_input true r f e s = add_error R t base not_allowed r s
  fn_input false r f e s = input_fn r f e s

  unfoldable pub input_var : Bool → Expr → S → S
  input_var is_file (user_func_call r f e) s = fn_input is_file r f e s
  input_var is_file (ident r) s = (compile_lvalue R t base (ident r) s).state
  input_var is_file (string_lit r) s = (compile_lvalue R t base (string_lit r) s).state
  input_var is_file (number_lit r e m) s = (compile_lvalue R t base (number_lit r e m) s).state
  input_var is_file (sys_func_call r fr k es) s = (compile_lvalue R t base (sys_func_call r fr k es) s).state
  input_var is_file (binary r a o k b) s = (compile_lvalue R t base (binary r a o k b) s).state
  input_var is_file (unary r k e) s = (compile_lvalue R t base (unary r k e) s).state
  input_var is_file (index r n es) s = (compile_lvalue R t base (index r n es) s).state
  input_var is_file (inkey r) s = (compile_lvalue R t base (inkey r) s).state
  input_var is_file (error r) s = (compile_lvalue R t base (error r) s).state

  unfoldable pub input_vars : Bool → Exprs → S → S
  input_vars is_file none s = s
  input_vars is_file (more e es) s = input_vars is_file es (input_var is_file e s)

  abbrev pub input_source : Range → ℕ → InputSource → S → S
  input_source r n (keyboard absent) s = emit_keyboard_input (R.emit s) 0 n r
  input_source r n (keyboard (given p)) s = emit_keyboard_input (R.emit (text_node R t base p s)) 1 n r
  input_source r n (file e) s = emit_file_input (R.emit (compile_typed R t base Real e s)) n r

  unfoldable pub compile_input : Range → InputSource → Exprs → S → S
  compile_input r src es s = input_source r (count es) src (input_vars (is_file src) es s)

  -- LET
  abbrev pub assign_call : Ty → Range → S → S
  assign_call Integer r s = emit_assign_int (R.emit s) r
  assign_call Real r s = emit_assign_real (R.emit s) r
  assign_call String r s = emit_assign_str (R.emit s) r
  assign_call Error r s = s

  unfoldable pub assign_node : Range → Ty → Ty → S → S
  assign_node r x y s = assign_call x r (pick (matches_type x y) s (add_error R t base kinds_differ r s))

  unfoldable pub compile_let : Range → Expr → Expr → S → S
  compile_let r a b s = after (compile_lvalue R t base a s) (λ x u. after (compile_expr R t base b u) (λ y v. assign_node r x y v))

  -- compile_load: notes for what is no byte; the bytes only if all are
  abbrev pub bad_byte : Opt ℕ → Range → S → S
  bad_byte absent r s = add_error R t base not_allowed r s
  bad_byte (given b) r s = s

  unfoldable pub bad_bytes : Exprs → S → S
  bad_bytes none s = s
  bad_bytes (more e es) s = bad_bytes es (bad_byte (byte_of t base e) (expr_range e) s)

  unfoldable pub all_bytes : Exprs → Bool
  all_bytes none = true
  all_bytes (more e es) = all_given (byte_of t base e) (all_bytes es)

  abbrev pub load_byte : Opt ℕ → Range → S → S
  load_byte absent r s = s
  load_byte (given b) r s = R.byte s (text_place base r.start) (r.end - r.start) b

  unfoldable pub load_bytes : Exprs → S → S
  load_bytes none s = s
  load_bytes (more e es) s = load_bytes es (load_byte (byte_of t base e) (expr_range e) s)

  unfoldable pub load_node : Range → Exprs → S → S
  load_node r none s = add_error R t base too_few_arguments r s
  load_node r (more e es) s =
      let u = bad_bytes (more e es) s in
      pick (all_bytes (more e es)) (emit_load_bytes (R.emit (load_bytes (more e es) u)) (R.next_byte u) (count (more e es)) r) u

  unfoldable pub compile_load : Range → Exprs → S → S
  compile_load r none s = s
  compile_load r (more e es) s = load_node r es (compile_typed R t base Real e s)

  -- compile_locate
  abbrev pub locate_row : Opt Expr → S → S
  locate_row absent s = s
  locate_row (given e) s = emit_set_row (R.emit (compile_typed R t base Real e s)) (expr_range e)

  abbrev pub locate_column : Opt Expr → S → S
  locate_column absent s = s
  locate_column (given e) s = emit_set_column (R.emit (compile_typed R t base Real e s)) (expr_range e)

  unfoldable pub compile_locate : Opt Expr → Opt Expr → S → S
  compile_locate a b s = locate_column b (locate_row a s)

  -- compile_next: "a list of absent NEXT names" is not an empty one
  abbrev pub next_by : Range → Range → Sym S → S
  next_by r v y = emit_next (R.emit (pick (matches_type y.ty Real) y.state (add_error R t base name_of_wrong_kind v y.state))) (y.number + 1) r

  abbrev pub next_one : ℕ → Range → Opt Range → S → S
  next_one n r absent s = s
  next_one n r (given v) s = next_by (next_range n r v) v (compile_sym R t base v s)

  unfoldable pub next_each : ℕ → Range → List (Opt Range) → S → S
  next_each n r [] s = s
  next_each n r (v ∷ vs) s = next_each n r vs (next_one n r v s)

  unfoldable pub compile_next : Range → List (Opt Range) → S → S
  compile_next r [] s = emit_next (R.emit s) 0 r
  compile_next r (v ∷ vs) s = next_each (length (v ∷ vs)) r (v ∷ vs) s

  -- compile_on
  unfoldable pub on_jumps : ℕ → List OnTarget → S → S
  on_jumps sub [] s = s
  on_jumps sub (g ∷ gs) s = on_jumps sub gs (pending_jump sub g.range (label_or0 g.label) g.range s)

  unfoldable pub compile_on : Range → Expr → List OnTarget → ℕ → S → S
  compile_on r e gs sub s = on_jumps sub gs (emit_on (R.emit (compile_typed R t base Real e s)) (length gs) r)

  -- compile_open: modes 0 Error, 1 Random
  abbrev pub len_notes : ℕ → Range → S → S
  len_notes m r s = pick (nat_lt 1 m) (add_error R t base not_allowed r s) s

  abbrev pub open_node : Range → ℕ → Opt Len → S → S
  open_node r m absent s = emit_open (R.emit s) m 0 r
  open_node r m (given l) s =
      let u = compile_typed R t base Real l.value (len_notes m l.range s) in
      pick (m == 0) u (emit_open (R.emit u) m 1 r)

  unfoldable pub compile_open : Range → Expr → ℕ → Expr → Opt Len → S → S
  compile_open r f m e l s = open_node r m l (compile_typed R t base Real e (compile_typed R t base String f s))

  abbrev pub tab_node : ℕ → Range → S → S
  tab_node k r s = pick (k == spc) (emit_print_spc (R.emit s) r) (emit_print_tab (R.emit s) r)

  abbrev pub tab_call : Expr → S → S
  tab_call (sys_func_call r fr k es) s = tab_node k r (compile_args R t base (wanted (signature_of k).args) zero es (surplus_notes 1 es s))
  tab_call (ident r) s = s
  tab_call (string_lit r) s = s
  tab_call (number_lit r e m) s = s
  tab_call (user_func_call r f e) s = s
  tab_call (binary r a o k b) s = s
  tab_call (unary r k e) s = s
  tab_call (index r n es) s = s
  tab_call (inkey r) s = s
  tab_call (error r) s = s

  abbrev pub print_node : Range → Ty → S → S
  print_node r x s = pick (matches_type x Real) (emit_print_num (R.emit s) r) (emit_print_str (R.emit s) r)

  abbrev pub print_value : Expr → S → S
  print_value e s = after (compile_expr R t base e s) (λ x u. print_node (expr_range e) x u)

  -- behind the last element a new line; between two values, the first not TAB or SPC, one blank
  abbrev pub blank_between : Range → S → S
  blank_between r s = emit_print_spc (R.emit (emit_number (R.emit s) number_one.e number_one.m r)) r

  abbrev pub behind_value : Bool → Range → Range → List PrintElement → S → S
  behind_value tabbed r er [] s = emit_newline (R.emit s) r
  behind_value tabbed r er (x ∷ xs) s = pick (both (is_value x) (pick tabbed false true)) (blank_between er s) s

  abbrev pub print_one : Range → PrintElement → List PrintElement → S → S
  print_one r (value e) xs s = behind_value (is_tab_spc e) r (expr_range e) xs (pick (is_tab_spc e) (tab_call e s) (print_value e s))
  print_one r (comma er) xs s = emit_newline (R.emit s) er
  print_one r (semicolon er) xs s = s

  unfoldable pub print_each : Range → List PrintElement → S → S
  print_each r [] s = s
  print_each r (x ∷ xs) s = print_each r xs (print_one r x xs s)

  abbrev pub empty_line : Range → List PrintElement → S → S
  empty_line r [] s = emit_newline (R.emit s) r
  empty_line r (x ∷ xs) s = s

  unfoldable pub compile_print : Range → List PrintElement → S → S
  compile_print r xs s = emit_flush (R.emit (empty_line r xs (print_each r xs s))) r

  -- compile_read
  unfoldable pub compile_read : Exprs → S → S
  compile_read none s = s
  compile_read (more e es) s = compile_read es (emit_read (R.emit (compile_lvalue R t base e s).state) (expr_range e))

  -- SWAP
  unfoldable pub compile_swap : Range → Expr → Expr → S → S
  compile_swap r a b s =
      after (compile_lvalue R t base a s)
      (λ x u. after (compile_lvalue R t base b u) (λ y v. emit_op (R.emit (pick (exact_matches x y) v (add_error R t base kinds_differ r v))) swap_stmt 2 r))

  -- compile_while
  unfoldable pub compile_while : Range → Expr → S → S
  compile_while r e s = emit_while (R.emit (compile_typed R t base Real e s)) (R.count s) r

  abbrev pub write_node : ℕ → Bool → Ty → Range → S → S
  write_node to_file last ty r s =
      pick (matches_type ty Real) (emit_write_num (R.emit s) to_file (flag_of last) r) (emit_write_str (R.emit s) to_file (flag_of last) r)

  abbrev pub pop_node : Ty → Range → S → S
  pop_node ty r s = pick (matches_type ty Real) (emit_pop_num (R.emit s) r) (emit_pop_str (R.emit s) r)

  unfoldable pub write_value : ℕ → WriteElement → Bool → Ty → S → S
  write_value to_file d last ty s =
      pick (either last (d.comma == 1)) (write_node to_file last ty (expr_range d.datum) s)
      (pop_node ty (expr_range d.datum) (add_warning R t base value_dropped (expr_range d.datum) s))

  unfoldable pub write_each : ℕ → List WriteElement → S → S
  write_each to_file [] s = s
  write_each to_file (d ∷ ds) s =
      write_each to_file ds (after (compile_expr R t base d.datum s) (λ x u. write_value to_file d (is_last ds) x u))

  abbrev pub compile_write : Range → Opt Expr → List WriteElement → S → S
  compile_write r absent ds s = emit_flush (R.emit (write_each 0 ds s)) r
  compile_write r (given e) ds s = write_each 1 ds (compile_typed R t base Real e s)

  -- compile_if: the jump on zero, and the jump over the other branch, get their targets as soon as they are known
  abbrev pub if_jump : Range → S → S
  if_jump r s = emit_jz (R.emit s) r

  abbrev pub else_jump : Range → S → S
  else_jump r s = emit_goto (R.emit s) no_label r

  abbrev pub end_here : ℕ → S → S
  end_here k s = R.patch s k (R.count s)

  -- compile_stmt
  unfoldable mutual
    pub compile_stmt : Stmt → S → S
    compile_stmt (rem r) s = emit_no_op (R.emit s) r
    compile_stmt (op₀ k r) s = emit_op (R.emit s) k 0 r
    compile_stmt (op₁ k r a) s = emit_op (R.emit (compile_typed R t base (operand k 0) a s)) k 1 r
    compile_stmt (op₂ k r a b) s = emit_op (R.emit (compile_typed R t base (operand k 1) b (compile_typed R t base (operand k 0) a s))) k 2 r
    compile_stmt (op₃ k r a b c) s =
        emit_op (R.emit (compile_typed R t base (operand k 2) c (compile_typed R t base (operand k 1) b (compile_typed R t base (operand k 0) a s)))) k 3 r
    compile_stmt (draw k r es) s = draw_node k r es (compile_args R t base (drawn k) zero es s)
    compile_stmt (set k r a b) s = emit_op (R.emit (compile_typed R t base String b (place_typed String a s))) k 2 r
    compile_stmt (data_list r ds) s = compile_data ds s
    compile_stmt (def r n p e) s = compile_def r n p e s
    compile_stmt (dim r es) s = compile_dim es s
    compile_stmt (field r e fs) s = compile_field r e fs s
    compile_stmt (for r v a b e) s = compile_for r v a b e s
    compile_stmt (go r sub g) s = compile_go r sub g s
    compile_stmt (if_then r e xs) s =
        let u = compile_typed R t base Real e s in
        end_here (R.count u) (compile_stmts xs (if_jump r u))
    compile_stmt (if_else r e xs ys) s =
        let u = compile_typed R t base Real e s in
        let v = compile_stmts xs (if_jump r u) in
        end_here (R.count v) (compile_stmts ys (end_here (R.count u) (else_jump r v)))
    compile_stmt (input r src es) s = compile_input r src es s
    compile_stmt (assign r a b) s = compile_let r a b s
    compile_stmt (load r es) s = compile_load r es s
    compile_stmt (locate r a b) s = compile_locate a b s
    compile_stmt (next_of r vs) s = compile_next r vs s
    compile_stmt (on r e gs sub) s = compile_on r e gs sub s
    compile_stmt (open_file r f m e l) s = compile_open r f m e l s
    compile_stmt (print r xs) s = compile_print r xs s
    compile_stmt (read r es) s = compile_read es s
    compile_stmt (restore r g) s = compile_restore r g s
    compile_stmt (swap r a b) s = compile_swap r a b s
    compile_stmt (system r) s = add_error R t base not_allowed r s
    compile_stmt (while r e) s = compile_while r e s
    compile_stmt (write r f ds) s = compile_write r f ds s

    pub compile_stmts : Stmts → S → S
    compile_stmts end s = s
    compile_stmts (then x xs) s = compile_stmts xs (compile_stmt x s)
