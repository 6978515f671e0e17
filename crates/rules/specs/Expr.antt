-- Compiling expressions, over any recorder: compile_expr, compile_sys_func_call, compile_binary_expr, compile_lvalue and
-- compile_sym of compiler.rs, in its order of calls and notes.
use Rattle.std.specs.Prelude.{ℕ, zero, suc, ◌+◌, ◌-◌, Bool, List, length, ◌==◌, nat_lt, slice_index}
use Rattle.recorder.specs.Word.{pick, both, either}
use Rattle.recorder.specs.declared.word.Range.{Range}
use Rattle.recorder.specs.Numbers.{text_limit, too_large}
use Rattle.recorder.specs.Recorder.{Recorder, Named}
use Rattle.recorder.specs.Calls.{emit_number, emit_string, emit_var, emit_index, emit_var_lvalue, emit_index_lvalue, emit_inkey, emit_sys_func_call, emit_user_func_call, emit_unary_expr, emit_num_binary_expr, emit_str_binary_expr, error_note, warning_note, kinds_differ, name_of_wrong_kind, too_few_arguments, too_many_arguments, text_too_long, number_too_large, blank_in_name, not_allowed}
use Rattle.sheet.specs.Tree.{Opt, absent, given, Expr, ident, string_lit, number_lit, sys_func_call, user_func_call, binary, unary, index, inkey, error, Exprs, none, more, expr_range, count}
use Rattle.rules.specs.declared.types.«Type».{«Type» as Ty}
use Rattle.rules.specs.declared.types.«Type».TheVariants.{Real, String, Error}
use Rattle.rules.specs.declared.name.Name.{Name}
use Rattle.rules.specs.Types.{matches_type, exact_matches, rvalue_type}
use Rattle.rules.specs.Name.{text_place, read_name}
use Rattle.rules.specs.Tables.{Signature, signature_of, tab, spc, wanted, every_real}

-- what an expression leaves: the state and its kind
pub record Out (S : Type 0) : Type 0 where
  pub state : S
  pub ty : Ty

abbrev pub out : {S : Type 0} → S → Ty → Out S
out s t = record { state = s; ty = t }

-- a symbol's number besides
pub record Sym (S : Type 0) : Type 0 where
  pub state : S
  pub number : ℕ
  pub ty : Ty

-- one thing after another: the first is computed once
abbrev pub after : {S A : Type 0} → Out S → (Ty → S → A) → A
after o f = f o.ty o.state

-- "a string, prompt or quoted datum stands without its first unit, then without a last quote if one remains; its length is its
-- units." Starts are in the whole text, where the line begins at `base`.
abbrev pub quoted_start : ℕ → Range → ℕ
quoted_start base r = text_place base (r.start + 1)

abbrev pub ends_in_quote : List ℕ → ℕ → Range → Bool
ends_in_quote t base r = both (nat_lt (r.start + 1) r.end) (slice_index t (text_place base r.end - 1) == 34)

unfoldable pub quoted_length : List ℕ → ℕ → Range → ℕ
quoted_length t base r = r.end - r.start - 1 - pick (ends_in_quote t base r) 1 0

-- the units that a text counts against the 255 of class 8
abbrev pub text_size : ℕ → ℕ
text_size n = n

-- compile_binary_expr behind its two sides: Eq, Ne, Gt, Lt, Ge, Le and Add take two of a kind, the others numbers
abbrev pub is_add : ℕ → Bool
is_add k = k == 6

abbrev pub is_text : Ty → Bool
is_text x = exact_matches x String

abbrev pub like_type : ℕ → Ty → Ty
like_type k x = pick (is_add k) (rvalue_type x) Real

abbrev pub unlike_type : ℕ → Ty
unlike_type k = pick (is_add k) Error Real

module _ {S : Type 0} (R : Recorder S) (t : List ℕ) (base : ℕ) where
  -- add_error, add_warning
  abbrev pub add_error : ℕ → Range → S → S
  add_error class r s = R.note s class r error_note

  abbrev pub add_warning : ℕ → Range → S → S
  add_warning class r s = R.note s class r warning_note

  -- a name: "10 blank in name (warning)", with "the number of units left out", then its symbol
  abbrev pub sym_of : Ty → Named S → Sym S
  sym_of ty n = record { state = n.state; number = n.number; ty = ty }

  abbrev pub blank_note : ℕ → Range → S → S
  blank_note lost r s = pick (nat_lt 0 lost) (R.note_lost s blank_in_name r warning_note lost) s

  abbrev pub named_sym : Name → Range → S → Sym S
  named_sym n r s = sym_of n.ty (R.symbol (blank_note n.lost r s) n.name.start n.name.len n.name.sigil)

  unfoldable pub compile_sym : Range → S → Sym S
  compile_sym r s = named_sym (read_name t base r) r s

  -- a note where the kind is not the one wanted, and one where a name's is not exactly real
  unfoldable pub check_type : Ty → Range → Ty → S → S
  check_type want r ty s = pick (matches_type ty want) s (add_error kinds_differ r s)

  unfoldable pub check_real : Range → Ty → S → S
  check_real r ty s = pick (exact_matches ty Real) s (add_error name_of_wrong_kind r s)

  -- a name that must be exactly real: a function, a parameter, FOR's counter
  abbrev pub real_sym_by : Range → Sym S → Named S
  real_sym_by r y = record { state = check_real r y.ty y.state; number = y.number }

  unfoldable pub real_sym : Range → S → Named S
  real_sym r s = real_sym_by r (compile_sym r s)

  -- a variable
  abbrev pub var_by : Range → Sym S → Out S
  var_by r y = out (emit_var (R.emit y.state) y.number r) y.ty

  unfoldable pub var_node : Range → S → Out S
  var_node r s = var_by r (compile_sym r s)

  -- a text; "8 text above 255"
  unfoldable pub text_node : Range → S → S
  text_node r s =
      pick (nat_lt text_limit (text_size (quoted_length t base r)))
      (add_error text_too_long r (emit_string (R.emit s) (quoted_start base r) (quoted_length t base r) r))
      (emit_string (R.emit s) (quoted_start base r) (quoted_length t base r) r)

  -- a number; "9 number too large"
  unfoldable pub number_node : Range → ℕ → ℕ → S → S
  number_node r e m s = pick (e == too_large) (add_error number_too_large r s) (emit_number (R.emit s) e m r)

  -- compile_sys_func_call: what comes before the arguments
  unfoldable pub arity_notes : Signature → ℕ → Range → S → S
  arity_notes g n r s = pick (nat_lt n g.min) (add_error too_few_arguments r s) (pick (nat_lt (length g.args) n) (add_error too_many_arguments r s) s)

  abbrev pub tab_note : ℕ → Range → S → S
  tab_note k fr s = pick (either (k == tab) (k == spc)) (add_error not_allowed fr s) s

  unfoldable pub func_notes : ℕ → ℕ → Range → Range → S → S
  func_notes k n fr r s = arity_notes (signature_of k) n r (tab_note k fr s)

  unfoldable pub func_node : ℕ → ℕ → Range → S → Out S
  func_node k n r s = out (emit_sys_func_call (R.emit s) k n r) (signature_of k).result

  -- a user function's name, before its argument; and its call behind it
  abbrev pub no_sym : S → Named S
  no_sym s = record { state = s; number = 0 }

  abbrev pub opt_real_sym : Opt Range → S → Named S
  opt_real_sym absent s = no_sym s
  opt_real_sym (given fr) s = real_sym fr s

  abbrev pub user_call : Opt Range → Range → ℕ → S → S
  user_call absent r n s = s
  user_call (given fr) r n s = emit_user_func_call (R.emit s) n r

  abbrev pub like_call : ℕ → Range → Ty → S → S
  like_call k r x s = pick (is_text x) (emit_str_binary_expr (R.emit s) k r) (emit_num_binary_expr (R.emit s) k r)

  unfoldable pub like_node : ℕ → Range → Range → Ty → Ty → S → Out S
  like_node k r o x y s =
      pick (matches_type x y)
      (out (like_call k r x s) (like_type k x))
      (out (add_error kinds_differ o s) (unlike_type k))

  unfoldable pub arith_node : ℕ → Range → Range → Range → Ty → Ty → S → Out S
  arith_node k r ar br x y s = out (emit_num_binary_expr (R.emit (check_type Real br y (check_type Real ar x s))) k r) Real

  unfoldable pub binary_node : ℕ → Range → Range → Range → Range → Ty → Ty → S → Out S
  binary_node k r ar o br x y s = pick (nat_lt k 7) (like_node k r o x y s) (arith_node k r ar br x y s)

  unfoldable pub unary_node : ℕ → Range → Range → Ty → S → Out S
  unary_node k r ar x s = out (emit_unary_expr (R.emit (check_type Real ar x s)) k r) Real

  -- an array's name behind its subscripts
  abbrev pub element_by : Range → ℕ → Sym S → Out S
  element_by r n y = out (emit_index (R.emit y.state) y.number n r) y.ty

  abbrev pub index_node : Opt Range → Range → ℕ → S → Out S
  index_node absent r n s = out s Error
  index_node (given nr) r n s = element_by r n (compile_sym nr s)

  unfoldable mutual
    pub compile_expr : Expr → S → Out S
    compile_expr (ident r) s = var_node r s
    compile_expr (string_lit r) s = out (text_node r s) String
    compile_expr (number_lit r e m) s = out (number_node r e m s) Real
    compile_expr (sys_func_call r fr k es) s =
        func_node k (count es) r (compile_args (wanted (signature_of k).args) zero es (func_notes k (count es) fr r s))
    compile_expr (user_func_call r f e) s =
        let y = opt_real_sym f s in
        after (compile_expr e y.state) (λ x u. out (user_call f r y.number (check_type Real (expr_range e) x u)) Real)
    compile_expr (binary r a o k b) s =
        after (compile_expr a s) (λ x u. after (compile_expr b u) (λ y v. binary_node k r (expr_range a) o (expr_range b) x y v))
    compile_expr (unary r k e) s = after (compile_expr e s) (λ x u. unary_node k r (expr_range e) x u)
    compile_expr (index r n es) s = index_node n r (count es) (compile_args every_real zero es s)
    compile_expr (inkey r) s = out (emit_inkey (R.emit s) r) String
    compile_expr (error r) s = out s Error

    -- arguments and subscripts from the i-th on, each with a note where its kind is not the one wanted
    pub compile_args : (ℕ → Ty) → ℕ → Exprs → S → S
    compile_args want i none s = s
    compile_args want i (more e es) s = compile_args want (suc i) es (after (compile_expr e s) (λ x u. check_type (want i) (expr_range e) x u))

  -- an expression of which a kind is wanted
  abbrev pub compile_typed : Ty → Expr → S → S
  compile_typed want e s = after (compile_expr e s) (λ x u. check_type want (expr_range e) x u)

  -- compile_lvalue: a place to store
  abbrev pub place_by : Range → Sym S → Out S
  place_by r y = out (emit_var_lvalue (R.emit y.state) y.number r) y.ty

  abbrev pub element_place_by : Range → ℕ → Sym S → Out S
  element_place_by r n y = out (emit_index_lvalue (R.emit y.state) y.number n r) y.ty

  abbrev pub index_place : Opt Range → ℕ → S → Out S
  index_place absent n s = out s Error
  index_place (given nr) n s = element_place_by nr n (compile_sym nr s)

  abbrev pub var_place : Range → S → Out S
  var_place r s = place_by r (compile_sym r s)

  unfoldable pub compile_lvalue : Expr → S → Out S
  compile_lvalue (ident r) s = var_place r s
  compile_lvalue (index r n es) s = index_place n (count es) (compile_args every_real zero es s)
  compile_lvalue (string_lit r) s = out s Error
  compile_lvalue (number_lit r e m) s = out s Error
  compile_lvalue (sys_func_call r fr k es) s = out s Error
  compile_lvalue (user_func_call r f e) s = out s Error
  compile_lvalue (binary r a o k b) s = out s Error
  compile_lvalue (unary r k e) s = out s Error
  compile_lvalue (inkey r) s = out s Error
  compile_lvalue (error r) s = out s Error
