-- The piles of document 01: what each record finds on top, and what it leaves.
use Rattle.std.specs.Prelude.{ℕ, zero, suc, ◌+◌, Bool, true, false, List, [], ◌∷◌, ◌++◌, length, take, replicate, ◌==◌, nat_le, slice_index_or}
use Rattle.recorder.specs.StmtKind.{lset_stmt, rset_stmt, swap_stmt}
use Rattle.recorder.specs.Calls.{func_call}
use Rattle.recorder.specs.Word.{pick, both, either}
use Rattle.recorder.specs.Ideal.{Rec, Entry, name_kind}
use Rattle.recorder.specs.Closing.{is_op}
use Rattle.sheet.specs.Tree.{Opt, absent, given}
use Rattle.rules.specs.declared.types.«Type».{«Type» as Ty}
use Rattle.rules.specs.declared.types.«Type».TheVariants.{Integer, Real, String, Error}
use Rattle.rules.specs.Types.{exact_matches, sigil_type}
use Rattle.rules.specs.Tables.{Signature, operand, signature_of}
use Rattle.rules.specs.Expr.{is_add}

-- "n is a number, t a text, p a place to store"; "A p has the sigil's type (% integer, $ text, else real)"
pub data Kind : Type 0 where
  num txt : Kind
  plc : Ty → Kind

-- a pile, its top first
abbrev pub Pile : Type 0
Pile = List Kind

-- what a record takes: a number, a text, a place of one type, any place
pub data Want : Type 0 where
  a_number a_text : Want
  a_place : Ty → Want
  any_place : Want

abbrev pub fits : Want → Kind → Bool
fits a_number num = true
fits a_number txt = false
fits a_number (plc x) = false
fits a_text num = false
fits a_text txt = true
fits a_text (plc x) = false
fits (a_place y) num = false
fits (a_place y) txt = false
fits (a_place y) (plc x) = exact_matches x y
fits any_place num = false
fits any_place txt = false
fits any_place (plc x) = true

-- the pile below what is taken, the top first; absent where the top is something else
unfoldable pub taken : List Want → Pile → Opt Pile
taken [] P = given P
taken (w ∷ ws) [] = absent
taken (w ∷ ws) (k ∷ P) = pick (fits w k) (taken ws P) absent

-- "SWAP two of one type"
abbrev pub swapped : Pile → Opt Pile
swapped [] = absent
swapped (num ∷ P) = absent
swapped (txt ∷ P) = absent
swapped (plc x ∷ []) = absent
swapped (plc x ∷ num ∷ P) = absent
swapped (plc x ∷ txt ∷ P) = absent
swapped (plc x ∷ plc y ∷ P) = pick (exact_matches x y) (given P) absent

-- the type of a symbol: of the name in the book that has its number
unfoldable pub symbol_type : List Entry → ℕ → Ty
symbol_type [] n = Real
symbol_type (e ∷ es) n = pick (both (e.kind == name_kind) (e.number == n)) (sigil_type e.extra) (symbol_type es n)

-- a value of a type, wanted and put on
abbrev pub want_of : Ty → Want
want_of Integer = a_number
want_of Real = a_number
want_of String = a_text
want_of Error = a_number

abbrev pub kind_of : Ty → Kind
kind_of Integer = num
kind_of Real = num
kind_of String = txt
kind_of Error = num

abbrev pub numbers : ℕ → List Want
numbers n = replicate n a_number

-- operands in compile order, the last on top
unfoldable pub operands : ℕ → ℕ → List Want
operands k zero = []
operands k (suc n) = want_of (operand k n) ∷ operands k n

unfoldable pub arguments : List Ty → List Want → List Want
arguments [] ws = ws
arguments (x ∷ xs) ws = arguments xs (want_of x ∷ ws)

unfoldable pub field_wants : ℕ → List Want
field_wants zero = []
field_wants (suc n) = a_place String ∷ a_number ∷ field_wants n

-- "emit_op takes its statement's operands in compile order"; LSET and RSET "a text p"
abbrev pub is_set : ℕ → Bool
is_set k = either (k == lset_stmt) (k == rset_stmt)

abbrev pub op_wants : ℕ → ℕ → List Want
op_wants k n = pick (is_set k) (a_text ∷ a_place String ∷ []) (operands k n)

-- a flag's 1: one want more
abbrev pub if_one : ℕ → Want → List Want
if_one f w = pick (f == 1) (w ∷ []) []

-- a file's number stays below until end takes it
abbrev pub file_stays : Rec → List Kind
file_stays r = pick (both (r.a == 1) (r.b == 0)) (num ∷ []) []

-- what a record takes, the last on top, and what it puts on
pub record Effect : Type 0 where
  pub takes : List Want
  pub puts : List Kind

abbrev pub effect : List Want → List Kind → Effect
effect ws ks = record { takes = ws; puts = ks }

-- a row a call, by its number; SWAP's call 2 is in `step`
abbrev pub effects : List (List Entry → Rec → Effect)
effects =
    (λ es r. effect [] [])  -- 0 is no call
    ∷ (λ es r. effect [] [])  -- 1 emit_no_op
    ∷ (λ es r. effect (op_wants r.a r.b) [])  -- 2 emit_op (statement, count)
    ∷ (λ es r. effect [] (num ∷ []))  -- 3 emit_number
    ∷ (λ es r. effect [] (txt ∷ []))  -- 4 emit_string
    ∷ (λ es r. effect [] (kind_of (symbol_type es r.a) ∷ []))  -- 5 emit_var
    ∷ (λ es r. effect (numbers r.b) (kind_of (symbol_type es r.a) ∷ []))  -- 6 emit_index (symbol, k): k n
    ∷ (λ es r. effect [] (plc (symbol_type es r.a) ∷ []))  -- 7 emit_var_lvalue
    ∷ (λ es r. effect (numbers r.b) (plc (symbol_type es r.a) ∷ []))  -- 8 emit_index_lvalue (symbol, k): k n
    ∷ (λ es r. effect [] (plc Real ∷ []))  -- 9 emit_fn_lvalue
    ∷ (λ es r. effect [] (txt ∷ []))  -- 10 emit_inkey
    ∷ (λ es r. effect (arguments (take r.b (signature_of r.a).args) []) (kind_of (signature_of r.a).result ∷ []))  -- 11 emit_sys_func_call (kind, count)
    ∷ (λ es r. effect (numbers 1) (num ∷ []))  -- 12 emit_user_func_call
    ∷ (λ es r. effect (numbers 1) (num ∷ []))  -- 13 emit_unary_expr
    ∷ (λ es r. effect (numbers 2) (num ∷ []))  -- 14 emit_num_binary_expr
    ∷ (λ es r. effect (a_text ∷ a_text ∷ []) (pick (is_add r.a) txt num ∷ []))  -- 15 emit_str_binary_expr
    ∷ (λ es r. effect (a_number ∷ a_place Integer ∷ []) [])  -- 16 emit_assign_int
    ∷ (λ es r. effect (a_number ∷ a_place Real ∷ []) [])  -- 17 emit_assign_real
    ∷ (λ es r. effect (a_text ∷ a_place String ∷ []) [])  -- 18 emit_assign_str
    ∷ (λ es r. effect (numbers 1) [])  -- 19 emit_jz
    ∷ (λ es r. effect [] [])  -- 20 emit_goto
    ∷ (λ es r. effect [] [])  -- 21 emit_gosub
    ∷ (λ es r. effect (numbers 1) [])  -- 22 emit_on
    ∷ (λ es r. effect (numbers (2 + r.b)) [])  -- 23 emit_for (symbol, step): n n, n with step
    ∷ (λ es r. effect [] [])  -- 24 emit_next
    ∷ (λ es r. effect (numbers 1) [])  -- 25 emit_while
    ∷ (λ es r. effect [] [])  -- 26 begin_def_fn
    ∷ (λ es r. effect (numbers 1) [])  -- 27 end_def_fn
    ∷ (λ es r. effect (numbers r.b) [])  -- 28 emit_dim (symbol, k): k n
    ∷ (λ es r. effect (a_number ∷ field_wants r.a) [])  -- 29 emit_field (count): n and p each, then n
    ∷ (λ es r. effect (any_place ∷ []) [])  -- 30 emit_read
    ∷ (λ es r. effect [] [])  -- 31 emit_restore
    ∷ (λ es r. effect (if_one r.a a_text ++ replicate r.b any_place) [])  -- 32 emit_keyboard_input (prompt, count): count p, t with prompt
    ∷ (λ es r. effect (a_number ∷ replicate r.a any_place) [])  -- 33 emit_file_input (count): count p, n
    ∷ (λ es r. effect (numbers (1 + r.b) ++ (a_text ∷ [])) [])  -- 34 emit_open (mode, len): t n, n with len
    ∷ (λ es r. effect (numbers 1) [])  -- 35 emit_load_bytes
    ∷ (λ es r. effect (numbers 1) [])  -- 36 emit_set_row
    ∷ (λ es r. effect (numbers 1) [])  -- 37 emit_set_column
    ∷ (λ es r. effect (numbers 1) [])  -- 38 emit_print_num
    ∷ (λ es r. effect (a_text ∷ []) [])  -- 39 emit_print_str
    ∷ (λ es r. effect (numbers 1) [])  -- 40 emit_print_spc
    ∷ (λ es r. effect (numbers 1) [])  -- 41 emit_print_tab
    ∷ (λ es r. effect [] [])  -- 42 emit_newline
    ∷ (λ es r. effect [] [])  -- 43 emit_flush
    ∷ (λ es r. effect (a_number ∷ if_one r.a a_number) (file_stays r))  -- 44 emit_write_num (to file, end): n, a file's n below
    ∷ (λ es r. effect (a_text ∷ if_one r.a a_number) (file_stays r))  -- 45 emit_write_str (to file, end): t, a file's n below
    ∷ (λ es r. effect (numbers 1) [])  -- 46 emit_pop_num
    ∷ (λ es r. effect (a_text ∷ []) [])  -- 47 emit_pop_str
    ∷ []

unfoldable pub effect_of : List Entry → Rec → Effect
effect_of es r = slice_index_or effects r.call (λ b x. effect [] []) es r

-- "11 emit_sys_func_call (kind, count), by compile_sys_func_call's signatures": so many arguments its function may have
abbrev pub allows : Signature → ℕ → Bool
allows g n = both (nat_le g.min n) (nat_le n (length g.args))

abbrev pub is_allowed : Rec → Bool
is_allowed r = pick (r.call == func_call) (allows (signature_of r.a) r.b) true

abbrev pub put_on : List Kind → Opt Pile → Opt Pile
put_on ks absent = absent
put_on ks (given P) = given (ks ++ P)

-- one record's step: the pile behind it, or absent where it does not find what it takes, or has more or fewer arguments than there may be
unfoldable pub step : List Entry → Rec → Pile → Opt Pile
step es r P =
    pick (is_op swap_stmt r) (swapped P) (pick (is_allowed r) (put_on (effect_of es r).puts (taken (effect_of es r).takes P)) absent)
