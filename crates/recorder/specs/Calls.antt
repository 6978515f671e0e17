-- Document 01's numbered calls, one definition each, named as the Rust's emitter; and the numbers that rules name.
use Rattle.std.specs.Prelude.{ℕ, ◌+◌, ◌*◌, ◌/◌, ◌%◌}
use Rattle.recorder.specs.declared.word.Range.{Range}
use Rattle.recorder.specs.Numbers.{unknown, half_size}

-- What a jump or a RESTORE waits for: no label, or a label, with the range that a note on it would carry. Finished records have neither
-- (`labels_cleared` in crates/bounds/proofs/Finished.antt).
pub data Awaited : Type 0 where
  no_label : Awaited
  for_label : ℕ → Range → Awaited

-- Until closing up, argument b is the label plus 1 and argument c the range as one number; closing up clears both.
abbrev pub pending_label : ℕ → ℕ
pending_label l = l + 1

-- That unpacking gives a sheet's range back is proved (`packed_back`, `ranges_packed` in crates/items/proofs/Standing.antt).
abbrev pub pack : Range → ℕ
pack r = r.start * half_size + r.end

abbrev pub unpack : ℕ → Range
unpack c = record { start = c / half_size; end = c % half_size }

abbrev pub label_word : Awaited → ℕ
label_word no_label = 0
label_word (for_label l r) = pending_label l

abbrev pub range_number : Awaited → ℕ
range_number no_label = 0
range_number (for_label l r) = pack r

-- the numbers of the calls that rules look for
abbrev pub no_op_call : ℕ
no_op_call = 1

abbrev pub op_call : ℕ
op_call = 2

abbrev pub number_call : ℕ
number_call = 3

abbrev pub var_call : ℕ
var_call = 5

abbrev pub func_call : ℕ
func_call = 11

abbrev pub jz_call : ℕ
jz_call = 19

abbrev pub goto_call : ℕ
goto_call = 20

abbrev pub gosub_call : ℕ
gosub_call = 21

abbrev pub on_call : ℕ
on_call = 22

abbrev pub for_call : ℕ
for_call = 23

abbrev pub next_call : ℕ
next_call = 24

abbrev pub while_call : ℕ
while_call = 25

abbrev pub def_call : ℕ
def_call = 26

abbrev pub end_call : ℕ
end_call = 27

abbrev pub restore_call : ℕ
restore_call = 31

abbrev pub write_num_call : ℕ
write_num_call = 44

abbrev pub write_str_call : ℕ
write_str_call = 45

-- "Each numbered call below appends one record of five words: call number ..., range word, three arguments (0 where unused)."
-- `put` makes the record of a call's number, its range and its arguments.
module _ {S : Type 0} (put : ℕ → Range → ℕ → ℕ → ℕ → S) where
  -- "1 emit_no_op"
  abbrev pub emit_no_op : Range → S
  emit_no_op r = put no_op_call r 0 0 0

  -- "2 emit_op (statement, count)"
  abbrev pub emit_op : ℕ → ℕ → Range → S
  emit_op statement count r = put op_call r statement count 0

  -- "3 emit_number (e, m)"
  abbrev pub emit_number : ℕ → ℕ → Range → S
  emit_number e m r = put number_call r e m 0

  -- "4 emit_string (start, length)"
  abbrev pub emit_string : ℕ → ℕ → Range → S
  emit_string start length r = put 4 r start length 0

  -- "5 emit_var (symbol)"
  abbrev pub emit_var : ℕ → Range → S
  emit_var symbol r = put var_call r symbol 0 0

  -- "6 emit_index (symbol, k)"
  abbrev pub emit_index : ℕ → ℕ → Range → S
  emit_index symbol k r = put 6 r symbol k 0

  -- "7 emit_var_lvalue (symbol)"
  abbrev pub emit_var_lvalue : ℕ → Range → S
  emit_var_lvalue symbol r = put 7 r symbol 0 0

  -- "8 emit_index_lvalue (symbol, k)"
  abbrev pub emit_index_lvalue : ℕ → ℕ → Range → S
  emit_index_lvalue symbol k r = put 8 r symbol k 0

  -- "9 emit_fn_lvalue (function, argument)"
  abbrev pub emit_fn_lvalue : ℕ → ℕ → Range → S
  emit_fn_lvalue function argument r = put 9 r function argument 0

  -- "10 emit_inkey"
  abbrev pub emit_inkey : Range → S
  emit_inkey r = put 10 r 0 0 0

  -- "11 emit_sys_func_call (kind, count)"
  abbrev pub emit_sys_func_call : ℕ → ℕ → Range → S
  emit_sys_func_call k count r = put func_call r k count 0

  -- "12 emit_user_func_call"
  abbrev pub emit_user_func_call : ℕ → Range → S
  emit_user_func_call symbol r = put 12 r symbol 0 0

  -- "13 emit_unary_expr (op)"
  abbrev pub emit_unary_expr : ℕ → Range → S
  emit_unary_expr k r = put 13 r k 0 0

  -- "14 emit_num_binary_expr (op)"
  abbrev pub emit_num_binary_expr : ℕ → Range → S
  emit_num_binary_expr k r = put 14 r k 0 0

  -- "15 emit_str_binary_expr (op)"
  abbrev pub emit_str_binary_expr : ℕ → Range → S
  emit_str_binary_expr k r = put 15 r k 0 0

  -- "16 to 18 emit_assign_int, _real, _str"
  abbrev pub emit_assign_int : Range → S
  emit_assign_int r = put 16 r 0 0 0

  abbrev pub emit_assign_real : Range → S
  emit_assign_real r = put 17 r 0 0 0

  abbrev pub emit_assign_str : Range → S
  emit_assign_str r = put 18 r 0 0 0

  -- "19 emit_jz (target)"
  abbrev pub emit_jz : Range → S
  emit_jz r = put jz_call r unknown 0 0

  -- "20 emit_goto, 21 emit_gosub (target)"
  abbrev pub emit_goto : Awaited → Range → S
  emit_goto w r = put goto_call r unknown (label_word w) (range_number w)

  abbrev pub emit_gosub : Awaited → Range → S
  emit_gosub w r = put gosub_call r unknown (label_word w) (range_number w)

  -- "22 emit_on (count)"
  abbrev pub emit_on : ℕ → Range → S
  emit_on count r = put on_call r count 0 0

  -- "23 emit_for (symbol, step 0 or 1)"
  abbrev pub emit_for : ℕ → ℕ → Range → S
  emit_for symbol step r = put for_call r symbol step 0

  -- "24 emit_next (symbol plus 1, or 0)"
  abbrev pub emit_next : ℕ → Range → S
  emit_next symbol r = put next_call r symbol 0 0

  -- "25 emit_while (condition start, end)"
  abbrev pub emit_while : ℕ → Range → S
  emit_while start r = put while_call r start unknown 0

  -- "26 begin_def_fn (name, parameter, end)"
  abbrev pub begin_def_fn : ℕ → ℕ → Range → S
  begin_def_fn name parameter r = put def_call r name parameter unknown

  -- "27 end_def_fn"
  abbrev pub end_def_fn : Range → S
  end_def_fn r = put end_call r 0 0 0

  -- "28 emit_dim (symbol, k)"
  abbrev pub emit_dim : ℕ → ℕ → Range → S
  emit_dim symbol k r = put 28 r symbol k 0

  -- "29 emit_field (count)"
  abbrev pub emit_field : ℕ → Range → S
  emit_field count r = put 29 r count 0 0

  -- "30 emit_read"
  abbrev pub emit_read : Range → S
  emit_read r = put 30 r 0 0 0

  -- "31 emit_restore (index)"; "a DATA index 0", while it is not known
  abbrev pub emit_restore : Awaited → Range → S
  emit_restore w r = put restore_call r 0 (label_word w) (range_number w)

  -- "32 emit_keyboard_input (prompt 0 or 1, count)"
  abbrev pub emit_keyboard_input : ℕ → ℕ → Range → S
  emit_keyboard_input prompt count r = put 32 r prompt count 0

  -- "33 emit_file_input (count)"
  abbrev pub emit_file_input : ℕ → Range → S
  emit_file_input count r = put 33 r count 0 0

  -- "34 emit_open (mode, len 0 or 1)"
  abbrev pub emit_open : ℕ → ℕ → Range → S
  emit_open mode len r = put 34 r mode len 0

  -- "35 emit_load_bytes (first byte entry, count)"
  abbrev pub emit_load_bytes : ℕ → ℕ → Range → S
  emit_load_bytes first count r = put 35 r first count 0

  -- "36 emit_set_row, 37 emit_set_column, 38 emit_print_num"
  abbrev pub emit_set_row : Range → S
  emit_set_row r = put 36 r 0 0 0

  abbrev pub emit_set_column : Range → S
  emit_set_column r = put 37 r 0 0 0

  abbrev pub emit_print_num : Range → S
  emit_print_num r = put 38 r 0 0 0

  -- "39 emit_print_str"
  abbrev pub emit_print_str : Range → S
  emit_print_str r = put 39 r 0 0 0

  -- "40 emit_print_spc, 41 emit_print_tab"
  abbrev pub emit_print_spc : Range → S
  emit_print_spc r = put 40 r 0 0 0

  abbrev pub emit_print_tab : Range → S
  emit_print_tab r = put 41 r 0 0 0

  -- "42 emit_newline"
  abbrev pub emit_newline : Range → S
  emit_newline r = put 42 r 0 0 0

  -- "43 emit_flush"
  abbrev pub emit_flush : Range → S
  emit_flush r = put 43 r 0 0 0

  -- "44 emit_write_num, 45 emit_write_str (to file, end)"
  abbrev pub emit_write_num : ℕ → ℕ → Range → S
  emit_write_num to_file at_end r = put write_num_call r to_file at_end 0

  abbrev pub emit_write_str : ℕ → ℕ → Range → S
  emit_write_str to_file at_end r = put write_str_call r to_file at_end 0

  -- "46 emit_pop_num"
  abbrev pub emit_pop_num : Range → S
  emit_pop_num r = put 46 r 0 0 0

  -- "47 emit_pop_str"
  abbrev pub emit_pop_str : Range → S
  emit_pop_str r = put 47 r 0 0 0

-- The classes of notes.
-- "1 labels not rising"
abbrev pub labels_not_rising : ℕ
labels_not_rising = 1

-- "2 target missing"
abbrev pub target_missing : ℕ
target_missing = 2

-- "3 RESTORE target missing (warning)"
abbrev pub restore_target_missing : ℕ
restore_target_missing = 3

-- "4 kinds don't fit"
abbrev pub kinds_differ : ℕ
kinds_differ = 4

-- "5 name of wrong kind"
abbrev pub name_of_wrong_kind : ℕ
name_of_wrong_kind = 5

-- "6 too few arguments"
abbrev pub too_few_arguments : ℕ
too_few_arguments = 6

-- "7 too many"
abbrev pub too_many_arguments : ℕ
too_many_arguments = 7

-- "8 text above 255"
abbrev pub text_too_long : ℕ
text_too_long = 8

-- "9 number too large"
abbrev pub number_too_large : ℕ
number_too_large = 9

-- "10 blank in name (warning)"
abbrev pub blank_in_name : ℕ
blank_in_name = 10

-- "11 WRITE value dropped (warning)"
abbrev pub value_dropped : ℕ
value_dropped = 11

-- "12 not allowed there"
abbrev pub not_allowed : ℕ
not_allowed = 12

-- "13 WHILE without WEND"
abbrev pub while_without_wend : ℕ
while_without_wend = 13

-- "1 error or 2 warning"
abbrev pub error_note : ℕ
error_note = 1

abbrev pub warning_note : ℕ
warning_note = 2
