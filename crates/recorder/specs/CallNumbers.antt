-- What the code's calls and classes stand for: document 01's emitters and classes, by their names.
use Rattle.std.specs.Prelude.{ℕ, Option, None, Some}
use Rattle.recorder.specs.declared.label.Label.{Label}
use Rattle.recorder.specs.declared.word.Range.{Range}
use Rattle.recorder.specs.declared.call.Call.{Call}
use Rattle.recorder.specs.declared.call.Call.TheVariants.{NoOp, Op, Number, String, Var, Index, VarLvalue, IndexLvalue, FnLvalue, Inkey, SysFuncCall, UserFuncCall, UnaryExpr, NumBinaryExpr, StrBinaryExpr, AssignInt, AssignReal, AssignStr, Jz, Goto, Gosub, On, For, Next, While, BeginDefFn, EndDefFn, Dim, Field, Read, Restore, KeyboardInput, FileInput, Open, LoadBytes, SetRow, SetColumn, PrintNum, PrintStr, PrintSpc, PrintTab, Newline, Flush, WriteNum, WriteStr, PopNum, PopStr}
use Rattle.recorder.specs.declared.call.Class.{Class}
use Rattle.recorder.specs.declared.call.Class.TheVariants.{LabelsNotRising, TargetMissing, RestoreTargetMissing, KindsDiffer, NameOfWrongKind, TooFewArguments, TooManyArguments, TextTooLong, NumberTooLarge, BlankInName, ValueDropped, NotAllowed, WhileWithoutWend}
use Rattle.recorder.specs.declared.call.Numbers.{Numbers}
use Rattle.recorder.specs.Word.{flag_of}
use Rattle.recorder.specs.Ideal.{no_range}
use Rattle.recorder.specs.Calls.{Awaited, no_label, for_label, label_word, range_number, emit_no_op, emit_op, emit_number, emit_string, emit_var, emit_index, emit_var_lvalue, emit_index_lvalue, emit_fn_lvalue, emit_inkey, emit_sys_func_call, emit_user_func_call, emit_unary_expr, emit_num_binary_expr, emit_str_binary_expr, emit_assign_int, emit_assign_real, emit_assign_str, emit_jz, emit_goto, emit_gosub, emit_on, emit_for, emit_next, emit_while, begin_def_fn, end_def_fn, emit_dim, emit_field, emit_read, emit_restore, emit_keyboard_input, emit_file_input, emit_open, emit_load_bytes, emit_set_row, emit_set_column, emit_print_num, emit_print_str, emit_print_spc, emit_print_tab, emit_newline, emit_flush, emit_write_num, emit_write_str, emit_pop_num, emit_pop_str, labels_not_rising, target_missing, restore_target_missing, kinds_differ, name_of_wrong_kind, too_few_arguments, too_many_arguments, text_too_long, number_too_large, blank_in_name, value_dropped, not_allowed, while_without_wend, error_note, warning_note}

abbrev pub row : ℕ → Range → ℕ → ℕ → ℕ → Numbers
row k r a b c = record { call = k; a = a; b = b; c = c }

abbrev pub awaited : Option (Range × Label) → Awaited
awaited None = no_label
awaited (Some (r, l)) = for_label l.0 r

-- one that may wait for a label
abbrev pub waiting : ℕ → ℕ → Option (Range × Label) → Numbers
waiting k a label = row k no_range a (label_word (awaited label)) (range_number (awaited label))

abbrev pub numbers_of : Call → Numbers
numbers_of NoOp = emit_no_op row no_range
numbers_of (Op statement count) = emit_op row statement count no_range
numbers_of (Number e m) = emit_number row e m no_range
numbers_of (String start length) = emit_string row start length no_range
numbers_of (Var symbol) = emit_var row symbol no_range
numbers_of (Index symbol k) = emit_index row symbol k no_range
numbers_of (VarLvalue symbol) = emit_var_lvalue row symbol no_range
numbers_of (IndexLvalue symbol k) = emit_index_lvalue row symbol k no_range
numbers_of (FnLvalue function argument) = emit_fn_lvalue row function argument no_range
numbers_of Inkey = emit_inkey row no_range
numbers_of (SysFuncCall kind count) = emit_sys_func_call row kind count no_range
numbers_of (UserFuncCall symbol) = emit_user_func_call row symbol no_range
numbers_of (UnaryExpr op) = emit_unary_expr row op no_range
numbers_of (NumBinaryExpr op) = emit_num_binary_expr row op no_range
numbers_of (StrBinaryExpr op) = emit_str_binary_expr row op no_range
numbers_of AssignInt = emit_assign_int row no_range
numbers_of AssignReal = emit_assign_real row no_range
numbers_of AssignStr = emit_assign_str row no_range
numbers_of Jz = emit_jz row no_range
numbers_of (Goto label) = emit_goto row (awaited label) no_range
numbers_of (Gosub label) = emit_gosub row (awaited label) no_range
numbers_of (On count) = emit_on row count no_range
numbers_of (For symbol step) = emit_for row symbol (flag_of step) no_range
numbers_of (Next symbol) = emit_next row symbol no_range
numbers_of (While start) = emit_while row start no_range
numbers_of (BeginDefFn name parameter) = begin_def_fn row name parameter no_range
numbers_of EndDefFn = end_def_fn row no_range
numbers_of (Dim symbol k) = emit_dim row symbol k no_range
numbers_of (Field count) = emit_field row count no_range
numbers_of Read = emit_read row no_range
numbers_of (Restore label) = emit_restore row (awaited label) no_range
numbers_of (KeyboardInput prompt count) = emit_keyboard_input row (flag_of prompt) count no_range
numbers_of (FileInput count) = emit_file_input row count no_range
numbers_of (Open mode len) = emit_open row mode (flag_of len) no_range
numbers_of (LoadBytes first count) = emit_load_bytes row first count no_range
numbers_of SetRow = emit_set_row row no_range
numbers_of SetColumn = emit_set_column row no_range
numbers_of PrintNum = emit_print_num row no_range
numbers_of PrintStr = emit_print_str row no_range
numbers_of PrintSpc = emit_print_spc row no_range
numbers_of PrintTab = emit_print_tab row no_range
numbers_of Newline = emit_newline row no_range
numbers_of Flush = emit_flush row no_range
numbers_of (WriteNum file end) = emit_write_num row (flag_of file) (flag_of end) no_range
numbers_of (WriteStr file end) = emit_write_str row (flag_of file) (flag_of end) no_range
numbers_of PopNum = emit_pop_num row no_range
numbers_of PopStr = emit_pop_str row no_range

abbrev pub class_number : Class → ℕ
class_number LabelsNotRising = labels_not_rising
class_number TargetMissing = target_missing
class_number RestoreTargetMissing = restore_target_missing
class_number KindsDiffer = kinds_differ
class_number NameOfWrongKind = name_of_wrong_kind
class_number TooFewArguments = too_few_arguments
class_number TooManyArguments = too_many_arguments
class_number TextTooLong = text_too_long
class_number NumberTooLarge = number_too_large
class_number BlankInName = blank_in_name
class_number ValueDropped = value_dropped
class_number NotAllowed = not_allowed
class_number WhileWithoutWend = while_without_wend

abbrev pub severity_of : Class → ℕ
severity_of LabelsNotRising = error_note
severity_of TargetMissing = error_note
severity_of RestoreTargetMissing = warning_note
severity_of KindsDiffer = error_note
severity_of NameOfWrongKind = error_note
severity_of TooFewArguments = error_note
severity_of TooManyArguments = error_note
severity_of TextTooLong = error_note
severity_of NumberTooLarge = error_note
severity_of BlankInName = warning_note
severity_of ValueDropped = warning_note
severity_of NotAllowed = error_note
severity_of WhileWithoutWend = error_note
