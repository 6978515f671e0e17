-- The rules give what the table of pairs says.
use Rattle.std.proofs.Common.{◌≡◌, map, refl}
use Rattle.rules.specs.Pairs.{Pair, pairs, rules_show}
use Rattle.recorder.specs.Closing as RecorderClosing
use Rattle.recorder.specs.Ideal as RecorderIdeal
use Rattle.recorder.specs.Marks as RecorderMarks
use Rattle.recorder.specs.Name as RecorderName
use Rattle.recorder.specs.Word as RecorderWord
use Rattle.sheet.specs.Check as SheetCheck
use Rattle.sheet.specs.Form as SheetForm
use Rattle.sheet.specs.Skip as SheetSkip
use Rattle.sheet.specs.Table as SheetTable
use Rattle.sheet.specs.Tree as SheetTree
use Rattle.rules.specs.Demand as RulesDemand
use Rattle.rules.specs.Expr as RulesExpr
use Rattle.rules.specs.Name as RulesName
use Rattle.rules.specs.Outcome as RulesOutcome
use Rattle.rules.specs.Piles as RulesPiles
use Rattle.rules.specs.Program as RulesProgram
use Rattle.rules.specs.Stmt as RulesStmt
use Rattle.rules.specs.Tables as RulesTables

pub pairs_shown : map rules_show pairs ≡ map (λ (p : Pair). p.shows) pairs
unfolding RecorderClosing.end_from RecorderClosing.close_whiles RecorderClosing.open_notes RecorderClosing.rounded RecorderClosing.delay_from RecorderClosing.delays RecorderClosing.clean_up RecorderIdeal.how_many RecorderIdeal.find_name RecorderIdeal.symbol_of RecorderIdeal.change RecorderMarks.addr_of RecorderMarks.data_of RecorderName.same_units RecorderName.same_name RecorderWord.next SheetCheck.has_surrogate SheetCheck.checked SheetForm.name_tail SheetForm.is_name SheetForm.take_word SheetForm.non_empty_form SheetForm.high_form SheetForm.low_form SheetForm.number_form SheetForm.range_form SheetForm.text_form SheetForm.name_form SheetForm.datum_form SheetForm.item_form SheetForm.pair_form SheetForm.repeat_form SheetForm.list_form SheetForm.times_form SheetForm.field_form SheetForm.fields_form SheetForm.body_form SheetForm.node_form SheetForm.line_head SheetForm.label_form SheetForm.line_form SheetForm.end_form SheetForm.lines_form SheetForm.sheet_form SheetSkip.skip_item SheetSkip.skip_pair SheetSkip.skip_repeat SheetSkip.skip_list SheetSkip.skip_times SheetSkip.skip_field SheetSkip.skip_fields SheetSkip.skip_node SheetTable.expr_fields SheetTable.stmt_fields SheetTree.count SheetTree.shape_of SheetTree.exprs_at SheetTree.items_at SheetTree.expr_node SheetTree.expr_at SheetTree.stmts_at SheetTree.stmt_node SheetTree.stmt_at SheetTree.program_at RulesDemand.some_below RulesDemand.reached RulesExpr.quoted_length RulesExpr.compile_sym RulesExpr.check_type RulesExpr.check_real RulesExpr.real_sym RulesExpr.var_node RulesExpr.text_node RulesExpr.number_node RulesExpr.arity_notes RulesExpr.func_notes RulesExpr.func_node RulesExpr.like_node RulesExpr.arith_node RulesExpr.binary_node RulesExpr.unary_node RulesExpr.compile_lvalue RulesExpr.compile_expr RulesName.name_length RulesName.read_name RulesOutcome.compiled RulesOutcome.finished RulesOutcome.sized RulesOutcome.outcome RulesPiles.taken RulesPiles.symbol_type RulesPiles.operands RulesPiles.arguments RulesPiles.field_wants RulesPiles.effect_of RulesPiles.step RulesProgram.compile_line RulesProgram.compile_lines RulesProgram.resolve RulesProgram.close_up RulesStmt.byte_units RulesStmt.surplus_notes RulesStmt.draw_node RulesStmt.datum_node RulesStmt.compile_data RulesStmt.compile_def RulesStmt.dim_one RulesStmt.compile_dim RulesStmt.compile_fields RulesStmt.compile_field RulesStmt.compile_for RulesStmt.compile_go RulesStmt.input_var RulesStmt.input_vars RulesStmt.compile_input RulesStmt.assign_node RulesStmt.compile_let RulesStmt.bad_bytes RulesStmt.all_bytes RulesStmt.load_bytes RulesStmt.load_node RulesStmt.compile_load RulesStmt.compile_locate RulesStmt.next_each RulesStmt.compile_next RulesStmt.on_jumps RulesStmt.compile_on RulesStmt.compile_open RulesStmt.print_each RulesStmt.compile_print RulesStmt.compile_read RulesStmt.compile_swap RulesStmt.compile_while RulesStmt.write_value RulesStmt.write_each RulesStmt.compile_stmt RulesTables.signature_of RulesTables.draw_arity RulesTables.operand
pairs_shown = refl
