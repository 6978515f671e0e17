use Rattle.prints.proofs.PrintLaws.{value_tab, value_plain}
use Rattle.prints.proofs.prints.print_value.Goals as goal

pub returns-then-is_tab_spc-clause-value : goal.returns-then-is_tab_spc-clause-value
returns-then-is_tab_spc-clause-value c = value_tab _ _ _ _ _ _ _ _ _ _ _ _ _ _ _ c.node_range-er.ensures c.is_tab_spc.ensures c.if-is_tab_spc.true c.behind.ensures c.behind-p.ensures c.tab_call-x.ensures.value (c.behind_value.ensures.value c.args.src.now.text.now)

pub returns-else-is_tab_spc-clause-value : goal.returns-else-is_tab_spc-clause-value
returns-else-is_tab_spc-clause-value c = value_plain _ _ _ _ _ _ _ _ _ _ _ _ _ _ _ c.node_range-er.ensures c.is_tab_spc.ensures c.if-is_tab_spc.false c.compile_expr-x.ensures.value c.emit_by.ensures.value (c.behind_value-else-is_tab_spc.ensures.value c.args.src.now.text.now)
