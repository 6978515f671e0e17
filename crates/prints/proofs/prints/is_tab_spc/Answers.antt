use Rattle.sheet.proofs.Cases.{expr_number, expr_other}
use Rattle.prints.proofs.PrintLaws.{tab_func, tab_other}
use Rattle.prints.proofs.prints.is_tab_spc.Goals as goal

pub returns-in-SysFuncCall : goal.returns-in-SysFuncCall
returns-in-SysFuncCall c = tab_func c.args.sheet.now c.args.left c.args.at _ _ _ _ _ _ c.if-left-eq0.false c.payload_at.ensures (expr_number _ _ c.in-SysFuncCall.ensures) c.behind.ensures c.behind-p.ensures c.behind-in-SysFuncCall.ensures c.payload_at-k.ensures c.is_tab_or_spc.ensures

pub returns-in_default : goal.returns-in_default
returns-in_default c = tab_other c.args.sheet.now c.args.left c.args.at _ c.payload_at.ensures (expr_other _ _ _ c.of.ensures c.in_default.not-SysFuncCall)
