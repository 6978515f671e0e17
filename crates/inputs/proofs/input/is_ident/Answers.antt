use Rattle.sheet.proofs.Cases.{expr_number, expr_other}
use Rattle.inputs.proofs.InputLaws.{ident_yes, ident_no}
use Rattle.inputs.proofs.input.is_ident.Goals as goal

pub returns-in-Ident : goal.returns-in-Ident
returns-in-Ident c = ident_yes c.args.sheet.now c.args.left c.args.at _ c.if-left-eq0.false c.payload_at.ensures (expr_number _ _ c.in-Ident.ensures)

pub returns-in_default : goal.returns-in_default
returns-in_default c = ident_no c.args.sheet.now c.args.left c.args.at _ c.if-left-eq0.false c.payload_at.ensures (expr_other _ _ _ c.of.ensures c.in_default.not-Ident)
