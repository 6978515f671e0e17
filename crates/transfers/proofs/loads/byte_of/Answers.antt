use Rattle.sheet.proofs.Cases.{expr_number, expr_other}
use Rattle.transfers.proofs.LoadLaws.{byte_literal, byte_other}
use Rattle.transfers.proofs.loads.byte_of.Goals as goal

pub returns-in-NumberLit : goal.returns-in-NumberLit
returns-in-NumberLit c = byte_literal c.args.src.now.sheet.now c.args.src.now.text.now c.args.src.now.base c.args.left c.args.at _ _ _ _ c.byte_units.result _ c.if-left-eq0.false c.payload_at.ensures (expr_number _ _ c.in-NumberLit.ensures) c.node_range-r.ensures (rw c.from.ensures at c.text_place-a.ensures) c.units-n.ensures c.byte_units.ensures c.byte.ensures

pub returns-in_default : goal.returns-in_default
returns-in_default c = byte_other c.args.src.now.sheet.now c.args.src.now.text.now c.args.src.now.base c.args.left c.args.at _ c.payload_at.ensures (expr_other _ _ _ c.of.ensures c.in_default.not-NumberLit)
