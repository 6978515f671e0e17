use Rattle.rules.specs.Expr.{compile_sym}
use Rattle.nodes.proofs.node.compile_sym.Goals as goal

pub returns-clause-value : goal.returns-clause-value
unfolding compile_sym
returns-clause-value c = rw (← c.read_name-n.ensures, ← c.blank_note.ensures.value c.args.src.now.text.now c.args.src.now.base, c.make_symbol-y.ensures.value, c.make_symbol-y.ensures.number)
