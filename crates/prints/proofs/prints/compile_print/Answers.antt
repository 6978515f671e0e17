use Rattle.prints.proofs.PrintLaws.{print_of}
use Rattle.prints.proofs.prints.compile_print.Goals as goal

pub returns-clause-value : goal.returns-clause-value
returns-clause-value c = λ k. print_of _ _ _ _ _ _ _ _ _ _ _ _ _ _ c.read_payload-c.ensures c.print_each-x.ensures.value (c.empty_line.ensures.value c.args.src.now.text.now) c.emit.ensures.value
