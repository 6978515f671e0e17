use lib.Dec.{eqb}
use Rattle.recorder.specs.Word.{payload_at}
use Rattle.prints.proofs.PrintLaws.{behind_blank}
use Rattle.prints.proofs.prints.behind_value.Goals as goal

pub returns-then-wants_blank-clause-value : goal.returns-then-wants_blank-clause-value
returns-then-wants_blank-clause-value c = λ t. behind_blank t 0 c.args.tabbed c.args.r c.args.er c.args.more (eqb (payload_at c.args.src.now.sheet.now c.args.at) 0) _ _ _ c.if-more-lt2.false c.wants_blank.ensures c.if-wants_blank.true (c.blank_between.ensures.value t 0)
