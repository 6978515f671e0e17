-- The labelled lines in chains, all of them.
use Rattle.std.specs.Prelude.{List}
use Rattle.recorder.specs.Marks.{Mark}
use Rattle.labels.specs.declared.chains.Chains.{Chains}
use Rattle.labels.specs.Chains.{Chained}

abbrev pub Indexed : Chains → List Mark → Type 0
Indexed c ms = Chained c.work.now c.lines c.chains c.lines ms
