use Rattle.std.proofs.Common.{◌≡◌, ◌-◌}
use Rattle.sheet.specs.Skip.{skip_repeat}
use Rattle.expressions.specs.Lists.{two_on}
use Rattle.jumps.proofs.jump.behind_targets.Given as goal

abbrev pub invariant-loop : goal.invariant-loop
invariant-loop l = skip_repeat l.sheet (two_on l.sheet) (l.n - l.counter) l.p ≡ skip_repeat l.sheet (two_on l.sheet) l.n l.at
