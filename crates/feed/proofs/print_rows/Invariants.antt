use Rattle.std.proofs.Common.{◌-◌, List, Option, ℕ}
use Rattle.std.specs.Io.KnownBytes.{Appends}
use Rattle.feed.specs.Text.{rows_from}
use Rattle.feed.proofs.print_rows.Given as goal

-- once the rows of the rest are written too, all are
abbrev pub invariant-loop-i : goal.invariant-loop-i
invariant-loop-i g l =
    (end : Option (List ℕ)) → Appends (g.W.Write.contents l.out) end (rows_from l.mark l.rest l.size (l.count - l._i))
    → Appends (g.W.Write.contents l.initial.out) end (rows_from l.mark l.words l.size l.count)
