use Rattle.std.proofs.Common.{◌≡◌, List, length}
use Rattle.std.specs.Io.KnownBytes.{Consumes}
use Rattle.std.specs.List.{flat_map}
use Rattle.feed.proofs.pass_over.Given as goal

abbrev pub invariant-loop-i : goal.invariant-loop-i
invariant-loop-i g l =
    (passed : List _) × (length passed ≡ l._i)
    × Consumes (g.R.Read.remaining l.initial.input) (g.R.Read.remaining l.input) (flat_map g.N.Number.bytes_of passed)
