use Rattle.std.proofs.Common.{take}
use Rattle.std.specs.Io.KnownBytes.{Consumes}
use Rattle.std.specs.List.{flat_map}
use Rattle.feed.proofs.fill.Given as goal

abbrev pub invariant-loop-number : goal.invariant-loop-number
invariant-loop-number g l =
    Consumes (g.R.Read.remaining l.initial.input) (g.R.Read.remaining l.input) (flat_map g.N.Number.bytes_of (take l.number-index l.numbers))
