use Rattle.std.specs.Io.KnownBytes.{Appends}
use Rattle.listing.specs.Text.{record_lines}
use Rattle.listing.proofs.print_records.Given as goal

abbrev pub invariant-loop-address : goal.invariant-loop-address
invariant-loop-address g l =
    Appends (g.W.Write.contents l.initial.out) (g.W.Write.contents l.out) (record_lines l.rows l.address)
