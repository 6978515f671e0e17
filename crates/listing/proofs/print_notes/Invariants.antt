use Rattle.std.proofs.Common.{take}
use Rattle.std.specs.Io.KnownBytes.{Appends}
use Rattle.std.specs.List.{flat_map}
use Rattle.listing.specs.Text.{note_line}
use Rattle.listing.proofs.print_notes.Given as goal

abbrev pub invariant-loop-words : goal.invariant-loop-words
invariant-loop-words g l =
    Appends (g.W.Write.contents l.initial.out) (g.W.Write.contents l.out) (flat_map note_line (take l.words-index l.rows))
