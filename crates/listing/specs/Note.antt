-- Which note stands in four words of the notes.
use Rattle.std.specs.Prelude.{◌≡◌, ℕ, List, slice_index}
use Rattle.recorder.specs.Word.{kind, payload, range_of}
use Rattle.listing.specs.declared.Note.{Note}

-- the class and the line from the head, the range from the word behind it
abbrev pub IsNote : List ℕ → Note → Type 0
IsNote words note = note ≡ record {
  class = kind (slice_index words 0);
  line = payload (slice_index words 0);
  range = range_of (slice_index words 1);
}
